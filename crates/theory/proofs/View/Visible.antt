-- What is visible in the view is the live part of the full merge (docs/RULES.md, "The sorted view" and "Reading through an index").
--     visible-new, visible-live, new-visible     visible is: not old, and live
--     visible-is                                 the view's visible records are the merge's live ones, in its order
-- Not here: the laws of `merged`, which are in `Merge/Laws.antt`.
use Rattle.std.specs.Prelude.{◌≡◌, refl, ℕ, suc, ◌<◌, ◌≤◌, Bool, true, false}
use Rattle.std.proofs.Common.{sym, ◌∙◌, ⊎_elim}
use Rattle.std.proofs.Math.Path.{ap}
use mathlib.Core.List.Memᴰ
use mathlib.Core.List.{List, [], ◌∷◌, map}
use Rattle.std.proofs.Math.ListN.{length, take, get_or, drop}
use Rattle.std.proofs.Math.Seq.{split_at, take-append_seam, get_or-append_seam}
use borrow.Author.Tests.{not-true}
use Rattle.theory.specs.Tests.{clash, and_left, and_right}
use Rattle.theory.specs.Lists.{mem-place}
use Rattle.theory.specs.Rising.{Mem, Rises, keep}
use Rattle.theory.proofs.Rising.Laws.{same-members, rises_by, rises-map}
use Rattle.theory.proofs.Rising.Kept.{mem-keep, keep-mem, rises-keep}
use Rattle.theory.specs.Hiding.{Rule}
use Rattle.theory.specs.Merge.{merged, Good}
use Rattle.theory.proofs.Merge.Laws.{merged-mem, mem-merged, merged-good}
use Rattle.theory.specs.View.{Entry, run_at, At, rank, view, old, visible}
use Rattle.theory.proofs.View.Entries.{at-run, at_low, at_mem}
use Rattle.theory.proofs.View.Laws.{rank→before, view-at, at-view, view-rises}
use Rattle.theory.proofs.View.Old.{some-old}

module _ {A : Type 0} (hides : A → A → Bool) where
  module _ (live : A → Bool) (t : List (List A)) (e : Entry A) where
    pub visible-new : visible hides live t e ≡ true → old hides t e ≡ false
    unfolding visible
    visible-new h = not-true (old hides t e) (and_right (live e.item) _ h)

    pub visible-live : visible hides live t e ≡ true → live e.item ≡ true
    unfolding visible
    visible-live h = and_left _ _ h

    pub new-visible : old hides t e ≡ false → live e.item ≡ true → visible hides live t e ≡ true
    unfolding visible
    new-visible n l = rw (n, l)

  module _ (key : A → ℕ) (t : List (List A)) where
    -- a record of the merge stands in the tray and is not old there
    merged-new : {a : A} → Mem a (merged key hides t) → (e : Entry A) × At t e × (old hides t e ≡ false) × (e.item ≡ a)
    unfolding old run_at
    merged-new {a} m =
        let w = merged-mem key hides t m in let p = mem-place w.run w.stands in let n = length w.newer in
        let run : run_at t n ≡ w.run = ap (λ u. get_or u n []) w.splits ∙ get_or-append_seam w.newer w.run w.older [] in
        let newer : take n t ≡ w.newer = ap (take n) w.splits ∙ take-append_seam w.newer (w.run ∷ w.older) in
        (record { run = n; place = p.0; item = a }, rw run p.1, rw newer w.unhidden, refl)

    -- and the other way round
    new-merged : (e : Entry A) → At t e → old hides t e ≡ false → Mem e.item (merged key hides t)
    unfolding old run_at
    new-merged e a n =
        mem-merged key hides t (record {
          newer = take e.run t;
          run = run_at t e.run;
          older = drop (suc e.run) t;
          splits = split_at t e.run [] (at-run t e a);
          stands = at_mem t e a;
          unhidden = n;
        })

module _ {A : Type 0} {Ok : A → Type 0} {key : A → ℕ} {hides : A → A → Bool} (R : Rule Ok key hides) where
  module _ {t : List (List A)} (good : Good Ok key t) (few : length t ≤ 64) (live : A → Bool) where
    -- the visible entries of the view
    abbrev seen : List (Entry A)
    seen = keep (visible hides live t) (view key t)

    -- of two entries with one key the later is old, so the visible ones rise by key
    apart : (x y : Entry A) → Mem x seen → Mem y seen → rank key x < rank key y → key x.item < key y.item
    apart x y m n l =
        let v = keep-mem (visible hides live t) (view key t) m in let w = keep-mem (visible hides live t) (view key t) n in
        ⊎_elim (λ k. k)
        (λ k. let is = some-old hides t x y (view-at key t x v.0) k.1 (R.same_key _ _ k.0) in
        clash is (visible-new hides live t y w.1))
        (rank→before key x y (at_low t y few (view-at key t y w.0)) l)

    seen-rises : Rises key (map (λ e. e.item) seen)
    seen-rises =
        rises-map key (λ e. e.item)
        (rises_by (rank key) (λ e. key e.item) (rises-keep (visible hides live t) (rank key) (view-rises good few)) apart)

    seen-merged : (a : A) → Mem a (map (λ e. e.item) seen) → Mem a (keep live (merged key hides t))
    seen-merged a m =
        let w = Memᴰ.of_map (λ e. e.item) seen m in let e = w.0 in
        let v = keep-mem (visible hides live t) (view key t) w.1 in
        let new = new-merged hides key t e (view-at key t e v.0) (visible-new hides live t e v.1) in
        Memᴰ.cast (sym w.2) (mem-keep live (merged key hides t) new (visible-live hides live t e v.1))

    merged-seen : (a : A) → Mem a (keep live (merged key hides t)) → Mem a (map (λ e. e.item) seen)
    merged-seen a m =
        let v = keep-mem live (merged key hides t) m in
        let w = merged-new hides key t v.0 in let e = w.0 in
        let new = new-visible hides live t e w.2 (ap live w.3 ∙ v.1) in
        let m' = mem-keep (visible hides live t) (view key t) (at-view key t e w.1) new in
        Memᴰ.cast (sym w.3) (Memᴰ.map (λ e. e.item) m')

    pub visible-is : map (λ e. e.item) (keep (visible hides live t) (view key t)) ≡ keep live (merged key hides t)
    visible-is = same-members key seen-rises (rises-keep live key (merged-good key hides R t good).rises) seen-merged merged-seen
