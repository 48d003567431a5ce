-- Laws of one run over another and of all runs made one. Those of folds are in `Chains.antt`.
--     over-mem, mem-over                          the records of `over` are those that stay
--     over-shows, shows-over                      two runs made one hide what either of them hides
--     over-good, merged-good, nil-good            good runs make good runs
--     over-assoc                                  of three runs it does not matter which two are made one first
--     over-nil-left, over-nil-right, over-self    an empty run and a copy add nothing
--     merged-one, merged-front, merged-append     one run; other runs of the same merge; two trays end to end
--     merged-mem, mem-merged                      the merge has the records that are not old, and no others
--     hides-itself, merged-covers                 a run hides each of its records, and the merge those of every run
use Rattle.std.specs.Prelude.{◌≡◌, refl, ℕ, Bool, true, false}
use Rattle.std.proofs.Math.Path.{sym, ap}
use Rattle.std.proofs.Common.{◌∙◌}
use Rattle.std.proofs.Math.Logic.{inl, inr, ⊎_elim}
use Rattle.std.proofs.Math.Bool.{not}
use mathlib.Core.List.Memᴰ
use mathlib.Core.List.{List, [], ◌∷◌, ◌++◌}
use borrow.Author.Tests.{not-true}
use Rattle.theory.specs.Tests.{cases, clash, or_left, or_right}
use Rattle.theory.specs.Lists.{here, all_nil, all_tail}
use Rattle.theory.specs.Rising.{Mem, All, none, any, keep}
use Rattle.theory.proofs.Rising.Laws.{same-members}
use Rattle.theory.proofs.Rising.Kept.{mem-keep, keep-mem, rises-keep, any-nil, any-cons, keep_all}
use Rattle.theory.proofs.Rising.Inserted.{mem-insert_all, insert_all-mem, rises-insert_all, insert_all-nil}
use Rattle.theory.specs.Hiding.{Rule}
use Rattle.theory.specs.Merge.{hidden, over, merged, GoodRun, Good}
use Rattle.theory.proofs.Merge.Hidden.{hidden-by, hidden-some, hidden-none, none_hidden, Stays, NotOld}

module _ {A : Type 0} (key : A → ℕ) (hides : A → A → Bool) where
  pub over-mem : {x : A} (newer older : List A) → Mem x (over key hides newer older) → Stays hides newer older x
  unfolding over
  over-mem newer older m =
      ⊎_elim inl (λ n. let k = keep-mem _ older n in inr (k.0, not-true _ k.1)) (insert_all-mem key newer _ m)

  pub mem-over : {x : A} (newer older : List A) → Stays hides newer older x → Mem x (over key hides newer older)
  unfolding over
  mem-over newer older w =
      mem-insert_all key newer _ (⊎_elim inl (λ k. inr (mem-keep _ older k.0 (ap not k.1))) w)

  pub over-nil-left : (run : List A) → over key hides [] run ≡ run
  unfolding over
  over-nil-left run =
      insert_all-nil key _ ∙ keep_all _ run (λ a m. ap not (hidden-none hides {x = a} [] (all_nil _)))

  -- under the same newer runs, other runs of the same merge
  pub merged-front : (s t u : List (List A)) → merged key hides t ≡ merged key hides u
      → merged key hides (s ++ t) ≡ merged key hides (s ++ u)
  unfolding merged
  merged-front [] t u e = e
  merged-front (r ∷ s) t u e = ap (over key hides r) (merged-front s t u e)

  pub merged-mem : {x : A} (t : List (List A)) → Mem x (merged key hides t) → NotOld hides x t
  unfolding merged
  merged-mem [] m = absurd (Memᴰ.not-nil m)
  merged-mem {x} (r ∷ t) m = ⊎_elim this (λ k. later (merged-mem t k.0) k.1) (over-mem r (merged key hides t) m)
    where
      this : Mem x r → NotOld hides x (r ∷ t)
      this n = record { newer = []; run = r; older = t; splits = refl; stands = n; unhidden = any-nil _ }

      later : NotOld hides x t → hidden hides r x ≡ false → NotOld hides x (r ∷ t)
      later w f =
          record {
            newer = r ∷ w.newer;
            run = w.run;
            older = w.older;
            splits = ap (λ l. r ∷ l) w.splits;
            stands = w.stands;
            unhidden = rw (any-cons, f) w.unhidden;
          }

  -- the way back, for a tray that stands taken apart
  mem-split : {x : A} (s : List (List A)) (r : List A) (u : List (List A)) → Mem x r → any (λ q. hidden hides q x) s ≡ false
      → Mem x (merged key hides (s ++ (r ∷ u)))
  unfolding merged
  mem-split [] r u m f = mem-over r (merged key hides u) (inl m)
  mem-split {x} (q ∷ s) r u m f =
      let either = rw any-cons at f in
      mem-over q (merged key hides (s ++ (r ∷ u))) (inr (mem-split s r u m (or_right (hidden hides q x) _ either), or_left _ _ either))

  pub mem-merged : {x : A} (t : List (List A)) → NotOld hides x t → Mem x (merged key hides t)
  mem-merged t w = rw w.splits (mem-split w.newer w.run w.older w.stands w.unhidden)

  -- what neither run hides, the two made one do not hide
  pub shows-over : (x : A) (a b : List A) → hidden hides a x ≡ false → hidden hides b x ≡ false
      → hidden hides (over key hides a b) x ≡ false
  shows-over x a b f g =
      hidden-none hides _ (λ y m. ⊎_elim (λ n. none_hidden hides a f n) (λ k. none_hidden hides b g k.0) (over-mem a b m))

  module _ {Ok : A → Type 0} (R : Rule Ok key hides) where
    pub hides-itself : {x : A} (run : List A) → Mem x run → hidden hides run x ≡ true
    hides-itself {x} run m = hidden-some hides run m (R.same_key x x refl)

    -- what the two made one do not hide, neither run hides: what hides a hidden record hides all that it hides
    pub over-shows : {x : A} {a b : List A} → GoodRun Ok key a → GoodRun Ok key b → Ok x
        → hidden hides (over key hides a b) x ≡ false → (hidden hides a x ≡ false) × (hidden hides b x ≡ false)
    over-shows {x} {a} {b} ga gb ok f = (
      hidden-none hides a (λ y m. shows y (inl m)),
      hidden-none hides b (λ y m. cases (hidden hides a y) (through y m) (λ g. shows y (inr (m, g)))),
    )
      where
        shows : (y : A) → Stays hides a b y → hides y x ≡ false
        shows y w = none_hidden hides (over key hides a b) f (mem-over a b w)

        through : (y : A) → Mem y b → hidden hides a y ≡ true → hides y x ≡ false
        through y m h =
            let z = hidden-by hides a h in
            cases (hides y x)
            (λ t. clash (R.through z.0 y x (ga.sound _ z.1) (gb.sound y m) ok z.2 t) (shows z.0 (inl z.1)))
            (λ n. n)

    pub over-good : {newer older : List A} → GoodRun Ok key newer → GoodRun Ok key older
        → GoodRun Ok key (over key hides newer older)
    unfolding over
    over-good {newer} {older} g h =
        record {
          rises = rises-insert_all key g.rises apart (rises-keep _ key h.rises);
          sound = λ x m. ⊎_elim (λ n. g.sound x n) (λ k. h.sound x k.0) (over-mem newer older m);
        }
      where
        apart : (a : A) → Mem a newer → (b : A) → Mem b (keep (λ c. not (hidden hides newer c)) older) → key b ≡ key a → ⊥
        apart a m b n e = clash (hidden-some hides newer m (R.same_key a b (sym e))) (not-true _ (keep-mem _ older n).1)

    -- the records of three runs, the older two made one first
    assoc-right : {a b : List A} {x : A} (c : List A) → GoodRun Ok key a → GoodRun Ok key b → GoodRun Ok key c
        → Mem x (over key hides (over key hides a b) c) → Stays hides a (over key hides b c) x
    assoc-right {a} {b} {x} c ga gb gc m =
        ⊎_elim
        (λ n. ⊎_elim inl (λ k. inr (mem-over b c (inl k.0), k.1)) (over-mem a b n))
        (λ k. let w = over-shows ga gb (gc.sound x k.0) k.1 in inr (mem-over b c (inr (k.0, w.1)), w.0))
        (over-mem (over key hides a b) c m)

    -- the newer two first
    assoc-left : {x : A} (a b c : List A) → Mem x (over key hides a (over key hides b c)) → Stays hides (over key hides a b) c x
    assoc-left {x} a b c m =
        ⊎_elim
        (λ n. inl (mem-over a b (inl n)))
        (λ w. ⊎_elim (λ k. inl (mem-over a b (inr (k, w.1)))) (λ k. inr (k.0, shows-over x a b w.1 k.1)) (over-mem b c w.0))
        (over-mem a (over key hides b c) m)

    pub over-assoc : {a b c : List A} → GoodRun Ok key a → GoodRun Ok key b → GoodRun Ok key c
        → over key hides (over key hides a b) c ≡ over key hides a (over key hides b c)
    over-assoc {a} {b} {c} ga gb gc =
        same-members key (over-good (over-good ga gb) gc).rises (over-good ga (over-good gb gc)).rises
        (λ x m. mem-over a (over key hides b c) (assoc-right c ga gb gc m))
        (λ x m. mem-over (over key hides a b) c (assoc-left a b c m))

    -- a run that hides all of the other is left as it is
    over-all : {r q : List A} → GoodRun Ok key r → GoodRun Ok key q → All (λ x. hidden hides r x ≡ true) q → over key hides r q ≡ r
    over-all {r} {q} g h all =
        same-members key (over-good g h).rises g.rises
        (λ x m. ⊎_elim (λ n. n) (λ k. clash (all x k.0) k.1) (over-mem r q m)) (λ x m. mem-over r q (inl m))

    pub nil-good : GoodRun Ok key []
    nil-good = record { rises = none; sound = all_nil _ }

    pub over-nil-right : {r : List A} → GoodRun Ok key r → over key hides r [] ≡ r
    over-nil-right g = over-all g nil-good (all_nil _)

    pub over-self : {r : List A} → GoodRun Ok key r → over key hides r r ≡ r
    over-self {r} g = over-all g g (λ x m. hides-itself r m)

    pub merged-good : (t : List (List A)) → Good Ok key t → GoodRun Ok key (merged key hides t)
    unfolding merged
    merged-good [] g = nil-good
    merged-good (r ∷ t) g = over-good (g r here) (merged-good t (all_tail g))

    pub merged-one : {r : List A} → GoodRun Ok key r → merged key hides (r ∷ []) ≡ r
    unfolding merged
    merged-one g = over-nil-right g

    pub merged-append : (s t : List (List A)) → Good Ok key s → Good Ok key t
        → merged key hides (s ++ t) ≡ over key hides (merged key hides s) (merged key hides t)
    unfolding merged
    merged-append [] t gs gt = sym (over-nil-left (merged key hides t))
    merged-append (r ∷ s) t gs gt =
        ap (over key hides r) (merged-append s t (all_tail gs) gt)
        ∙ sym (over-assoc (gs r here) (merged-good s (all_tail gs)) (merged-good t gt))

    pub merged-covers : {r : List A} {x : A} (t : List (List A)) → Good Ok key t → Mem r t → Mem x r
        → hidden hides (merged key hides t) x ≡ true
    unfolding merged
    merged-covers [] g m n = absurd (Memᴰ.not-nil m)
    merged-covers {r} {x} (q ∷ t) g m n =
        cases (hidden hides (merged key hides (q ∷ t)) x) (λ h. h)
        (λ f. let w = over-shows (g q here) (merged-good t (all_tail g)) ((g r m).sound x n) f in
        ⊎_elim (λ e. clash (hides-itself q (rw e at n)) w.0) (λ k. clash (merged-covers t (all_tail g) k n) w.1) (Memᴰ.cases_cons m))
