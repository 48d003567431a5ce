-- Laws of the view: which entries it holds, in which order, and that no other list is the view.
-- Beside the worked cases only this file looks inside `view`.
--     before→rank, rank→before        one number for the order, up to 64 runs
--     view-at, at-view, view-rises    the view's entries, and that they rise
--     view-is, view-one               the view in the rules' words, and no other list is one
-- Not here: what stands in a tray and where, which is in `View/Entries.antt`.
use Rattle.std.specs.Prelude.{◌≡◌, ℕ, suc, ◌+◌, ◌*◌, ◌<◌, ◌≤◌, length, ltb}
use Rattle.std.proofs.Common.{inl, inr, ltb-true, ltb-false}
use Rattle.std.proofs.Math.Logic.{⊎_elim}
use native.Mathlib.Omega.{arith}
use mathlib.Core.List.Memᴰ
use mathlib.Core.List.{List, [], ◌∷◌, append-nil}
use Rattle.theory.specs.Tests.{cases}
use Rattle.theory.specs.Lists.{here, all_nil, all_tail, place-mem}
use Rattle.theory.specs.Rising.{Mem, All, Rises, none, more, insert_all}
use Rattle.theory.proofs.Rising.Laws.{same-members}
use Rattle.theory.proofs.Rising.Inserted.{mem-insert_all, insert_all-mem, rises-insert_all, permuted-insert_all, permuted-mem, permuted-back, insert_all-append}
use Rattle.theory.specs.Merge.{Good}
use Rattle.theory.specs.View.{Entry, spread, entries_from, entries, At, Before, InOrder, order-none, order-more, IsView, rank, view}
use Rattle.theory.proofs.View.Entries.{InRun, spread-mem, entries-mem, run_at-lt, entries_at, at-entries, at_low}

module _ {A : Type 0} where
  module _ (key : A → ℕ) (e e' : Entry A) where
    pub before→rank : e.run < 64 → Before key e e' → rank key e < rank key e'
    before→rank l (inl b) = omega arith
    before→rank l (inr b) = omega arith

    pub rank→before : e'.run < 64 → rank key e < rank key e' → Before key e e'
    rank→before l b =
        cases (ltb (key e.item) (key e'.item)) (λ t. inl (ltb-true _ _ t))
        (λ f. let low : key e'.item ≤ key e.item = ltb-false _ _ f in inr (omega arith))

  module _ (key : A → ℕ) where
    -- up to 64 runs, standing in order is rising by rank
    order-rises : {v : List (Entry A)} → All (λ e. e.run < 64) v → InOrder key v → Rises (rank key) v
    order-rises few order-none = none
    order-rises few (order-more {e} {es} h r) =
        more (λ b m. before→rank key e b (few e here) (h b m)) (order-rises (all_tail few) r)

    rises-order : {v : List (Entry A)} → All (λ e. e.run < 64) v → Rises (rank key) v → InOrder key v
    rises-order few none = order-none
    rises-order few (more {a} {xs} h r) =
        order-more (λ b m. rank→before key a b (few b (Memᴰ.tail m)) (h b m)) (rises-order (all_tail few) r)

    spread-rises : (i j : ℕ) {xs : List A} → Rises key xs → Rises (rank key) (spread i j xs)
    unfolding spread
    spread-rises i j none = none
    spread-rises i j (more {a} {xs} h r) = more (λ b m. above b (spread-mem i (suc j) xs m)) (spread-rises i (suc j) r)
      where
        above : (b : Entry A) → InRun i (suc j) xs b → key a * 64 + i < rank key b
        above b w = let l : key a < key b.item = h b.item (place-mem xs w.0 w.3) in omega arith

    -- an entry of run i has another number than those of the runs after it
    apart : (i : ℕ) (r : List A) (rs : List (List A)) → i + suc (length rs) ≤ 64
        → {a b : Entry A} → Mem a (spread i 0 r) → Mem b (entries_from (suc i) rs) → rank key b ≡ rank key a → ⊥
    apart i r rs few {a} {b} m n eq =
        let v = spread-mem i 0 r m in let w = entries-mem (suc i) rs n in
        let l : w.0 < length rs = run_at-lt rs w.0 b.place w.2 in omega arith

    -- the entries of all runs, the first of which is number i, put in order
    entries-rise : {Ok : A → Type 0} (i : ℕ) (t : List (List A)) → Good Ok key t → i + length t ≤ 64
        → Rises (rank key) (insert_all (rank key) (entries_from i t) [])
    unfolding entries_from
    entries-rise i [] good few = rises-insert_all (rank key) none (all_nil _) none
    entries-rise i (r ∷ rs) good few =
        rw insert_all-append
        (rises-insert_all (rank key) (spread-rises i 0 (good r here).rises)
        (λ a m b n eq. ⊎_elim (λ k. apart i r rs few m k eq) (λ k. Memᴰ.not-nil k)
        (insert_all-mem (rank key) (entries_from (suc i) rs) [] n))
        (entries-rise (suc i) rs (all_tail good) (omega arith)))

    module _ (t : List (List A)) (e : Entry A) where
      pub view-at : Mem e (view key t) → At t e
      unfolding view
      view-at m = ⊎_elim (λ n. entries_at t e n) (λ n. absurd (Memᴰ.not-nil n)) (insert_all-mem (rank key) (entries t) [] m)

      pub at-view : At t e → Mem e (view key t)
      unfolding view
      at-view a = mem-insert_all (rank key) (entries t) [] (inl (at-entries t e a))

  module _ {Ok : A → Type 0} {key : A → ℕ} {t : List (List A)} (good : Good Ok key t) (few : length t ≤ 64) where
    pub view-rises : Rises (rank key) (view key t)
    unfolding view
    view-rises = entries-rise key 0 t good (omega arith)

    pub view-is : IsView key t (view key t)
    unfolding view
    view-is =
        record {
          all = rw append-nil at (permuted-insert_all (rank key) (entries t) []);
          sorted = rises-order key (λ e m. at_low t e few (view-at key t e m)) view-rises;
        }

    pub view-one : {v : List (Entry A)} → IsView key t v → v ≡ view key t
    view-one {v} w =
        same-members (rank key) (order-rises key (λ e m. at_low t e few (stands e m)) w.sorted) view-rises
        (λ e m. at-view key t e (stands e m)) (λ e m. permuted-mem w.all (at-entries t e (view-at key t e m)))
      where
        stands : (e : Entry A) → Mem e v → At t e
        stands e m = entries_at t e (permuted-mem (permuted-back w.all) m)
