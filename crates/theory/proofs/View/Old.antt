-- Laws of `old`: what hides an entry, and in edition 0 that its neighbour in the view tells.
-- Beside the worked cases only this file and `View/Visible.antt` look inside it.
--     old-some, some-old           old is: an entry of a lower-numbered run hides it
--     old-before, before-old       edition 0: an entry before it in the view has its key
--     old-neighbour, old-first     edition 0: the entry just before it has its key; the first entry is not old
use Rattle.std.specs.Prelude.{◌≡◌, Bool, true, false, length, take, eqb}
use Rattle.std.proofs.Common.{sym, ◌∙◌, eqb-true, eq-eqb}
use Rattle.std.proofs.Math.Path.{ap}
use Rattle.std.proofs.Math.Logic.{⊎_elim}
use Prim.Native.Nat.{ℕ, zero, suc, ◌<◌, ◌≤◌}
use native.Mathlib.Omega.{arith}
use mathlib.Core.List.Memᴰ
use mathlib.Core.List.{List, [], ◌∷◌, ◌++◌}
use Rattle.std.proofs.Math.Seq.{append_snoc}
use Rattle.theory.specs.Tests.{cases, same_test}
use Rattle.theory.specs.Lists.{here}
use Rattle.theory.specs.Rising.{Mem, Rises}
use Rattle.theory.proofs.Rising.Laws.{rises-across, rises-before}
use Rattle.theory.proofs.Rising.Kept.{some-any, any_some}
use Rattle.theory.specs.Hiding.{same_key}
use Rattle.theory.specs.Merge.{hidden, Good}
use Rattle.theory.proofs.Merge.Hidden.{hidden-by, hidden-some}
use Rattle.theory.specs.View.{Entry, run_at, At, rank, view, old}
use Rattle.theory.proofs.View.Entries.{at_low, at_mem, at-run, mem-at}
use Rattle.theory.proofs.View.Laws.{view-at, at-view, view-rises}

module _ {A : Type 0} where
  -- the runs before number n, and their numbers
  take-run : (t : List (List A)) (n : ℕ) {r : List A} → Mem r (take n t) → (i : ℕ) × (i < n) × (r ≡ run_at t i)
  unfolding run_at
  take-run t zero m = absurd (Memᴰ.not-nil m)
  take-run [] (suc n) m = absurd (Memᴰ.not-nil m)
  take-run (q ∷ t) (suc n) {r} m =
      ⊎_elim (λ e. (zero, omega arith, e)) (λ k. let w = take-run t n k in (suc w.0, omega arith, w.2)) (Memᴰ.cases_cons m)

  run_take : (t : List (List A)) (n i : ℕ) → i < n → i < length t → Mem (run_at t i) (take n t)
  unfolding run_at
  run_take t zero i l k = absurd (omega arith)
  run_take [] (suc n) i l k = absurd (omega arith)
  run_take (r ∷ t) (suc n) zero l k = here
  run_take (r ∷ t) (suc n) (suc i) l k = Memᴰ.tail (run_take t n i (omega arith) (omega arith))

  module _ (hides : A → A → Bool) (t : List (List A)) where
    pub old-some : (e : Entry A) → old hides t e ≡ true
        → (x : Entry A) × At t x × (x.run < e.run) × (hides x.item e.item ≡ true)
    unfolding old
    old-some e h =
        let w = any_some _ (take e.run t) h in
        let i = take-run t e.run w.1 in
        let v = hidden-by hides (run_at t i.0) (ap (λ r. hidden hides r e.item) (sym i.2) ∙ w.2) in
        let x = mem-at t i.0 v.1 in
        (x.0, x.1, omega arith, ap (λ a. hides a e.item) x.3 ∙ v.2)

    pub some-old : (x e : Entry A) → At t x → x.run < e.run → hides x.item e.item ≡ true → old hides t e ≡ true
    unfolding old
    some-old x e a l h =
        some-any _ (take e.run t) (run_take t e.run x.run l (at-run t x a))
        (hidden-some hides (run_at t x.run) (at_mem t x a) h)

  module _ {Ok : A → Type 0} {key : A → ℕ} {t : List (List A)} (good : Good Ok key t) (few : length t ≤ 64) where
    module _ (b : List (Entry A)) (e : Entry A) (w : List (Entry A)) (is : view key t ≡ b ++ (e ∷ w)) where
      up : Rises (rank key) (b ++ (e ∷ w))
      up = rw is at (view-rises good few)

      earlier : (x : Entry A) → Mem x b → rank key x < rank key e
      earlier x m = rises-across (rank key) b (e ∷ w) up x m e here

      low : (x : Entry A) → Mem x (b ++ (e ∷ w)) → x.run < 64
      low x m = at_low t x few (view-at key t x (rw is m))

      pub before-old : (x : Entry A) → Mem x b → key x.item ≡ key e.item → old (same_key key) t e ≡ true
      before-old x m p =
          let a = view-at key t x (rw is (Memᴰ.append_left (e ∷ w) m)) in
          some-old (same_key key) t x e a (omega (arith, earlier x m)) (eq-eqb _ _ p)

      pub old-before : old (same_key key) t e ≡ true → (x : Entry A) × Mem x b × (key x.item ≡ key e.item)
      old-before h =
          let o = old-some (same_key key) t e h in let p : key o.0.item ≡ key e.item = eqb-true _ _ o.3 in
          (o.0, rises-before (rank key) b w up (rw is at (at-view key t o.0 o.1)) (omega arith), p)

    pub old-first : (e : Entry A) (w : List (Entry A)) → view key t ≡ e ∷ w → old (same_key key) t e ≡ false
    old-first e w is = cases (old (same_key key) t e) (λ y. absurd (Memᴰ.not-nil (old-before [] e w is y).1)) (λ n. n)

    module _ (b : List (Entry A)) (e e' : Entry A) (w : List (Entry A)) (is : view key t ≡ b ++ (e ∷ e' ∷ w)) where
      parts : view key t ≡ b ++ (e ∷ []) ++ (e' ∷ w)
      parts = is ∙ sym (append_snoc b e (e' ∷ w))

      -- between two entries of one key stands no other key
      between : (x : Entry A) → Mem x b → key x.item ≡ key e'.item → key e.item ≡ key e'.item
      between x m p =
          let l = earlier b e (e' ∷ w) is x m in
          let l' = earlier (b ++ (e ∷ [])) e' w parts e (Memᴰ.append_right b here) in
          let u = low b e (e' ∷ w) is e (Memᴰ.append_right b here) in
          let u' = low b e (e' ∷ w) is e' (Memᴰ.append_right b (Memᴰ.tail here)) in
          omega arith

      near : (x : Entry A) → Mem x (b ++ (e ∷ [])) → key x.item ≡ key e'.item → key e.item ≡ key e'.item
      near x m p =
          ⊎_elim (λ n. between x n p) (λ n. ap (λ y. key y.item) (sym (Memᴰ.eq_of_singleton n)) ∙ p)
          (Memᴰ.append_cases b m)

      pub old-neighbour : old (same_key key) t e' ≡ eqb (key e.item) (key e'.item)
      old-neighbour =
          same_test (old (same_key key) t e') (eqb (key e.item) (key e'.item))
          (λ y. let o = old-before (b ++ (e ∷ [])) e' w parts y in eq-eqb _ _ (near o.0 o.1 o.2))
          (λ y. before-old (b ++ (e ∷ [])) e' w parts e (Memᴰ.append_right b here) (eqb-true _ _ y))
