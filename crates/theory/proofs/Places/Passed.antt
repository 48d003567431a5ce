-- Laws of places that are read on: one run's place raised, and the places after some entries.
-- Beside the worked cases only this file looks inside `bump` and `count`.
--     bump-same, bump-other, bump-le          the place of one run raised
--     passed-append, passed-count, passed-le  the places after some entries: each raised by the entries of its run
--     count-append                            the entries of a run in two parts
use Rattle.std.specs.Prelude.{◌≡◌, eqb}
use Rattle.std.proofs.Math.Path.{refl, sym}
use Rattle.std.proofs.Common.{ap, ◌∙◌, add-zero, arith, eq-eqb, ne_eqb, eqb-true}
use Prim.Native.Nat.{ℕ, suc, ◌+◌, ◌≤◌}
use mathlib.Core.List.{List, [], ◌∷◌, ◌++◌}
use Rattle.std.proofs.lemmas.Bool.{eqb-false}
use Rattle.theory.specs.Tests.{split, cases}
use Rattle.theory.specs.View.{Entry}
use Rattle.theory.specs.Places.{bump, passed, count}

module _ (p : ℕ → ℕ) (i j : ℕ) where
  pub bump-same : i ≡ j → bump p i j ≡ suc (p j)
  unfolding bump
  bump-same e = rw (eq-eqb i j e)

  pub bump-other : (i ≡ j → ⊥) → bump p i j ≡ p j
  unfolding bump
  bump-other d = rw (ne_eqb i j d)

  pub bump-le : p j ≤ bump p i j
  bump-le = cases (eqb i j) (λ y. omega (arith, bump-same (eqb-true i j y))) (λ n. omega (arith, bump-other (eqb-false i j n)))

module _ {A : Type 0} where
  pub passed-append : (p : ℕ → ℕ) (s u : List (Entry A)) → passed p (s ++ u) ≡ passed (passed p s) u
  unfolding passed
  passed-append p [] u = refl
  passed-append p (e ∷ s) u = passed-append (bump p e.run) s u

  pub passed-count : (p : ℕ → ℕ) (s : List (Entry A)) (i : ℕ) → passed p s i ≡ p i + count i s
  unfolding passed count
  passed-count p [] i = sym (add-zero (p i))
  passed-count p (e ∷ s) i =
      passed-count (bump p e.run) s i
      ∙ split (λ n. bump p e.run i + count i s ≡ p i + n) (eqb e.run i) {x = suc (count i s)} {y = count i s}
      (λ y. omega (arith, bump-same p e.run i (eqb-true _ _ y)))
      (λ n. omega (arith, bump-other p e.run i (eqb-false _ _ n)))

  pub passed-le : (p : ℕ → ℕ) (s : List (Entry A)) (i : ℕ) → p i ≤ passed p s i
  passed-le p s i = omega (arith, passed-count p s i)

  pub count-append : (i : ℕ) (s u : List (Entry A)) → count i (s ++ u) ≡ count i s + count i u
  count-append i s u =
      let z : ℕ → ℕ = λ _. 0 in
      let parts : passed z (s ++ u) i ≡ passed (passed z s) u i = ap (λ (q : ℕ → ℕ). q i) (passed-append z s u) in
      omega (arith, passed-count z (s ++ u) i, passed-count (passed z s) u i, passed-count z s i)
