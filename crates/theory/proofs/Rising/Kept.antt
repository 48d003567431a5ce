-- Laws of `any` and `keep`. Beside the worked cases only this file looks inside them.
--     any-nil, any-cons                            the first steps
--     some-any, any_some, any_none, none_any       a test that some member passes, or none
--     mem-keep, keep-mem                           what is kept: the members that pass
--     keep_all, keep-length                        all of a list that passes, and never more than the list
--     rises-keep                                   what is kept of a list that rises
use Rattle.std.specs.Prelude.{◌≡◌, Bool, true, false, ◌||◌}
use Rattle.std.proofs.Math.Path.{refl, ap}
use Rattle.std.proofs.Common.{sym, ◌∙◌, arith}
use Rattle.std.proofs.Math.Logic.{⊎_elim}
use Prim.Native.Nat.{ℕ, suc, ◌≤◌, zero-le}
use mathlib.Core.List.Memᴰ
use mathlib.Core.List.{List, [], ◌∷◌}
use Rattle.std.proofs.Math.ListN.{length}
use Rattle.theory.specs.Tests.{split, split_at, cases, clash}
use Rattle.theory.specs.Lists.{here, all_tail}
use Rattle.theory.specs.Rising.{Mem, All, any, keep, Rises, none, more}

module _ {A : Type 0} (test : A → Bool) where
  pub any-nil : any test [] ≡ false
  unfolding any
  any-nil = refl

  pub any-cons : (a : A) (xs : List A) → any test (a ∷ xs) ≡ (test a || any test xs)
  unfolding any
  any-cons a xs = refl

  -- a member that passes
  pub some-any : {a : A} (xs : List A) → Mem a xs → test a ≡ true → any test xs ≡ true
  unfolding any
  some-any [] m t = absurd (Memᴰ.not-nil m)
  some-any (b ∷ xs) m t =
      cases (test b) (λ y. rw y)
      (λ n. ⊎_elim (λ e. clash (ap test (sym e) ∙ t) n) (λ w. rw n (some-any xs w t)) (Memᴰ.cases_cons m))

  -- some member passes
  pub any_some : (xs : List A) → any test xs ≡ true → (a : A) × Mem a xs × (test a ≡ true)
  unfolding any
  any_some [] h = clash h refl
  any_some (b ∷ xs) h =
      cases (test b) (λ y. (b, here, y)) (λ n. let w = any_some xs (rw n at h) in (w.0, Memᴰ.tail w.1, w.2))

  -- no member passes
  pub any_none : (xs : List A) → All (λ a. test a ≡ false) xs → any test xs ≡ false
  any_none xs h = cases (any test xs) (λ t. let w = any_some xs t in clash w.2 (h w.0 w.1)) (λ f. f)

  -- a member of a list of which none passes
  pub none_any : {a : A} (xs : List A) → any test xs ≡ false → Mem a xs → test a ≡ false
  none_any {a} xs h m = cases (test a) (λ t. clash (some-any xs m t) h) (λ f. f)

  -- a member that passes is kept
  pub mem-keep : {a : A} (xs : List A) → Mem a xs → test a ≡ true → Mem a (keep test xs)
  unfolding keep
  mem-keep [] m t = m
  mem-keep {a} (b ∷ xs) m t =
      split (Mem a) (test b)
      (λ _. ⊎_elim (λ e. Memᴰ.head e) (λ w. Memᴰ.tail (mem-keep xs w t)) (Memᴰ.cases_cons m))
      (λ f. ⊎_elim (λ e. clash (ap test (sym e) ∙ t) f) (λ w. mem-keep xs w t) (Memᴰ.cases_cons m))

  -- what is kept is a member that passes
  pub keep-mem : {a : A} (xs : List A) → Mem a (keep test xs) → Mem a xs × (test a ≡ true)
  unfolding keep
  keep-mem [] m = absurd (Memᴰ.not-nil m)
  keep-mem {a} (b ∷ xs) m =
      split_at (Mem a) (test b) m
      (λ t w. ⊎_elim (λ e. (Memᴰ.head e, ap test e ∙ t)) (λ v. let k = keep-mem xs v in (Memᴰ.tail k.0, k.1))
      (Memᴰ.cases_cons w))
      (λ f w. let k = keep-mem xs w in (Memᴰ.tail k.0, k.1))

  -- where every member passes, all are kept
  pub keep_all : (xs : List A) → All (λ a. test a ≡ true) xs → keep test xs ≡ xs
  unfolding keep
  keep_all [] h = refl
  keep_all (a ∷ xs) h = rw (h a here) (ap (λ l. a ∷ l) (keep_all xs (all_tail h)))

  -- never more than the list
  pub keep-length : (xs : List A) → length (keep test xs) ≤ length xs
  unfolding keep
  keep-length [] = zero-le
  keep-length (a ∷ xs) =
      let l : length (keep test xs) ≤ length xs = keep-length xs in
      split (λ k. length k ≤ suc (length xs)) (test a) {x = a ∷ keep test xs} {y = keep test xs}
      (λ _. omega arith) (λ _. omega arith)

  -- what is kept of a list that rises, rises
  pub rises-keep : (f : A → ℕ) {xs : List A} → Rises f xs → Rises f (keep test xs)
  unfolding keep
  rises-keep f none = none
  rises-keep f (more {a} {xs} b r) =
      split (Rises f) (test a) (λ _. more (λ c m. b c (keep-mem xs m).0) (rises-keep f r)) (λ _. rises-keep f r)
