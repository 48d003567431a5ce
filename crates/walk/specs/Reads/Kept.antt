-- More laws of what is kept of a list.
--     keep-map        by a test of what the members are taken to
--     keep_append     of two lists end to end
--     keep-none       nothing, where no member passes
--     keep-both       by two tests, one after the other
--     keep-split      what is kept, taken apart, takes the list apart
use Rattle.std.specs.Prelude.{◌≡◌, Bool, ◌&&◌}
use Rattle.std.proofs.Math.Path.{refl, ap}
use Rattle.std.proofs.Common.{sym, ◌∙◌}
use Rattle.std.proofs.Math.Bool.{true, false, cond}
use mathlib.Core.List.{List, [], ◌∷◌, ◌++◌, map, head-eq_of_cons-eq, tail-eq_of_cons-eq}
use Rattle.theory.specs.Lists.{here, all_tail}
use Rattle.theory.specs.Tests.{cases, never}
use Rattle.theory.specs.Rising.{All, keep}

pub keep-map : {A B : Type 0} (f : A → B) (test : B → Bool) (xs : List A) → map f (keep (λ a. test (f a)) xs) ≡ keep test (map f xs)
unfolding keep
keep-map f test [] = refl
keep-map {A} {B} f test (a ∷ xs) = step (test (f a)) (keep (λ c. test (f c)) xs) (keep test (map f xs)) (keep-map f test xs)
  where
    step : (b : Bool) (us : List A) (vs : List B) → map f us ≡ vs → map f (cond b (a ∷ us) us) ≡ cond b (f a ∷ vs) vs
    step true us vs h = ap (λ l. f a ∷ l) h
    step false us vs h = h

module _ {A : Type 0} (test : A → Bool) where
  pub keep_append : (xs ys : List A) → keep test (xs ++ ys) ≡ keep test xs ++ keep test ys
  unfolding keep
  keep_append [] ys = refl
  keep_append (a ∷ xs) ys = step (test a) (keep test (xs ++ ys)) (keep test xs) (keep_append xs ys)
    where
      step : (b : Bool) (us vs : List A) → us ≡ vs ++ keep test ys → cond b (a ∷ us) us ≡ cond b (a ∷ vs) vs ++ keep test ys
      step true us vs h = ap (λ l. a ∷ l) h
      step false us vs h = h

  pub keep-none : (xs : List A) → All (λ a. test a ≡ false) xs → keep test xs ≡ []
  unfolding keep
  keep-none [] h = refl
  keep-none (a ∷ xs) h = rw (h a here) (keep-none xs (all_tail h))

  pub keep-both : (also : A → Bool) (xs : List A) → keep (λ a. test a && also a) xs ≡ keep also (keep test xs)
  unfolding keep
  keep-both also [] = refl
  keep-both also (a ∷ xs) = step (test a) (also a) refl (keep-both also xs)
    where
      step : (b c : Bool) → also a ≡ c → keep (λ e. test e && also e) xs ≡ keep also (keep test xs)
          → cond (b && c) (a ∷ keep (λ e. test e && also e) xs) (keep (λ e. test e && also e) xs) ≡ keep also (cond b (a ∷ keep test xs) (keep test xs))
      step true true e h = rw e (ap (λ l. a ∷ l) h)
      step true false e h = rw e h
      step false c e h = h

  pub keep-split : (xs us : List A) (a : A) (vs : List A) → keep test xs ≡ us ++ (a ∷ vs)
      → (ys : List A) × (zs : List A) × (xs ≡ ys ++ (a ∷ zs)) × (keep test (a ∷ zs) ≡ a ∷ vs)
  unfolding keep
  keep-split [] [] a vs e = never (cc)
  keep-split [] (u ∷ us) a vs e = never (cc)
  keep-split (b ∷ xs) us a vs e =
      cases (test b) (λ y. kept us (rw y at e) y (keep-split xs))
      (λ n. on (keep-split xs us a vs (rw n at e)))
    where
      on : ((ys : List A) × (zs : List A) × (xs ≡ ys ++ (a ∷ zs)) × (keep test (a ∷ zs) ≡ a ∷ vs))
          → (ys : List A) × (zs : List A) × (b ∷ xs ≡ ys ++ (a ∷ zs)) × (keep test (a ∷ zs) ≡ a ∷ vs)
      on w = (b ∷ w.0, w.1, ap (λ l. b ∷ l) w.2, w.3)

      kept : (us : List A) → b ∷ keep test xs ≡ us ++ (a ∷ vs) → test b ≡ true
          → ((us : List A) (a : A) (vs : List A) → keep test xs ≡ us ++ (a ∷ vs)
          → (ys : List A) × (zs : List A) × (xs ≡ ys ++ (a ∷ zs)) × (keep test (a ∷ zs) ≡ a ∷ vs))
          → (ys : List A) × (zs : List A) × (b ∷ xs ≡ ys ++ (a ∷ zs)) × (keep test (a ∷ zs) ≡ a ∷ vs)
      kept [] p y later = ([], xs, ap (λ c. c ∷ xs) (head-eq_of_cons-eq p), ap (λ c. keep test (c ∷ xs)) (sym (head-eq_of_cons-eq p)) ∙ rw y p)
      kept (u ∷ us) p y later = on (later us a vs (tail-eq_of_cons-eq p))
