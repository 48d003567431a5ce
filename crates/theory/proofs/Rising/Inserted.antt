-- Laws of `insert`, `insert_all` and `Permuted`. Beside the worked cases only this file looks inside them.
--     mem-insert, insert-mem, rises-insert              one member put in
--     insert_all-nil, insert_all-append                   none put in; two lists put in, one after the other
--     mem-insert_all, insert_all-mem, rises-insert_all     many put in
--     permuted-insert_all, permuted-mem, permuted-back   another order, the same members
use Rattle.std.specs.Prelude.{◌≡◌, ◌⊎◌, ℕ, ◌<◌, ◌≤◌, ltb}
use Rattle.std.proofs.Math.Path.{refl, ap}
use Rattle.std.proofs.Math.Logic.{inl, inr, ⊎_elim}
use native.Mathlib.Omega.{arith}
use mathlib.Core.List.Memᴰ
use mathlib.Core.List.{List, [], ◌∷◌, ◌++◌}
use borrow.Author.Tests.{ltb-true, ltb-false}
use Rattle.theory.specs.Tests.{split, split_at}
use Rattle.theory.specs.Lists.{here, all_nil, all_cons, all_tail}
use Rattle.theory.specs.Rising.{Mem, All, Rises, none, more, insert, insert_all, Permuted, same, under, exchange, then}

module _ {A : Type 0} (f : A → ℕ) where
  -- the member put in, and those that were there
  pub mem-insert : {c a : A} (xs : List A) → (c ≡ a) ⊎ Mem c xs → Mem c (insert f a xs)
  unfolding insert
  mem-insert [] (inl e) = Memᴰ.head e
  mem-insert [] (inr m) = absurd (Memᴰ.not-nil m)
  mem-insert {c} {a} (b ∷ xs) w =
      split (Mem c) (ltb (f a) (f b))
      (λ _. ⊎_elim (λ e. Memᴰ.head e) (λ m. Memᴰ.tail m) w)
      (λ _. ⊎_elim (λ e. Memᴰ.tail (mem-insert xs (inl e)))
      (λ m. ⊎_elim (λ e. Memᴰ.head e) (λ n. Memᴰ.tail (mem-insert xs (inr n))) (Memᴰ.cases_cons m)) w)

  -- and no others
  pub insert-mem : {c a : A} (xs : List A) → Mem c (insert f a xs) → (c ≡ a) ⊎ Mem c xs
  unfolding insert
  insert-mem [] m = ⊎_elim (λ e. inl e) (λ n. absurd (Memᴰ.not-nil n)) (Memᴰ.cases_cons m)
  insert-mem {c} {a} (b ∷ xs) m =
      split_at (Mem c) (ltb (f a) (f b)) m
      (λ _ w. Memᴰ.cases_cons w)
      (λ _ w. ⊎_elim (λ e. inr (Memᴰ.head e))
      (λ n. ⊎_elim (λ e. inl e) (λ k. inr (Memᴰ.tail k)) (insert-mem xs n)) (Memᴰ.cases_cons w))

  -- a member with a number of its own is put where the list still rises
  pub rises-insert : {a : A} {xs : List A} → All (λ b. f b ≡ f a → ⊥) xs → Rises f xs → Rises f (insert f a xs)
  unfolding insert
  rises-insert apart none = more (all_nil _) none
  rises-insert {a} apart (more {a = b} {xs} h r) =
      split (Rises f) (ltb (f a) (f b))
      (λ t. let l : f a < f b = ltb-true _ _ t in
      more (all_cons l (λ c m. omega (arith, h c m))) (more h r))
      (λ n. let l : f b ≤ f a = ltb-false _ _ n in
      let d : f b ≡ f a → ⊥ = apart b here in
      more (λ c m. ⊎_elim (λ e. let z : f c ≡ f a = ap f e in low c z l d) (λ k. h c k) (insert-mem xs m))
      (rises-insert (all_tail apart) r))
    where
      low : (c : A) → f c ≡ f a → f b ≤ f a → (f b ≡ f a → ⊥) → f b < f c
      low c z l d = omega arith

  -- nothing put in
  pub insert_all-nil : (xs : List A) → insert_all f [] xs ≡ xs
  unfolding insert_all
  insert_all-nil xs = refl

  -- two lists put in, one after the other
  pub insert_all-append : (xs ys zs : List A) → insert_all f (xs ++ ys) zs ≡ insert_all f xs (insert_all f ys zs)
  unfolding insert_all
  insert_all-append [] ys zs = refl
  insert_all-append (a ∷ xs) ys zs = ap (insert f a) (insert_all-append xs ys zs)

  -- the members of both lists
  pub mem-insert_all : {c : A} (xs ys : List A) → Mem c xs ⊎ Mem c ys → Mem c (insert_all f xs ys)
  unfolding insert_all
  mem-insert_all [] ys (inl m) = absurd (Memᴰ.not-nil m)
  mem-insert_all [] ys (inr m) = m
  mem-insert_all (a ∷ xs) ys w =
      mem-insert (insert_all f xs ys)
      (⊎_elim (λ m. ⊎_elim inl (λ n. inr (mem-insert_all xs ys (inl n))) (Memᴰ.cases_cons m))
      (λ m. inr (mem-insert_all xs ys (inr m))) w)

  -- and no others
  pub insert_all-mem : {c : A} (xs ys : List A) → Mem c (insert_all f xs ys) → Mem c xs ⊎ Mem c ys
  unfolding insert_all
  insert_all-mem [] ys m = inr m
  insert_all-mem (a ∷ xs) ys m =
      ⊎_elim (λ e. inl (Memᴰ.head e)) (λ n. ⊎_elim (λ k. inl (Memᴰ.tail k)) inr (insert_all-mem xs ys n))
      (insert-mem (insert_all f xs ys) m)

  -- a list whose numbers are all different, put into a rising one that has none of them
  pub rises-insert_all : {xs ys : List A} → Rises f xs → All (λ a. All (λ b. f b ≡ f a → ⊥) ys) xs → Rises f ys
      → Rises f (insert_all f xs ys)
  unfolding insert_all
  rises-insert_all none apart s = s
  rises-insert_all {ys = ys} (more {a} {xs} h r) apart s =
      rises-insert
      (λ b m. ⊎_elim (λ n. λ e. (let z : f a < f b = h b n in omega arith)) (λ n. apart a here b n) (insert_all-mem xs ys m))
      (rises-insert_all r (all_tail apart) s)

  -- putting in only reorders
  permuted-insert : (a : A) (xs : List A) → Permuted (a ∷ xs) (insert f a xs)
  unfolding insert
  permuted-insert a [] = same
  permuted-insert a (b ∷ xs) =
      split (Permuted (a ∷ b ∷ xs)) (ltb (f a) (f b)) (λ _. same) (λ _. then exchange (under (permuted-insert a xs)))

  pub permuted-insert_all : (xs ys : List A) → Permuted (xs ++ ys) (insert_all f xs ys)
  unfolding insert_all
  permuted-insert_all [] ys = same
  permuted-insert_all (a ∷ xs) ys = then (under (permuted-insert_all xs ys)) (permuted-insert a (insert_all f xs ys))

module _ {A : Type 0} where
  -- another order has the same members
  pub permuted-mem : {c : A} {xs ys : List A} → Permuted xs ys → Mem c xs → Mem c ys
  permuted-mem same m = m
  permuted-mem (under p) m = ⊎_elim (λ e. Memᴰ.head e) (λ n. Memᴰ.tail (permuted-mem p n)) (Memᴰ.cases_cons m)
  permuted-mem exchange m =
      ⊎_elim (λ e. Memᴰ.tail (Memᴰ.head e))
      (λ n. ⊎_elim (λ e. Memᴰ.head e) (λ k. Memᴰ.tail (Memᴰ.tail k)) (Memᴰ.cases_cons n))
      (Memᴰ.cases_cons m)
  permuted-mem (then p q) m = permuted-mem q (permuted-mem p m)

  -- and back
  pub permuted-back : {xs ys : List A} → Permuted xs ys → Permuted ys xs
  permuted-back same = same
  permuted-back (under p) = under (permuted-back p)
  permuted-back exchange = exchange
  permuted-back (then p q) = then (permuted-back q) (permuted-back p)
