-- Lists that rise strictly by a number, and the list functions that everything else is made of.
-- The laws of rising lists are in `proofs/Rising/Laws.antt`, those of the functions in `Kept.antt` and `Inserted.antt`; the one that the rest
-- stands on is `same-members`.
use Rattle.std.specs.Prelude.{ℕ, ◌<◌, Bool, false, cond, ◌||◌, ltb}
use mathlib.Core.List.{List, [], ◌∷◌, Memᴰ}

module _ {A : Type 0} where
  -- a stands in the list
  abbrev pub Mem : A → List A → Type 0
  Mem a xs = Memᴰ a xs

  -- every member of the list has the property
  abbrev pub All : (A → Type 0) → List A → Type 0
  All P xs = (a : A) → Mem a xs → P a

  -- some member passes the test
  unfoldable pub any : (A → Bool) → List A → Bool
  any test [] = false
  any test (a ∷ xs) = test a || any test xs

  -- the members that pass the test, in their order
  unfoldable pub keep : (A → Bool) → List A → List A
  keep test [] = []
  keep test (a ∷ xs) = cond (test a) (a ∷ keep test xs) (keep test xs)

  module _ (f : A → ℕ) where
    -- f rises strictly from each member to all that follow it
    pub data Rises : List A → Type 0 where
      none : Rises []
      more : {a : A} {xs : List A} → All (λ b. f a < f b) xs → Rises xs → Rises (a ∷ xs)

    -- a put before the first member with a higher number
    unfoldable pub insert : A → List A → List A
    insert a [] = a ∷ []
    insert a (b ∷ bs) = cond (ltb (f a) (f b)) (a ∷ b ∷ bs) (b ∷ insert a bs)

    -- every member of the first list put into the second
    unfoldable pub insert_all : List A → List A → List A
    insert_all [] bs = bs
    insert_all (a ∷ xs) bs = insert a (insert_all xs bs)

  -- the same members in another order: made by exchanging neighbours
  pub data Permuted : List A → List A → Type 0 where
    same : {xs : List A} → Permuted xs xs
    under : {a : A} {xs bs : List A} → Permuted xs bs → Permuted (a ∷ xs) (a ∷ bs)
    exchange : {a b : A} {xs : List A} → Permuted (a ∷ b ∷ xs) (b ∷ a ∷ xs)
    then : {xs bs cs : List A} → Permuted xs bs → Permuted bs cs → Permuted xs cs
