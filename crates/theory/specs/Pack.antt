-- Versions of a key kept together, and such groups packed into segments (docs/RULES.md, "The index": our builder puts a key's versions
-- into the current segment if all fit and else opens a new one).
use Rattle.std.specs.Prelude.{ℕ, ◌+◌, ◌≡◌, cond, List, [], ◌∷◌, ◌++◌, length, eqb, leb}
use Rattle.theory.specs.Rising.{All}

module _ {A : Type 0} where
  -- lists put one after another
  unfoldable pub joined : List (List A) → List A
  joined [] = []
  joined (s ∷ ss) = s ++ joined ss

  module _ (f : A → ℕ) where
    -- a put before a list of groups: into the first one where the number is the same
    unfoldable pub grouped : A → List (List A) → List (List A)
    grouped a [] = (a ∷ []) ∷ []
    grouped a ([] ∷ gs) = (a ∷ []) ∷ gs
    grouped a ((b ∷ bs) ∷ gs) = cond (eqb (f a) (f b)) ((a ∷ b ∷ bs) ∷ gs) ((a ∷ []) ∷ (b ∷ bs) ∷ gs)

    -- a list cut where the number changes
    unfoldable pub groups : List A → List (List A)
    groups [] = []
    groups (a ∷ xs) = grouped a (groups xs)

    -- the members of a group have one number
    abbrev pub OneKey : List A → Type 0
    OneKey g = All (λ a. All (λ b. f a ≡ f b) g) g

  module _ (d : ℕ) where
    -- the groups packed, the current segment being s: a group goes in if all of it fits, and else opens a new one
    unfoldable pub pack_on : List A → List (List A) → List (List A)
    pack_on s [] = s ∷ []
    pack_on s (g ∷ gs) = cond (leb (length s + length g) d) (pack_on (s ++ g) gs) (s ∷ pack_on g gs)

    -- the groups packed into segments of at most d
    unfoldable pub pack : List (List A) → List (List A)
    pack [] = []
    pack (g ∷ gs) = pack_on g gs
