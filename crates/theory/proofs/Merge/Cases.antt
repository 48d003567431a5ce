-- Worked cases of merging and folding, rows j and k of docs/RULES.md, "Small trays to prove" among them.
use Rattle.std.specs.Prelude.{◌≡◌, refl, ℕ, ◌/◌, Bool, ◌||◌, ◌&&◌, List, [], ◌∷◌, eqb}
use Rattle.theory.specs.Rising.{any, keep, insert, insert_all}
use Rattle.theory.specs.Hiding.{same_key}
use Rattle.theory.specs.Merge.{hidden, over, merged, fold}

-- a record: its key, its kind (1 is gone), and the run that it came from
record Row : Type 0 where
  key : ℕ
  kind : ℕ
  from : ℕ

abbrev row : ℕ → ℕ → ℕ → Row
row k n r = record { key = k; kind = n; from = r }

abbrev key_of : Row → ℕ
key_of r = r.key

-- edition 0's fold of such records
abbrev folded : ℕ → ℕ → List (List Row) → List (List Row)
folded a b t = fold key_of (same_key key_of) a b t

-- row j: {5g},{5} folded 0..1 is {5g}
row-j : folded 0 1 ((row 5 1 0 ∷ []) ∷ (row 5 0 1 ∷ []) ∷ []) ≡ (row 5 1 0 ∷ []) ∷ []
unfolding fold merged over hidden any keep insert insert_all
row-j = refl

-- row k: {1},{},{1,2} folded 0..2 is {1,2}, 1 from run 0
row-k : folded 0 2 ((row 1 0 0 ∷ []) ∷ [] ∷ (row 1 0 2 ∷ row 2 0 2 ∷ []) ∷ []) ≡ (row 1 0 0 ∷ row 2 0 2 ∷ []) ∷ []
unfolding fold merged over hidden any keep insert insert_all
row-k = refl

-- of three versions the newest stays, and records that only one run has stand between
ties-newest : merged key_of (same_key key_of) ((row 4 0 0 ∷ []) ∷ (row 3 0 1 ∷ row 4 0 1 ∷ []) ∷ (row 3 0 2 ∷ row 4 0 2 ∷ row 9 0 2 ∷ []) ∷ [])
    ≡ row 3 0 1 ∷ row 4 0 0 ∷ row 9 0 2 ∷ []
unfolding merged over hidden any keep insert insert_all
ties-newest = refl

-- a fold in the middle leaves the runs around it, and keeps the gone record that hides an older one
middle : folded 1 2 ((row 1 0 0 ∷ []) ∷ (row 5 1 1 ∷ []) ∷ (row 4 0 2 ∷ row 5 0 2 ∷ []) ∷ (row 5 0 3 ∷ []) ∷ [])
    ≡ (row 1 0 0 ∷ []) ∷ (row 4 0 2 ∷ row 5 1 1 ∷ []) ∷ (row 5 0 3 ∷ []) ∷ []
unfolding fold merged over hidden any keep insert insert_all
middle = refl

-- another rule: a record of kind 2 hides every older one of its ten keys
tens : Row → Row → Bool
tens a b = eqb a.key b.key || (eqb a.kind 2 && eqb (a.key / 10) (b.key / 10))

-- under it a fold drops what a kind 2 hides, and keeps the kind 2
withdrawn : fold key_of tens 0 1 ((row 70 2 0 ∷ row 71 0 0 ∷ []) ∷ (row 69 0 1 ∷ row 71 0 1 ∷ row 72 0 1 ∷ []) ∷ (row 73 0 2 ∷ []) ∷ [])
    ≡ (row 69 0 1 ∷ row 70 2 0 ∷ row 71 0 0 ∷ []) ∷ (row 73 0 2 ∷ []) ∷ []
unfolding fold merged over hidden any keep insert insert_all tens
withdrawn = refl
