-- Worked cases of the view: rows b, c, e and f of docs/RULES.md, "Small trays to prove".
-- An item is a key and whether it is live.
use Rattle.std.specs.Prelude.{◌≡◌, refl, ℕ, Bool, true, false, List, [], ◌∷◌, map}
use Rattle.theory.specs.Rising.{any, keep, insert, insert_all}
use Rattle.theory.specs.Hiding.{same_key}
use Rattle.theory.specs.Merge.{hidden}
use Rattle.theory.specs.View.{Entry, spread, entries_from, view, old, visible}

abbrev Item : Type 0
Item = ℕ × Bool

abbrev key : Item → ℕ
key a = a.0

abbrev live : Item → Bool
live a = a.1

abbrev entry : ℕ → ℕ → Item → Entry Item
entry i j a = record { run = i; place = j; item = a }

-- the old marks along the view
abbrev old_marks : List (List Item) → List Bool
old_marks t = map (old (same_key key) t) (view key t)

-- the entries of the view that are visible
abbrev visibles : List (List Item) → List (Entry Item)
visibles t = keep (visible (same_key key) live t) (view key t)

-- {5},{5,9}
abbrev row_b : List (List Item)
row_b = ((5, true) ∷ []) ∷ ((5, true) ∷ (9, true) ∷ []) ∷ []

-- {1,3},{3}
abbrev row_c : List (List Item)
row_c = ((1, true) ∷ (3, true) ∷ []) ∷ ((3, true) ∷ []) ∷ []

-- {5g},{5}
abbrev row_e : List (List Item)
row_e = ((5, false) ∷ []) ∷ ((5, true) ∷ []) ∷ []

-- {5g},{5g}
abbrev row_f : List (List Item)
row_f = ((5, false) ∷ []) ∷ ((5, false) ∷ []) ∷ []

-- at one key the newest stands first
b-view : view key row_b ≡ entry 0 0 (5, true) ∷ entry 1 0 (5, true) ∷ entry 1 1 (9, true) ∷ []
unfolding view insert_all insert entries_from spread
b-view = refl

b-old : old_marks row_b ≡ false ∷ true ∷ false ∷ []
unfolding view insert_all insert entries_from spread old any hidden
b-old = refl

b-visible : visibles row_b ≡ entry 0 0 (5, true) ∷ entry 1 1 (9, true) ∷ []
unfolding view insert_all insert entries_from spread visible old any hidden keep
b-visible = refl

c-view : view key row_c ≡ entry 0 0 (1, true) ∷ entry 0 1 (3, true) ∷ entry 1 0 (3, true) ∷ []
unfolding view insert_all insert entries_from spread
c-view = refl

-- a gone record hides like any other, and is not visible itself
e-old : old_marks row_e ≡ false ∷ true ∷ []
unfolding view insert_all insert entries_from spread old any hidden
e-old = refl

e-visible : visibles row_e ≡ []
unfolding view insert_all insert entries_from spread visible old any hidden keep
e-visible = refl

f-old : old_marks row_f ≡ false ∷ true ∷ []
unfolding view insert_all insert entries_from spread old any hidden
f-old = refl
