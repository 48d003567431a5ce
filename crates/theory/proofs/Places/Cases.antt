-- Worked cases of places, over row b of docs/RULES.md, "Small trays to prove": {5},{5,9}. An item is its key.
use Rattle.std.specs.Prelude.{◌≡◌, refl, ℕ, List, [], ◌∷◌}
use Rattle.theory.specs.Rising.{keep, insert, insert_all}
use Rattle.theory.specs.View.{Entry, spread, entries_from, view}
use Rattle.theory.specs.Places.{bump, rest, passed, count, head_of, heads_from, versions}

abbrev key : ℕ → ℕ
key a = a

abbrev entry : ℕ → ℕ → ℕ → Entry ℕ
entry i j a = record { run = i; place = j; item = a }

abbrev tray : List (List ℕ)
tray = (5 ∷ []) ∷ (5 ∷ 9 ∷ []) ∷ []

-- nothing read
abbrev start : ℕ → ℕ
start i = 0

-- the record of run 0 read
abbrev one : ℕ → ℕ
one = passed start (entry 0 0 5 ∷ [])

all_left : rest key tray start ≡ entry 0 0 5 ∷ entry 1 0 5 ∷ entry 1 1 9 ∷ []
unfolding rest keep view insert_all insert entries_from spread
all_left = refl

one_left : rest key tray one ≡ entry 1 0 5 ∷ entry 1 1 9 ∷ []
unfolding rest keep view insert_all insert entries_from spread passed bump
one_left = refl

-- both versions of 5, newest first
both-versions : versions key tray start 5 ≡ entry 0 0 5 ∷ entry 1 0 5 ∷ []
unfolding versions keep heads_from head_of
both-versions = refl

-- 9 is not yet next in its run
no-versions : versions key tray start 9 ≡ []
unfolding versions keep heads_from head_of
no-versions = refl

after-versions : rest key tray (passed start (versions key tray start 5)) ≡ entry 1 1 9 ∷ []
unfolding rest keep view insert_all insert entries_from spread passed bump versions heads_from head_of
after-versions = refl

two-of-run-1 : count 1 (view key tray) ≡ 2
unfolding count view insert_all insert entries_from spread
two-of-run-1 = refl
