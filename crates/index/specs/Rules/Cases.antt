-- Worked cases of the selectors that the rules ask for: rows b, c, e and f of docs/RULES.md, "Small trays to prove". Each holds by computation.
use Rattle.std.specs.Prelude.{◌≡◌, refl, ℕ, List, [], ◌∷◌, map}
use Rattle.theory.specs.Records.{Record}
use Rattle.theory.specs.Rising.{any, insert, insert_all}
use Rattle.theory.specs.Merge.{hidden}
use Rattle.theory.specs.View.{spread, entries_from, old, view}
use Rattle.index.specs.Rules.{key_of, selector_of}

abbrev live : ℕ → Record
live k = record { key = k; kind = 0; value = 0 }

abbrev gone : ℕ → Record
gone k = record { key = k; kind = 1; value = 0 }

-- the selectors along the view
abbrev selectors : List (List Record) → List ℕ
selectors t = map (selector_of t) (view key_of t)

-- with all that they are computed by: to unfold it is to unfold them
computed : List (List Record) → List ℕ
unfolding selector_of old any hidden view insert_all insert entries_from spread
computed t = selectors t

-- {5},{5,9}: newest first, and the older one is old
pub row-b : selectors ((live 5 ∷ []) ∷ (live 5 ∷ live 9 ∷ []) ∷ []) ≡ 0x00 ∷ 0x81 ∷ 0x01 ∷ []
unfolding computed
row-b = refl

-- {1,3},{3}
pub row-c : selectors ((live 1 ∷ live 3 ∷ []) ∷ (live 3 ∷ []) ∷ []) ≡ 0x00 ∷ 0x00 ∷ 0x81 ∷ []
unfolding computed
row-c = refl

-- {5g},{5}: what stands below a gone record is old
pub row-e : selectors ((gone 5 ∷ []) ∷ (live 5 ∷ []) ∷ []) ≡ 0x40 ∷ 0x81 ∷ []
unfolding computed
row-e = refl

-- {5g},{5g}: gone, old or not
pub row-f : selectors ((gone 5 ∷ []) ∷ (gone 5 ∷ []) ∷ []) ≡ 0x40 ∷ 0xc1 ∷ []
unfolding computed
row-f = refl
