-- The index of the sample tray for segments of 4 (docs/DRAWER.md, "Try it": the second line of the output), for worked cases: one segment, whose
-- selectors 00 81 01 3f are bytes 20 to 23.
use Rattle.std.specs.Prelude.{ℕ, List, [], ◌∷◌}

-- header, anchor, offsets, selectors
abbrev pub sample_index : List ℕ
sample_index =
    2 ∷ 4 ∷ 0 ∷ 0 ∷ 0 ∷ 0 ∷ 0 ∷ 1
    ∷ 0 ∷ 0 ∷ 0 ∷ 0 ∷ 0 ∷ 7 ∷ 0 ∷ 1
    ∷ 0 ∷ 0 ∷ 0 ∷ 0
    ∷ 0 ∷ 0x81 ∷ 1 ∷ 0x3f ∷ []
