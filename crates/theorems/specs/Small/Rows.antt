-- The table of docs/RULES.md, "Small trays to prove", as data: a row each, with the runs, D, and what the row says of them. Numbers stand for
-- keys. `Table` has the statement.
use Rattle.std.specs.Prelude.{ℕ, List, [], ◌∷◌}
use Rattle.refusal.specs.Table.{told}
use Rattle.refusal.specs.declared.Verdict.{Verdict}
use Rattle.theory.specs.Records.{Record}
use Rattle.index.specs.Layout.{Segment}

-- a live record of a key, and a gone one
abbrev pub live : ℕ → Record
live k = record { key = k; kind = 0; value = 1 }

abbrev pub gone : ℕ → Record
gone k = record { key = k; kind = 1; value = 0 }

-- a live record of a key, with the number of its run as its value
abbrev pub from-run : ℕ → ℕ → Record
from-run r k = record { key = k; kind = 0; value = r }

-- a segment: anchor, offsets, selectors
abbrev pub segment : ℕ → List ℕ → List ℕ → Segment
segment anchor offsets selectors = record { anchor = anchor; offsets = offsets; selectors = selectors }

-- an answer without a refusal, as number and figure: number 0
abbrev pub accepted : ℕ → Verdict
accepted n = told 0 n

-- what a row says of its runs and D
pub data Result : Type 0 where
  -- build writes these segments, and check index accepts them
  builds : List Segment → Result
  -- build is refused
  build-refused : Verdict → Result
  -- check index gives this answer for these segments
  judges : List Segment → Verdict → Result
  -- through these segments a seek of the key comes to the end,
  seek-ends : List Segment → ℕ → Result
  -- and a get of the key finds nothing
  get_absent : List Segment → ℕ → Result
  -- fold of these runs writes a tray of these
  folds : ℕ → ℕ → List (List Record) → Result

-- the runs, D, and what is said of them
pub record Row : Type 0 where
  pub runs : List (List Record)
  pub size : ℕ
  pub results : List Result

-- a row
abbrev row : List (List Record) → ℕ → List Result → Row
row runs size results = record { runs = runs; size = size; results = results }

-- no record, no segment
abbrev pub row-a : Row
row-a = row ([] ∷ [] ∷ []) 2 (builds [] ∷ seek-ends [] 0 ∷ [])

-- two versions fill a segment
abbrev pub row-b : Row
row-b =
    row ((live 5 ∷ []) ∷ (live 5 ∷ live 9 ∷ []) ∷ []) 2
    (builds (segment 5 (0 ∷ 0 ∷ []) (0x00 ∷ 0x81 ∷ []) ∷ segment 9 (1 ∷ 1 ∷ []) (0x01 ∷ 0x3f ∷ []) ∷ []) ∷ [])

-- both versions of 3 move on to a new segment
abbrev pub row-c : Row
row-c =
    row ((live 1 ∷ live 3 ∷ []) ∷ (live 3 ∷ []) ∷ []) 2
    (builds (segment 1 (0 ∷ 0 ∷ []) (0x00 ∷ 0x3f ∷ []) ∷ segment 3 (1 ∷ 0 ∷ []) (0x00 ∷ 0x81 ∷ []) ∷ []) ∷ [])

-- the versions of 3 may not be cut apart
abbrev pub row-d : Row
row-d =
    row row-c.runs 2
    (judges (segment 1 (0 ∷ 0 ∷ []) (0x00 ∷ 0x00 ∷ []) ∷ segment 3 (2 ∷ 0 ∷ []) (0x81 ∷ 0x3f ∷ []) ∷ []) (told 5 0) ∷ [])

-- below a gone record the older live one is old
abbrev segments-e : List Segment
segments-e = segment 5 (0 ∷ 0 ∷ []) (0x40 ∷ 0x81 ∷ []) ∷ []

abbrev pub row-e : Row
row-e = row ((gone 5 ∷ []) ∷ (live 5 ∷ []) ∷ []) 2 (builds segments-e ∷ get_absent segments-e 5 ∷ seek-ends segments-e 4 ∷ [])

-- gone, old or not
abbrev pub row-f : Row
row-f = row ((gone 5 ∷ []) ∷ (gone 5 ∷ []) ∷ []) 2 (builds (segment 5 (0 ∷ 0 ∷ []) (0x40 ∷ 0xc1 ∷ []) ∷ []) ∷ [])

-- a segment may end earlier than it needs to
abbrev pub row-g : Row
row-g =
    row ((live 1 ∷ live 2 ∷ []) ∷ []) 4
    (judges (segment 1 (0 ∷ []) (0x00 ∷ 0x3f ∷ 0x3f ∷ 0x3f ∷ []) ∷ segment 2 (1 ∷ []) (0x00 ∷ 0x3f ∷ 0x3f ∷ 0x3f ∷ []) ∷ []) (accepted 2) ∷ [])

-- our builder's does not
abbrev pub row-h : Row
row-h = row row-g.runs 4 (builds (segment 1 (0 ∷ []) (0x00 ∷ 0x00 ∷ 0x3f ∷ 0x3f ∷ []) ∷ []) ∷ [])

-- 7f is no placeholder, in either place
abbrev pub row-i : Row
row-i =
    row row-g.runs 4
    (judges (segment 1 (0 ∷ []) (0x00 ∷ 0x00 ∷ 0x7f ∷ 0x3f ∷ []) ∷ []) (told 5 0)
    ∷ judges (segment 1 (0 ∷ []) (0x00 ∷ 0x00 ∷ 0x3f ∷ 0x7f ∷ []) ∷ []) (told 5 0) ∷ [])

-- a gone record stays
abbrev pub row-j : Row
row-j = row row-e.runs 2 (folds 0 1 ((gone 5 ∷ []) ∷ []) ∷ [])

-- of two versions the newer one stays, and an empty run adds nothing
abbrev pub row-k : Row
row-k =
    row ((from-run 0 1 ∷ []) ∷ [] ∷ (from-run 2 1 ∷ from-run 2 2 ∷ []) ∷ []) 3
    (folds 0 2 ((from-run 0 1 ∷ from-run 2 2 ∷ []) ∷ []) ∷ [])

-- D below H
abbrev pub row-l : Row
row-l = row ((live 1 ∷ []) ∷ (live 2 ∷ []) ∷ []) 1 (build-refused (told 6 1) ∷ [])

-- the rows
abbrev pub table : List Row
table = row-a ∷ row-b ∷ row-c ∷ row-d ∷ row-e ∷ row-f ∷ row-g ∷ row-h ∷ row-i ∷ row-j ∷ row-k ∷ row-l ∷ []
