-- What the program has kept and said, byte by byte of its input (docs/DRAWER.md, "The program `drawer`": a line feed ends a line; bytes after the
-- last one are a line too; at the start tray and index are empty).
mod Cases
pub mod Code
pub mod Laws
use Rattle.std.specs.Prelude.{ℕ, ◌+◌, ◌%◌, ◌^◌, cond, List, [], ◌∷◌, ◌++◌, eqb}
use Rattle.drawer_spec.specs.Line.{turn, answer_line}

-- the kept tray and index, the number of the line that is being read, its characters so far, and all that was said
pub record Progress : Type 0 where
  pub tray : List ℕ
  pub index : List ℕ
  pub number : ℕ
  pub line : List ℕ
  pub said : List ℕ

-- before the first byte; lines count from 1
unfoldable pub begun : Progress
begun = record { tray = []; index = []; number = 1; line = []; said = [] }

-- the line is ended: it takes its turn, and the next one begins
unfoldable pub ended : Progress → Progress
ended p =
    let u = turn p.tray p.index p.number p.line in
    record { tray = u.tray; index = u.index; number = (p.number + 1) % 2 ^ 32; line = []; said = p.said ++ answer_line u.says }

-- characters more of the line
unfoldable pub more : Progress → List ℕ → Progress
more p cs = record { tray = p.tray; index = p.index; number = p.number; line = p.line ++ cs; said = p.said }

-- a byte: a line feed ends the line
unfoldable pub fed : Progress → ℕ → Progress
fed p c = cond (eqb c 10) (ended p) (more p (c ∷ []))

-- bytes, one after the other
unfoldable pub feed : Progress → List ℕ → Progress
feed p [] = p
feed p (c ∷ cs) = feed (fed p c) cs

-- at the end of the input: characters after the last line feed are a line too
unfoldable pub finished : Progress → Progress
finished p = closed p.line
  where
    closed : List ℕ → Progress
    closed [] = p
    closed (c ∷ cs) = ended p

-- the output for an input
unfoldable pub output : List ℕ → List ℕ
output input = (finished (feed begun input)).said
