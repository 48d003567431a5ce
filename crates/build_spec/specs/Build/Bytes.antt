-- The selectors of a segment with its placeholders. The laws of the bytes: `proofs/Build/Bytes.antt`.
use Rattle.std.specs.Prelude.{ℕ, ◌<◌, replicate}
use mathlib.Core.List.{List, ◌++◌, map}
use Rattle.theory.specs.Records.{Record}
use Rattle.theory.specs.Rising.{All}
use Rattle.index.specs.Rules.{Item, placeholder, selector_of}

-- the selectors of records, then n placeholders
abbrev pub filled : List (List Record) → List Item → ℕ → List ℕ
filled t own n = map (selector_of t) own ++ replicate n placeholder

-- records of runs below 63
abbrev pub Low : List Item → Type 0
Low es = All (λ e. e.run < 63) es
