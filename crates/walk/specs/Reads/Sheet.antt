-- What a sheet lists. Its laws: `proofs/ReadsLaws/Sheet.antt`.
use Rattle.std.specs.Prelude.{ℕ, Bool, ◌&&◌, leb, ltb}
use mathlib.Core.List.{List}
use Rattle.theory.specs.Records.{Record}
use Rattle.walk.specs.Walk.{Walked, stayed, ended}

-- a walk that came to its bound or to the end, and what it has listed
pub data Lists : Walked (List Record) (List Record) → List Record → Type 0 where
  to-bound : {es : List Record} → Lists (stayed es) es
  to_end : {es : List Record} → Lists (ended es) es

-- a record is at or above the lower bound and below the upper one
abbrev pub within : ℕ → ℕ → Record → Bool
within low high e = leb low e.key && ltb e.key high
