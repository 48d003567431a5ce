-- What stands in the output of a fold. The laws: `proofs/Fold/Leaves.antt`.
use Rattle.std.specs.Prelude.{◌≡◌, ℕ, List, length, take, drop}

-- an output s after ys was written at its front, n bytes of it
pub record Front (s ys out : List ℕ) (n : ℕ) : Type 0 where
  pub front : take n out ≡ ys
  pub behind : drop n out ≡ drop n s
  pub same : length out ≡ length s
