-- How far bytes are copied. The laws: `proofs/Big/Copies.antt`.
use Rattle.std.specs.Prelude.{◌≡◌, ℕ, ◌+◌, ◌≤◌, List, length, drop}
use Rattle.number.specs.Big.{put}

-- the bytes from place i of a part on have still to be copied
pub record Copying (part : List ℕ) (at : ℕ) (out₀ out : List ℕ) (i : ℕ) : Type 0 where
  pub within : i ≤ length part
  pub room : length out ≡ length out₀
  pub same : put out (at + i) (drop i part) ≡ put out₀ at part
