-- A size that fits a tray. The theorems: `proofs/Build/Theorems.antt`.
use Rattle.std.specs.Prelude.{ℕ, ◌≤◌}

-- D fits a tray of h runs: from h to 128
pub record SizeFits (h d : ℕ) : Type 0 where
  pub least : h ≤ d
  pub most : d ≤ 128
