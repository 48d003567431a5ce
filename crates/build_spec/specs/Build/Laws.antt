-- The trays and sizes that an index can be built for. The laws: `proofs/Build/Laws.antt`.
use Rattle.std.specs.Prelude.{ℕ, ◌≤◌, List, length}
use Rattle.theory.specs.Records.{Record, SoundRecord}
use Rattle.theory.specs.Merge.{Good}
use Rattle.index.specs.Rules.{key_of}

-- a tray that an index with segments of d can be built for
pub record Ready (d : ℕ) (t : List (List Record)) : Type 0 where
  pub good : Good SoundRecord key_of t
  pub few : length t ≤ 63
  pub least : length t ≤ d
  pub most : d ≤ 128
