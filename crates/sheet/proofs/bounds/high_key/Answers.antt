-- The prefix with its last byte raised.
use Rattle.std.proofs.Common.{refl, ◌∙◌}
use Rattle.sheet.specs.Bounds.{high-set}
use Rattle.sheet.proofs.bounds.high_key.Goals as goal

pub returns : goal.returns
returns c = c.read.ensures ∙ high-set _ c.requires.0 c.requires.1 refl c.filled-key.ensures
