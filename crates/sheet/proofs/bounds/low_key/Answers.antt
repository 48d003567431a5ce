use Rattle.std.proofs.Common.{ℕ, List, ap, ◌∙◌}
use Rattle.number.specs.Big.{be}
use Rattle.walk.specs.Reads.{low_key}
use Rattle.sheet.proofs.bounds.low_key.Goals as goal

pub returns : goal.returns
unfolding low_key
returns c = c.read.ensures ∙ ap (λ (s : List ℕ). be 8 s 0) c.filled-key.ensures
