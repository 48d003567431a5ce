use Rattle.walk.specs.Start.Code.{start-some}
use Rattle.std.proofs.Common.{◌∙◌}
use Rattle.walk.proofs.start.start_at.Goals as goal

pub returns : goal.returns
returns c = c.saturating_sub.ensures ∙ start-some _ _ _ _ _ c.args.index.now.frame c.probed.ensures
