use Rattle.index.specs.Layout.Code.{segment-within}
use Rattle.index.proofs.Index.segment_at.Goals as goal

pub returns-clause-within : goal.returns-clause-within
returns-clause-within c = segment-within c.args.self.now.frame c.requires c.segment_at.ensures
