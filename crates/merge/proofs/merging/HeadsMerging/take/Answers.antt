-- The kind is read before the run moves on.
use Rattle.merge.proofs.One.{kind-next}
use Rattle.merge.proofs.merging.HeadsMerging.take.Goals as goal

pub returns-clause-kind : goal.returns-clause-kind
returns-clause-kind c = kind-next _ _ c.from.ensures c.run.ensures.bytes c.kind_at-kind.ensures
