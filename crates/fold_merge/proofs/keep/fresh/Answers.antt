-- `fold_merge::keep::fresh` meets its contract: each way out is a case of the definition.
use Rattle.std.proofs.Common.{◌∙◌}
use Rattle.fold_merge.specs.Folding.Keeping.{fresh-first, fresh-other}
use Rattle.fold_merge.proofs.keep.fresh.Goals as goal
use Rattle.fold_merge.proofs.keep.fresh.Goals.{then-n-eq0, else-n-eq0}

pub returns-clause-value : goal.returns-clause-value
returns-clause-value c = c.from.ensures ∙ elim c.if-n-eq0.branch [
  | then-n-eq0 w ↦ fresh-first _ _ w.if-n-eq0.true w.from-is
  | else-n-eq0 w ↦ fresh-other _ _ w.if-n-eq0.false w.from-is
]
