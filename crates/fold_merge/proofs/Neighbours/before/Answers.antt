-- The records of the runs before a lie in the tray.
use Rattle.fold_merge.specs.Folding.Moves.{folding-before}
use Rattle.fold_merge.proofs.Neighbours.before.Goals as goal

pub slice_bounds-result-count : goal.slice_bounds-result-count
slice_bounds-result-count c = (folding-before c.args.self.now.holds c.from.ensures).0

pub slice_bounds-result-start : goal.slice_bounds-result-start
slice_bounds-result-start c = (folding-before c.args.self.now.holds c.from.ensures).0

pub slice_bounds-result-end : goal.slice_bounds-result-end
slice_bounds-result-end c = (folding-before c.args.self.now.holds c.from.ensures).1
