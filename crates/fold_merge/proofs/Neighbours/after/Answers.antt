-- The records of the runs after b lie in the tray.
use Rattle.fold_merge.specs.Folding.Moves.{folding-after}
use Rattle.fold_merge.proofs.Neighbours.after.Goals as goal

pub slice_bounds-result-count : goal.slice_bounds-result-count
slice_bounds-result-count c = folding-after c.args.self.now.holds c.from.ensures

pub slice_bounds-result-start : goal.slice_bounds-result-start
slice_bounds-result-start c = folding-after c.args.self.now.holds c.from.ensures
