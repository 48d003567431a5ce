-- `fold_merge::merge_runs` meets its contract: with the runs outside a to b at their ends, the merge of what is left is the merge of these runs.
use Rattle.fold_merge.specs.Folding.Moves.{folding-merge, folding-noted}
use Rattle.fold_merge.proofs.merge_runs.Goals as goal

pub returns : goal.returns
returns c =
    let g = c.args.runs.now.holds in
    folding-noted g (folding-merge g c.from-a.ensures c.from-b.ensures c.from.ensures c.skip_runs.ensures c.skip_runs-2.ensures) c.keep_all.ensures
