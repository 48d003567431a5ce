-- `fold::folded_size` meets its contract: the length of each part.
use Rattle.std.proofs.Common.{ap, ◌∙◌, arith, length}
use Rattle.fold_write.specs.Write.Trays.{laid-parts}
use Rattle.fold.proofs.folded_size.Goals as goal

pub overflow_add-result-3 : goal.overflow_add-result-3
overflow_add-result-3 c =
    let laid = laid-parts c.args.runs.now.holds c.requires.number in
    omega (arith, laid.size, laid.low, ap length c.before-2.ensures ∙ laid.front, ap length c.after.ensures ∙ laid.back, c.requires.most)

pub overflow_add-result-4 : goal.overflow_add-result-4
overflow_add-result-4 c =
    let laid = laid-parts c.args.runs.now.holds c.requires.number in
    omega (arith, laid.size, laid.low, ap length c.before-2.ensures ∙ laid.front, ap length c.after.ensures ∙ laid.back, c.requires.most, c.left.ensures, c.from.ensures)

pub returns : goal.returns
returns c =
    let laid = laid-parts c.args.runs.now.holds c.requires.number in
    omega (arith, laid.size, ap length c.before-2.ensures ∙ laid.front, ap length c.after.ensures ∙ laid.back, c.left.ensures, c.from.ensures)
