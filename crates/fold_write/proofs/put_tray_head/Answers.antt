-- `fold_write::put_tray_head` meets its contract: four bytes, two stretches of the tray and a number between them, one right after the other.
use Rattle.std.proofs.Common.{arith, ◌∙◌}
use Rattle.fold_write.specs.Write.Trays.{counts-in, head-put}
use Rattle.fold_write.proofs.put_tray_head.Goals as goal

pub slice_bounds-copy-end : goal.slice_bounds-copy-end
slice_bounds-copy-end c = omega (arith, counts-in c.args.runs.now.tray, c.args.runs.now.holds.order, c.args.runs.now.holds.within, c.from.ensures)

pub slice_bounds-copy-end-2 : goal.slice_bounds-copy-end-2
slice_bounds-copy-end-2 c = omega (arith, counts-in c.args.runs.now.tray, c.args.runs.now.tray.frame.runs, c.from-3.ensures)

pub returns : goal.returns
returns c =
    head-put c.args.runs.now.holds _ c.args.n c.left.ensures (omega (arith, c.requires, c.left.ensures))
    c.from.ensures c.from-2.ensures (c.from-3.ensures ∙ c.args.runs.now.tray.frame.runs) c.copy.ensures c.write.ensures c.copy-2.ensures
