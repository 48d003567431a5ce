-- `fold_merge::take_next` meets its contract: the record is noted before the run moves on.
use Rattle.std.proofs.Common.{arith}
use Rattle.fold_merge.specs.Folding.Keeping.{noted-at, stands_at}
use Rattle.fold_merge.proofs.take_next.Goals as goal

pub overflow_add-tray : goal.overflow_add-tray
overflow_add-tray c =
    let at = stands_at c.requires.heading.caching.reading c.requires.r_bound.0 c.from-i.ensures c.requires.r_bound.1 in
    omega (arith, at.low, c.from.ensures)

pub returns-clause-kept_after : goal.returns-clause-kept_after
returns-clause-kept_after c =
    let at = stands_at c.requires.heading.caching.reading c.requires.r_bound.0 c.from-i.ensures c.requires.r_bound.1 in
    noted-at _ _ (omega (arith, at.is, c.from.ensures)) c.note.ensures
