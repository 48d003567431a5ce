-- `fold_write::put_kept` meets its contract: record by record.
use Rattle.std.proofs.Common.{arith}
use Rattle.fold_write.specs.Write.Writes.{putting-none, putting-more, putting-end, kept-inside}
use Rattle.fold_write.proofs.put_kept.Goals as goal

pub loop-j-init : goal.loop-j-init
loop-j-init c = putting-none _ _ _ _

pub put_record-requires : goal.put_record-requires
put_record-requires c =
    (kept-inside c.args.t.now c.args.kept.now c.requires.inside c.loop-j-test.true, omega (arith, c.requires.room, c.loop-j.invariant.room))

pub loop-j-preserved : goal.loop-j-preserved
loop-j-preserved c = putting-more c.requires.room c.loop-j.invariant c.loop-j-test.true c.put_record.ensures

pub returns : goal.returns
returns c = putting-end c.loop-j.invariant c.loop-j-test.false
