-- Each turn writes the next byte of the part in its place.
use Rattle.std.proofs.Common.{arith}
use Rattle.number.proofs.Big.Copies.{copying-more, copying-end}
use Rattle.number.proofs.copy.Goals as goal

pub loop-i-preserved : goal.loop-i-preserved
loop-i-preserved c =
    let i = c.loop-i.invariant in
    copying-more i c.loop-i-test.true (omega (arith, c.requires, i.room, c.loop-i-test.true))

pub returns : goal.returns
returns c = copying-end c.loop-i.invariant (omega (arith, c.loop-i-test.false))
