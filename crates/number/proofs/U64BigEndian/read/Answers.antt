-- The first half counts 256 to the power 4, which is `be-add`.
use Rattle.std.proofs.Common.{arith}
use Rattle.number.proofs.Big.Laws.{be-add}
use Rattle.number.proofs.U64BigEndian.read.Goals as goal

pub returns : goal.returns
returns c = omega (arith, be-add 4 4 c.args.s.now c.args.at)
