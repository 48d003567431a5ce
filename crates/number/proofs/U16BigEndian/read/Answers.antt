-- The number of 2 bytes: `be 2` written out.
use Rattle.std.proofs.Common.{arith, add-zero}
use Rattle.number.specs.Big.{be}
use Rattle.number.proofs.U16BigEndian.read.Goals as goal

pub returns : goal.returns
unfolding be
returns c = simp add-zero (omega arith)
