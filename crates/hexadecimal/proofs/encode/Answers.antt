-- `hexadecimal::encode` meets its contract. Invariant: the digits of the bytes from place i on have still to be written.
use Rattle.hexadecimal.specs.Hex.Code.{spelling-more, spelling-end}
use native.Mathlib.Omega.{arith}
use Rattle.hexadecimal.proofs.encode.Goals as goal

pub loop-i-preserved : goal.loop-i-preserved
loop-i-preserved c = spelling-more c.loop-i.invariant (omega arith) c.requires c.digit.ensures c.digit-in-loop-i.ensures

pub returns : goal.returns
returns c = spelling-end c.loop-i.invariant (omega arith)
