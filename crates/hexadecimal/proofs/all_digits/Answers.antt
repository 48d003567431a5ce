-- `hexadecimal::all_digits` meets its contract. Invariant: the characters from a place on have still to be counted.
use lib.ListN.{get_or}
use Rattle.hexadecimal.specs.Hex.Code.{counting_more, counting-end, fault-low}
use native.Mathlib.Omega.{arith}
use Rattle.hexadecimal.proofs.all_digits.Goals as goal

pub overflow_add-faults : goal.overflow_add-faults
overflow_add-faults c = omega (arith, c.loop-c.invariant.few, c.fault-faults.ensures, fault-low (get_or c.args.line.now c.loop-c.c-index 0), c.requires)

pub loop-c-preserved : goal.loop-c-preserved
loop-c-preserved c = counting_more c.loop-c.invariant (omega arith) c.fault-faults.ensures

pub returns : goal.returns
returns c = counting-end c.loop-c.invariant (omega arith)
