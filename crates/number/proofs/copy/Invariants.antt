-- The bytes from place i on, written from there, complete the copy.
use Rattle.number.specs.Big.Copies.{Copying}
use Rattle.number.proofs.copy.Given as goal

abbrev pub invariant-loop-i : goal.invariant-loop-i
invariant-loop-i l = Copying l.part l.at l.fn.out l.out l.i
