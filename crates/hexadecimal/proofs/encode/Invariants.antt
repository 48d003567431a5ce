use Rattle.hexadecimal.specs.Hex.Code.{Spelling}
use Rattle.hexadecimal.proofs.encode.Given as goal

abbrev pub invariant-loop-i : goal.invariant-loop-i
invariant-loop-i l = Spelling l.bytes l.at l.initial.out l.out l.i
