use Rattle.hexadecimal.specs.Hex.Code.{Counting}
use Rattle.hexadecimal.proofs.all_digits.Given as goal

abbrev pub invariant-loop-c : goal.invariant-loop-c
invariant-loop-c l = Counting l.line l.faults l.c-index
