use Prim.Native.Nat.{◌/◌}
use lib.ListN.{length}
use Rattle.hexadecimal.specs.Hex.Laws.{pair_at}
use Rattle.hexadecimal.specs.Hex.Code.{Filling}
use Rattle.hexadecimal.proofs.decode.Given as goal

abbrev pub invariant-loop-i : goal.invariant-loop-i
invariant-loop-i l = Filling (pair_at l.line) (length l.line / 2) l.initial.frame l.frame l.i
