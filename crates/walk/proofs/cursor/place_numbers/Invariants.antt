use Rattle.walk.specs.Code.Numbers.{Copying}
use Rattle.walk.proofs.cursor.place_numbers.Given as goal

-- the places before i are copied
abbrev pub invariant-loop-i : goal.invariant-loop-i
invariant-loop-i l = Copying l.places l.ps l.i
