use Rattle.std.proofs.Common.{◌≡◌}
use Rattle.walk.specs.Code.Load.{Loading}
use Rattle.walk.proofs.cursor.load.Given as goal

-- the places before r, and before i, are loaded
abbrev pub invariant-loop-r : goal.invariant-loop-r
invariant-loop-r l = Loading l.h l.x l.at l.places l.r

abbrev pub invariant-loop-i : goal.invariant-loop-i
invariant-loop-i l = Loading l.h l.x l.at l.places l.i × (l.runs ≡ l.h)
