use Rattle.theorems.specs.Cursors.Laws.{InSoFar}
use Rattle.kanyorith.proofs.cursor.places_in.Given as goal

abbrev pub invariant-loop-i : goal.invariant-loop-i
invariant-loop-i l = InSoFar l.numbers l.places l.i
