use Rattle.theorems.specs.Cursors.Laws.{OutSoFar}
use Rattle.kanyorith.proofs.cursor.put_places.Given as goal

abbrev pub invariant-loop-i : goal.invariant-loop-i
invariant-loop-i l = OutSoFar l.places l.numbers l.i
