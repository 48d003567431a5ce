use Rattle.walk_cursor.specs.Standing.{Tallied}
use Rattle.walk_cursor.proofs.tally.Given as goal

abbrev pub invariant-loop-v : goal.invariant-loop-v
invariant-loop-v l = Tallied l.x l.first l.v-index l.seen
