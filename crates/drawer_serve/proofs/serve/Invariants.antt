use Rattle.std.proofs.Common.{◌-◌, length}
use Rattle.drawer_serve.specs.Serves.{Serving}
use Rattle.drawer_serve.proofs.serve.Given as goal

abbrev pub invariant-loop-at : goal.invariant-loop-at
invariant-loop-at l = Serving l.piece l.initial.carried l.carried l.at

abbrev pub decreases-loop-at : goal.decreases-loop-at
decreases-loop-at l = length l.piece - l.at
