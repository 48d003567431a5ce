use Rattle.std.proofs.Common.{◌-◌, length}
use Rattle.drawer_spec.specs.Feed.Code.{Taking}
use Rattle.drawer_read.proofs.take_lines.Given as goal

abbrev pub invariant-loop-rest : goal.invariant-loop-rest
invariant-loop-rest l = Taking l.piece l.initial.carried l.carried l.at

abbrev pub decreases-loop-rest : goal.decreases-loop-rest
decreases-loop-rest l = length l.piece - l.at
