use Rattle.tray.specs.Check.Code.{Judging}
use Rattle.tray_check.proofs.check_runs.Given as goal

abbrev pub invariant-loop-r : goal.invariant-loop-r
invariant-loop-r l = Judging l.tray.bytes.now l.before l.r
