use Rattle.index.specs.Scan.Code.Follow.{Following}
use Rattle.index_scan.proofs.segment.check_following.Given as goal

abbrev pub invariant-loop-i : goal.invariant-loop-i
invariant-loop-i l = Following l.tray.bytes.now l.selectors l.tray.runs l.initial.places l.first l.first_run l.places l.last l.before l.i
