use Rattle.index.specs.Check.Code.{Scanning}
use Rattle.index_check.proofs.check_segments.Given as goal

abbrev pub invariant-loop-g : goal.invariant-loop-g
invariant-loop-g l = Scanning l.tray.bytes.now l.index.bytes.now l.tray.runs l.index.size l.index.segments l.places l.g
