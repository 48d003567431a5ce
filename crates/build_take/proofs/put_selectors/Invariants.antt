-- Records have been written as far as a place.
use Rattle.build_marks.specs.Code.Records.{Putting}
use Rattle.build_take.proofs.put_selectors.Given as goal

abbrev pub invariant-loop-at : goal.invariant-loop-at
invariant-loop-at g l =
    record {
      fits : g.M.Merging.fits l.tray l.places l.merge;
      putting : Putting l.tray.bytes.now l.tray.runs l.initial.places l.initial.seg l.from l.first l.to l.places l.seg l.at l.last;
    }
