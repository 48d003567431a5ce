-- The selectors from i on have been given back.
use Rattle.build_marks.specs.Code.Records.{Backing}
use Rattle.build_marks.proofs.cut_back.Given as goal

abbrev pub invariant-loop-i : goal.invariant-loop-i
invariant-loop-i l = Backing l.seg l.from l.at l.initial.places l.places l.i
