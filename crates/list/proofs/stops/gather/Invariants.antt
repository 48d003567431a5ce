use Rattle.list.specs.Stops.Code.{Gathering}
use Rattle.list.proofs.stops.gather.Given as goal

abbrev pub invariant-loop-s : goal.invariant-loop-s
invariant-loop-s l = Gathering l.indexed.tray.bytes.now l.indexed.index.bytes.now l.indexed.index.size l.g.0 l.fn.from l.initial.places l.before l.initial.ats l.s l.places l.k l.ats
