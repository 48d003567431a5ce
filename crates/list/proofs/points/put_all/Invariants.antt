use Rattle.list.specs.Put.Code.{Putting}
use Rattle.list.proofs.points.put_all.Given as goal

abbrev pub invariant-loop-i : goal.invariant-loop-i
invariant-loop-i l = Putting l.t l.ats l.count l.initial.out l.i l.out
