use Rattle.sheet_count.specs.Count.Code.{Seeking}
use Rattle.sheet_count.proofs.first_past.Given as goal

abbrev pub invariant-loop-i : goal.invariant-loop-i
invariant-loop-i l = Seeking l.t l.ats l.high l.i
