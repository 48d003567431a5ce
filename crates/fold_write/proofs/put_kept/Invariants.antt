-- The records from number j on, written from there, complete the copy.
use Rattle.fold_write.specs.Write.Writes.{Putting}
use Rattle.fold_write.proofs.put_kept.Given as goal

abbrev pub invariant-loop-j : goal.invariant-loop-j
invariant-loop-j l = Putting l.t l.kept l.at l.initial.out l.out l.j
