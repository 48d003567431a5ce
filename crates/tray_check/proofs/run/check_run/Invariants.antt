use Rattle.std.proofs.Common.{◌≡◌, ◌-◌}
use Rattle.tray.proofs.RunCode.{Last}
use Rattle.tray.specs.Run.{judge_from}
use Rattle.tray_check.proofs.run.check_run.Given as goal

-- the records before place p are right, and what is left to judge answers for the whole run
abbrev pub invariant-loop-p : goal.invariant-loop-p
invariant-loop-p l = record { before : Last l.run l.p l.last; same : judge_from (l.n - l.p) l.run l.p ≡ judge_from l.n l.run 0 }
