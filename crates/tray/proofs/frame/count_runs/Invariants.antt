use Rattle.tray.proofs.FrameCode.{Counted}
use Rattle.std.proofs.Common.{◌≡◌, get_or}
use Rattle.tray.proofs.frame.count_runs.Given as goal

abbrev pub invariant-loop-r : goal.invariant-loop-r
invariant-loop-r l = Counted l.t l.counts l.starts l.at l.r × (l.h ≡ get_or l.t 0 0)
