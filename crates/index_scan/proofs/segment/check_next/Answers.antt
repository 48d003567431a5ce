-- `index_scan::segment::check_next` meets its contract: the record that the selector names, if it names one, decides.
use Rattle.index.specs.Scan.Code.{trailed}
use Rattle.index.specs.Scan.Code.Steps.{step-none, step-not, step-read}
use Rattle.index_scan.proofs.segment.check_next.Goals as goal

pub returns-in_err-p : goal.returns-in_err-p
unfolding trailed
returns-in_err-p c = rw c.from_residual.ensures (step-none _ _ _ _ c.in_err-p.ensures _ _)

pub returns-then-may_follow : goal.returns-then-may_follow
returns-then-may_follow c =
    rw c.from.ensures (step-read _ _ _ _ _ c.in_ok-p.ensures c.head-e.ensures _ _ c.may_follow.ensures c.if-may_follow.true)

pub returns : goal.returns
unfolding trailed
returns c = step-not _ _ _ _ _ c.in_ok-p.ensures c.head-e.ensures _ _ c.may_follow.ensures c.if-may_follow.false
