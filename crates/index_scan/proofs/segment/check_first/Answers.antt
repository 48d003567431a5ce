-- `index_scan::segment::check_first` meets its contract: the record that the selector names, if it names one, decides.
use Rattle.index.specs.Scan.Code.{trailed}
use Rattle.index.specs.Scan.Code.Steps.{begin-none, begin-not, begin-other, begin-read}
use Rattle.index_scan.proofs.segment.check_first.Goals as goal
use Rattle.index_scan.proofs.segment.check_first.Goals.{else-may_begin-via-then-may_begin+else-anchor-e, else-may_begin-via-else-may_begin}

pub returns-in_err-p : goal.returns-in_err-p
unfolding trailed
returns-in_err-p c = rw c.from_residual.ensures (begin-none _ _ _ _ c.in_err-p.ensures _)

pub returns-then-anchor-e : goal.returns-then-anchor-e
returns-then-anchor-e c =
    rw c.from.ensures (begin-read _ _ _ _ _ c.in_ok-p.ensures c.head-e.ensures _ c.may_begin.ensures c.if-may_begin.true c.if-anchor-e.true)

pub returns : goal.returns
unfolding trailed
returns c =
    elim c.else-may_begin.branch [
      | else-may_begin-via-then-may_begin+else-anchor-e w ↦
          begin-other _ _ _ _ _ c.in_ok-p.ensures c.head-e.ensures _ c.may_begin.ensures w.if-may_begin.true w.if-anchor-e.false
      | else-may_begin-via-else-may_begin w ↦ begin-not _ _ _ _ _ c.in_ok-p.ensures c.head-e.ensures _ c.may_begin.ensures w.if-may_begin.false
    ]
