-- `index_scan::segment::heads_above` meets its contract. Invariant: the next keys of the runs so far are above.
use mathlib.Core.Path.{refl, sym}
use Rattle.index.specs.Scan.{heads_above}
use Rattle.index.specs.Scan.Code.{heads-none, heads-some, heads-stop}
use Rattle.index_scan.proofs.segment.heads_above.Goals as goal
use Rattle.index_scan.proofs.segment.heads_above.Goals.{in-Some+else-e-last, in_default}

pub loop-r-init : goal.loop-r-init
unfolding heads_above
loop-r-init c = refl

pub returns-then-e-last : goal.returns-then-e-last
returns-then-e-last c = sym (heads-stop _ _ _ _ _ _ c.in-Some.ensures c.head-e.ensures c.loop-r-test.true c.if-e-last.true)

pub loop-r-preserved : goal.loop-r-preserved
loop-r-preserved c =
    elim c.match-next_place.branch [
      | in-Some+else-e-last w ↦ heads-some _ _ _ _ _ _ w.in-Some.ensures w.head-e.ensures c.loop-r.invariant w.if-e-last.false
      | in_default w ↦ heads-none _ _ _ _ _ c.loop-r.invariant c.loop-r-test.true w.in_default.ensures
    ]
