-- `index_scan::segment::offsets_hold` meets its contract. Invariant: the offsets so far are right.
use mathlib.Core.Path.{refl, sym}
use Rattle.index.specs.Scan.{offsets_hold}
use Rattle.index.specs.Scan.Code.{offsets-more, offsets-stop}
use native.Mathlib.Omega.{arith}
use Rattle.index_scan.proofs.segment.offsets_hold.Goals as goal

pub loop-r-init : goal.loop-r-init
unfolding offsets_hold
loop-r-init c = refl

pub returns-then-read-places : goal.returns-then-read-places
returns-then-read-places c = sym (offsets-stop _ _ _ (omega arith) (rw (c.read.ensures) at c.if-read-places.true))

pub loop-r-preserved : goal.loop-r-preserved
loop-r-preserved c = offsets-more _ _ _ _ c.loop-r.invariant (rw (c.read.ensures) at c.if-read-places.false)
