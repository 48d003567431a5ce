use Rattle.std.proofs.Common.{◌≡◌, arith, subst}
use Rattle.walk.specs.Code.Load.{Loading, loading-none, loading-run, loading-rest, loading-end}
use Rattle.walk.proofs.cursor.load.Goals as goal

pub loop-r-init : goal.loop-r-init
loop-r-init c = loading-none c.told-places

pub loop-r-preserved : goal.loop-r-preserved
loop-r-preserved c = loading-run c.loop-r.invariant (omega (arith, c.loop-r-test.true, c.from-runs.ensures)) c.requires.1 c.read.ensures

pub loop-i-init : goal.loop-i-init
loop-i-init c =
    let end : c.loop-r.r ≡ c.from-runs.result = omega (arith, c.loop-r-test.false) in
    (subst (Loading _ _ _ _) end c.loop-r.invariant, c.from-runs.ensures)

pub loop-i-preserved : goal.loop-i-preserved
loop-i-preserved c = (loading-rest c.loop-i.invariant.0 (omega (arith, c.loop-i.invariant.1)) c.loop-i-test.true, c.loop-i.invariant.1)

pub returns : goal.returns
returns c = loading-end c.loop-i.invariant.0 c.loop-i-test.false
