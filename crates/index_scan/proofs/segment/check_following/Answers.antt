-- `index_scan::segment::check_following` meets its contract. Invariant: the selectors left answer for all of them.
use Rattle.index.specs.Scan.Code.{trailed}
use Rattle.index.specs.Scan.Code.Follow.{following-on, following-lost, following-ended, following-end}
use Rattle.index_scan.proofs.segment.check_following.Goals as goal

pub returns-then-v-eq63 : goal.returns-then-v-eq63
returns-then-v-eq63 c =
    rw c.then_some.ensures
    (following-ended c.loop-i.invariant c.loop-i-test.true c.if-v-eq63.true c.only_placeholders.ensures)

pub returns-in_err-last : goal.returns-in_err-last
unfolding trailed
returns-in_err-last c =
    rw c.from_residual.ensures (following-lost c.loop-i.invariant c.loop-i-test.true c.if-v-eq63.false _ _ c.check_next.ensures c.in_err-last.was)

pub loop-i-preserved : goal.loop-i-preserved
loop-i-preserved c = following-on c.loop-i.invariant c.loop-i-test.true c.if-v-eq63.false _ _ c.check_next.ensures c.in_ok-last.was

pub returns : goal.returns
returns c = following-end c.loop-i.invariant c.loop-i-test.false
