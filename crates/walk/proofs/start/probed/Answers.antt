-- Invariant: the segments left to probe, with as many probes as are enough, answer for all.
use Rattle.std.proofs.Common.{arith}
use Rattle.walk.specs.Start.Code.{probes-start, probes-above, probes-below, probes-end}
use Rattle.walk.proofs.start.probed.Goals as goal

pub loop-first-init : goal.loop-first-init
loop-first-init c = probes-start _ _ _ _ _ _

pub loop-first-preserved-then-read-key : goal.loop-first-preserved-then-read-key
loop-first-preserved-then-read-key c =
    probes-above _ _ _ _ _ c.args.index.now.frame c.loop-first.invariant c.loop-first-test.true (omega arith) c.segment_at-at.ensures.value c.read.ensures c.if-read-key.true

pub loop-first-preserved : goal.loop-first-preserved
loop-first-preserved c =
    probes-below _ _ _ _ _ c.args.index.now.frame c.loop-first.invariant c.loop-first-test.true (omega arith) c.segment_at-at.ensures.value c.read.ensures c.if-read-key.false

pub returns : goal.returns
returns c = probes-end _ _ _ _ _ c.args.index.now.frame c.loop-first.invariant c.loop-first-test.false
