-- Invariant: the counts before run r fit, and they and the starts up to run r are found.
use Rattle.std.proofs.Common.{ℕ, ◌+◌, ◌*◌, refl, ap, replicate, arith}
use Rattle.tray.proofs.FrameCode.{read-counts-none, read-counts-more, over, not-long, as-long, frame_of}
use Rattle.tray.proofs.frame.count_runs.Goals as goal

pub loop-r-init : goal.loop-r-init
loop-r-init c = (read-counts-none _ (replicate 64 0) c.requires.most (ap (λ (n : ℕ). 4 + 2 * n) c.from.ensures) refl refl, refl)

pub returns-then-n-gt4096 : goal.returns-then-n-gt4096
returns-then-n-gt4096 c = (over _ c.loop-r-test.true c.count_of-n.ensures (omega arith), refl)

pub loop-r-preserved : goal.loop-r-preserved
loop-r-preserved c = (
  read-counts-more _ c.loop-r.invariant.0 c.loop-r-test.true c.requires.most c.count_of-n.ensures (omega arith) c.from-i.ensures c.from-in-loop-r.ensures,
  refl,
)

pub invariant_of-result : goal.invariant_of-result
invariant_of-result c = record { frame = frame_of _ c.requires.fits c.loop-r.invariant.0 refl c.loop-r-test.false c.if-at-t.true }

pub returns-then-at-t : goal.returns-then-at-t
returns-then-at-t c = (as-long _ c.requires.fits c.loop-r.invariant.0 refl c.loop-r-test.false c.if-at-t.true, refl)

pub returns : goal.returns
returns c = (not-long _ c.requires.fits c.loop-r.invariant.0 refl c.loop-r-test.false c.if-at-t.false, refl)
