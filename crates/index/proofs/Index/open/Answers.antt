-- Each way out is a test of the frame, in its order.
use Rattle.std.proofs.Common.{refl, arith}
use Rattle.index.specs.Layout.{size_of, segment_count}
use Rattle.index.specs.Layout.Code.{frame-short, frame-runs, frame-low, frame-high, frame-2, frame-3, frame-long, frame-fits, laid}
use Rattle.index.proofs.Index.open.Goals as goal

pub returns-then-x-lt8 : goal.returns-then-x-lt8
returns-then-x-lt8 c = (frame-short _ _ c.if-x-lt8.true, refl)

pub returns-then-x-h : goal.returns-then-x-h
returns-then-x-h c = (frame-runs _ _ c.if-x-lt8.false c.if-x-h.true, refl)

pub returns-then-d-h : goal.returns-then-d-h
returns-then-d-h c = (frame-low _ _ c.if-x-lt8.false c.if-x-h.false c.if-d-h.true, refl)

pub returns-then-d-gt128 : goal.returns-then-d-gt128
returns-then-d-gt128 c = (frame-high _ _ c.if-x-lt8.false c.if-x-h.false c.if-d-h.false c.if-d-gt128.true, refl)

pub returns-then-x-ne0 : goal.returns-then-x-ne0
returns-then-x-ne0 c = (frame-2 _ _ c.if-x-lt8.false c.if-x-h.false c.if-d-h.false (omega arith) c.if-x-ne0.true, refl)

pub returns-then-x-ne0-2 : goal.returns-then-x-ne0-2
returns-then-x-ne0-2 c = (frame-3 _ _ c.if-x-lt8.false c.if-x-h.false c.if-d-h.false (omega arith) c.if-x-ne0.false c.if-x-ne0-2.true, refl)

pub invariant_of-result : goal.invariant_of-result
unfolding size_of segment_count
invariant_of-result c =
    let fits =
    frame-fits _ _ c.if-x-lt8.false c.if-x-h.false c.if-d-h.false (omega arith) c.if-x-ne0.false c.if-x-ne0-2.false c.read-n.ensures c.segment_at.ensures c.if-x-segment_at.true
    in
    record { frame = laid _ fits refl c.read-n.ensures; byte = omega arith }

pub returns-then-x-segment_at : goal.returns-then-x-segment_at
returns-then-x-segment_at c = (
  frame-fits _ _ c.if-x-lt8.false c.if-x-h.false c.if-d-h.false (omega arith) c.if-x-ne0.false c.if-x-ne0-2.false c.read-n.ensures c.segment_at.ensures c.if-x-segment_at.true,
  refl,
  refl,
  c.if-d-h.false,
  omega arith,
)

pub returns : goal.returns
returns c = (
  frame-long _ _ c.if-x-lt8.false c.if-x-h.false c.if-d-h.false (omega arith) c.if-x-ne0.false c.if-x-ne0-2.false c.read-n.ensures c.segment_at.ensures c.if-x-segment_at.false,
  refl,
)
