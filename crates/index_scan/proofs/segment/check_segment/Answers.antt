-- `index_scan::segment::check_segment` meets its contract: its offsets, its first selector, those that follow and the next keys decide in turn.
use Rattle.index.specs.Scan.Code.{told}
use Rattle.index.specs.Scan.Code.Follow.{segment-offsets, segment-first, segment-follow, segment-heads}
use native.Mathlib.Omega.{arith}
use Rattle.index_scan.proofs.segment.check_segment.Goals as goal

pub returns-then-not-offsets_hold : goal.returns-then-not-offsets_hold
unfolding told
returns-then-not-offsets_hold c =
    let at = c.segment_at-at.ensures.value in
    rw (← (rw c.requires.runs at at)) (segment-offsets _ _ _ _ _ _ c.offsets_hold.ensures c.if-not-offsets_hold.true)

pub returns-in_default : goal.returns-in_default
unfolding told
returns-in_default c =
    let at = c.segment_at-at.ensures.value in
    rw (← (rw c.requires.runs at at))
    (segment-first _ _ _ _ _ _ c.offsets_hold.ensures c.if-not-offsets_hold.false (omega arith) c.read.ensures _ _ c.check_first.ensures c.in_default.is)

pub returns-in_default-check_following : goal.returns-in_default-check_following
unfolding told
returns-in_default-check_following c =
    let at = c.segment_at-at.ensures.value in
    rw (← (rw c.requires.runs at at))
    (segment-follow _ _ _ _ _ _ c.offsets_hold.ensures c.if-not-offsets_hold.false (omega arith) c.read.ensures _ _ c.check_first.ensures c.in-Some.is (omega arith) (omega arith) (omega arith)
    _ _ c.check_following.ensures c.in_default-check_following.is)

pub returns : goal.returns
returns c =
    let at = c.segment_at-at.ensures.value in
    rw (← (rw c.requires.runs at at))
    (segment-heads _ _ _ _ _ _ c.offsets_hold.ensures c.if-not-offsets_hold.false (omega arith) c.read.ensures _ _ c.check_first.ensures c.in-Some.is (omega arith) (omega arith) (omega arith)
    _ _ c.check_following.ensures c.in-Some-check_following.is c.heads_above.ensures)
