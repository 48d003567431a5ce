-- `index_check::check_segments` meets its contract. Invariant: the segments left answer for all of them.
use Rattle.index.specs.Check.Code.{scanning-on, scanned-wrong, scanned-through, scanned-left}
use Rattle.index_check.proofs.check_segments.Goals as goal

pub returns-then-not-check_segment : goal.returns-then-not-check_segment
returns-then-not-check_segment c =
    let frame = c.args.index.now.frame in
    rw c.from.ensures
    (scanned-wrong _ (rw c.requires.runs at frame) c.args.tray.now.frame.runs c.loop-g.invariant c.loop-g-test.true _ _ c.check_segment.ensures c.if-not-check_segment.true)

pub loop-g-preserved : goal.loop-g-preserved
loop-g-preserved c = scanning-on c.loop-g.invariant c.loop-g-test.true _ _ c.check_segment.ensures c.if-not-check_segment.false

pub returns-then-used_up : goal.returns-then-used_up
returns-then-used_up c =
    let frame = c.args.index.now.frame in
    rw c.from-n.ensures
    (scanned-through _ (rw c.requires.runs at frame) c.args.tray.now.frame.runs c.loop-g.invariant c.loop-g-test.false c.used_up.ensures c.if-used_up.true)

pub returns : goal.returns
returns c =
    let frame = c.args.index.now.frame in
    rw c.from-n.ensures
    (scanned-left _ (rw c.requires.runs at frame) c.args.tray.now.frame.runs c.loop-g.invariant c.loop-g-test.false c.used_up.ensures c.if-used_up.false)
