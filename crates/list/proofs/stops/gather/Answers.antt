-- Invariant: what is gathered, with what is still to come, is all that is to be gathered.
use Rattle.std.proofs.Common.{refl, arith}
use Rattle.tray.proofs.FrameCode.{cut}
use Rattle.walk.specs.Code.Turns.{selector-is}
use Rattle.list.specs.Gathers.{stop_of}
use Rattle.list.specs.Stops.Code.{gathering-pass, gathering-name, gathered-no-place, gathered-no-run, gathered-all}
use Rattle.list.proofs.stops.gather.Goals as goal
use Rattle.list.proofs.stops.gather.Goals.{then-index-r-via-then-index-r, then-index-r-via-else-index-r+then-tray-i}

pub loop-s-preserved-then-v-eq63 : goal.loop-s-preserved-then-v-eq63
loop-s-preserved-then-v-eq63 c =
    let walking = c.args.indexed.now.walking in
    gathering-pass c.loop-s.invariant walking (omega arith) (selector-is walking _ _ refl c.selectors_at-first.ensures.value refl) c.if-v-eq63.true

pub returns-then-index-r : goal.returns-then-index-r
unfolding stop_of
returns-then-index-r c =
    let walking = c.args.indexed.now.walking in
    let read = selector-is walking _ c.loop-s.s refl c.selectors_at-first.ensures.value refl in
    record {
      from = elim c.then-index-r.branch [
        | then-index-r-via-then-index-r w ↦ gathered-no-run c.loop-s.invariant walking (omega arith) read c.if-v-eq63.false w.if-index-r.true
        | then-index-r-via-else-index-r+then-tray-i w ↦
            gathered-no-place c.loop-s.invariant walking (omega arith) read c.if-v-eq63.false w.if-index-r.false c.from-i.ensures w.if-tray-i.true
      ];
      lost = (refl, omega arith);
    }

pub overflow_add-ats : goal.overflow_add-ats
overflow_add-ats c =
    let walking = c.args.indexed.now.walking in
    let k = cut _ c.args.indexed.now.tray.frame.at (omega (arith, walking.runs, c.if-index-r.false)) c.from-i.ensures in
    omega (arith, k.start, k.end)

pub loop-s-preserved : goal.loop-s-preserved
loop-s-preserved c =
    let walking = c.args.indexed.now.walking in
    gathering-name
    c.loop-s.invariant
    walking
    (omega arith)
    (selector-is walking _ _ refl c.selectors_at-first.ensures.value refl)
    c.if-v-eq63.false
    c.if-index-r.false
    c.from-i.ensures
    c.if-tray-i.false
    c.args.indexed.now.tray.frame.at
    (omega arith)
    refl
    c.from.ensures
    c.is_unmarked-k.ensures

pub returns : goal.returns
unfolding stop_of
returns c = record { from = gathered-all c.loop-s.invariant refl (omega arith); lost = tt }
