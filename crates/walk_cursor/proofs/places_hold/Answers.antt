-- Invariant: the places before r are as they must be.
use Rattle.std.proofs.Common.{refl, sym, ◌∙◌, arith}
use Rattle.index.specs.Scan.Code.{same_to, same_next}
use Rattle.walk.specs.Code.{get_or-numbers}
use Rattle.walk_cursor.specs.Standing.{same-off, wanted-run}
use Rattle.walk_cursor.proofs.places_hold.Goals as goal

pub loop-r-init : goal.loop-r-init
unfolding same_to
loop-r-init c = refl

pub loop-r-preserved : goal.loop-r-preserved
loop-r-preserved c =
    let r = c.loop-r.r in
    same_next _ _ (omega arith) (omega arith)
    (get_or-numbers c.args.places.now r
    ∙ sym c.from.ensures
    ∙ c.if-from.false
    ∙ wanted-run _ c.args.index.now.bytes.now _ c.args.seen.now c.requires.1 (omega arith) (c.from-in-loop-r.ensures ∙ c.read-offset.ensures) c.from-in-loop-r-2.ensures)
    ∙ c.loop-r.invariant

pub returns-then-from : goal.returns-then-from
returns-then-from c =
    let r = c.loop-r.r in
    let wanted = wanted-run c.args.index.now.runs c.args.index.now.bytes.now c.segment_at-at.result c.args.seen.now c.requires.1 (omega arith) (c.from-in-loop-r.ensures ∙ c.read-offset.ensures)
    c.from-in-loop-r-2.ensures in
    rw (← c.segment_at-at.ensures.value)
    (sym (same-off _ _ _ r (omega arith) (λ e. c.if-from.true (c.from.ensures ∙ sym (get_or-numbers c.args.places.now r) ∙ e ∙ sym wanted))))
