-- Invariants: the walk from here answers for the walk from the cursor.
use Rattle.std.specs.Prelude.{Ok, ◌≡◌, ◌≤◌}
use Rattle.std.proofs.Common.{rules, refl, sym, ap, ◌∙◌, length-set, arith}
use Rattle.answers.specs.declared.Stand.TheVariants.{End}
use Rattle.walk.specs.Code.{spot_of, selectors-pass, selectors-lost, selectors-stay, selectors-go, raise-numbers}
use Rattle.walk.specs.Code.Load.{loaded_from}
use Rattle.walk.specs.Code.Turns.{selector-is, named-run}
use Rattle.walk.specs.Walk.{Spot}
use Rattle.next.specs.Next.{passed_by, passed-gap, passed-record, passed-inside, walks, visible-go, visible-stay, outer-from, inner-here, inner-later, outer-next, outer-end}
use Rattle.next.specs.Code.{count-inside, inside-run, beyond-run, told-found, told-lost, told-end}
use Rattle.next.proofs.next.first_from.Goals as goal
use Rattle.next.proofs.next.first_from.Goals.{then-here-ne63, else-here-ne63, then-start-g, else-start-g, then-index-r-via-then-index-r, then-index-r-via-else-index-r+then-count_of-places}

pub past_gap-at-requires : goal.past_gap-at-requires
past_gap-at-requires c =
    let byte : c.args.index.now.size ≤ 255 = c.args.index.now.byte in
    omega (arith, c.requires.inside.1)

pub past_record-at-requires : goal.past_record-at-requires
past_record-at-requires c =
    let byte : c.args.index.now.size ≤ 255 = c.args.index.now.byte in
    let bound = c.requires.here_bound c.if-here-ne63.true in
    (omega (arith, c.requires.inside.1), bound.0, bound.1)

pub loop-g-init : goal.loop-g-init
loop-g-init c =
    let moved : spot_of c.if-here-ne63.at ≡ passed_by c.args.here (spot_of c.args.from.now) =
    elim c.if-here-ne63.branch [
      | then-here-ne63 b ↦ rw b.at-is (b.past_record-at.ensures ∙ passed-record _ b.if-here-ne63.true refl)
      | else-here-ne63 b ↦ rw b.at-is (c.past_gap-at.ensures ∙ passed-gap _ (omega (arith, b.if-here-ne63.false)))
    ] in
    outer-from _ _ _ _ c.if-here-ne63.at _ moved (search rules) refl refl

pub loop-s-init : goal.loop-s-init
unfolding spot_of
loop-s-init c =
    let w = walks c.requires.going in
    let o = c.loop-g.invariant in
    let from = passed_by c.args.here (spot_of c.args.from.now) in
    let moved : spot_of c.if-here-ne63.at ≡ passed_by c.args.here (spot_of c.args.from.now) =
    elim c.if-here-ne63.branch [
      | then-here-ne63 b ↦ rw b.at-is (b.past_record-at.ensures ∙ passed-record _ b.if-here-ne63.true refl)
      | else-here-ne63 b ↦ rw b.at-is (c.past_gap-at.ensures ∙ passed-gap _ (omega (arith, b.if-here-ne63.false)))
    ] in
    let begins : from.segment ≡ c.if-here-ne63.at.segment.0 = ap (λ (u : Spot). u.segment) (sym moved) in
    let inside = passed-inside c.args.here (spot_of c.args.from.now) in
    elim c.if-start-g.branch [
      | then-start-g b ↦
          rw (b.low-is, b.places-is)
          (inner-later w from o (omega (arith, begins, b.if-start-g.true)) c.loop-g-test.true (b.load.ensures ∙ ap (loaded_from _ _) b.segment_at.ensures.value))
      | else-start-g b ↦
          rw (b.low-is, b.places-is)
          (inner-here w from o (omega (arith, o.low, begins, b.if-start-g.false)) c.loop-g-test.true (omega (arith, inside.1, c.requires.inside.1)))
    ]

pub count_of-requires : goal.count_of-requires
count_of-requires c =
    count-inside c.requires.going _ c.if-index-r.false

pub loop-s-preserved-then-v-eq63 : goal.loop-s-preserved-then-v-eq63
loop-s-preserved-then-v-eq63 c =
    let i = c.loop-s.invariant in
    record {
      room = i.room;
      on = selectors-pass i.on c.loop-s-test.true (selector-is (walks c.requires.going) _ _ refl c.selectors_at-first.ensures.value c.from.ensures) c.if-v-eq63.true;
    }

pub loop-s-preserved : goal.loop-s-preserved
loop-s-preserved c =
    let w = walks c.requires.going in
    let i = c.loop-s.invariant in
    record {
      room = simp length-set i.room;
      on = selectors-go
          i.on
          c.loop-s-test.true
          (selector-is w _ _ refl c.selectors_at-first.ensures.value c.from.ensures)
          c.if-v-eq63.false
          (inside-run w _ _ c.if-index-r.false c.from-i.ensures c.count_of.ensures c.if-count_of-places.false)
          (visible-go _ c.if-unmarked.false)
          (raise-numbers c.loop-s.places c.from-i.ensures);
    }

pub loop-g-preserved : goal.loop-g-preserved
unfolding spot_of
loop-g-preserved c = outer-next (walks c.requires.going) (passed_by c.args.here (spot_of c.args.from.now)) c.loop-g.invariant.low c.loop-s.invariant c.loop-s-test.false

pub returns-then-index-r : goal.returns-then-index-r
returns-then-index-r c =
    let w = walks c.requires.going in
    told-lost w c.from-then-index-r.ensures
    (selectors-lost
    c.loop-s.invariant.on
    c.loop-s-test.true
    (selector-is w _ _ refl c.selectors_at-first.ensures.value c.from.ensures)
    c.if-v-eq63.false
    (elim c.then-index-r.branch [
      | then-index-r-via-then-index-r b ↦ named-run w _ c.loop-s.places b.if-index-r.true
      | then-index-r-via-else-index-r+then-count_of-places b ↦ beyond-run w _ c.loop-s.places b.if-index-r.false c.from-i.ensures b.count_of.ensures b.if-count_of-places.true
    ]))

pub returns-then-unmarked : goal.returns-then-unmarked
returns-then-unmarked c =
    let w = walks c.requires.going in
    told-found w _ _ _ c.loop-s.places c.if-index-r.false c.from-i.ensures
    (selectors-stay
    c.loop-s.invariant.on
    c.loop-s-test.true
    (selector-is w _ _ refl c.selectors_at-first.ensures.value c.from.ensures)
    c.if-v-eq63.false
    (inside-run w _ _ c.if-index-r.false c.from-i.ensures c.count_of.ensures c.if-count_of-places.false)
    (visible-stay _ c.if-unmarked.true))

pub returns-after-loop-g : goal.returns-after-loop-g
returns-after-loop-g c =
    let w = walks c.requires.going in
    ap (λ k. Ok (End k)) c.end.ensures ∙ told-end w (outer-end w (passed_by c.args.here (spot_of c.args.from.now)) c.loop-g.invariant c.loop-g-test.false)
