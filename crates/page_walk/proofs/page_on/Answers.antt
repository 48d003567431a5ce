-- Invariants: the page from where it enters segment g, and from selector s on, answers for the whole.
use Rattle.std.proofs.Common.{refl, ◌∙◌, arith}
use Rattle.walk.specs.Code.{spot_of}
use Rattle.walk.specs.Code.Turns.{selector-is}
use Rattle.list.specs.Page.{paged_of, paged_as}
use Rattle.list.specs.Page.Code.{visit-full, page-writes, page-skips}
use Rattle.list.specs.Steps.{here-entered, here-left, here-over, here-pass, here-no-run, here-no-place, here-stay}
use Rattle.page_walk.proofs.page_on.Goals as goal
use Rattle.page_walk.proofs.page_on.Goals.{then-index-r-via-then-index-r, then-index-r-via-else-index-r+then-tray-i, then-v-lt64+else-slots-count, else-v-lt64}

pub loop-g-init : goal.loop-g-init
unfolding spot_of
loop-g-init c = record { since = c.requires; same = refl }

pub loop-s-init : goal.loop-s-init
loop-s-init c =
    here-entered c.args.listing.now.indexed.now.walking c.loop-g.invariant c.loop-g-test.true c.enter-begin.array_long c.enter-begin.ensures.spot c.from-s.ensures c.enter-begin.ensures.low

pub loop-s-preserved-then-v-eq63 : goal.loop-s-preserved-then-v-eq63
loop-s-preserved-then-v-eq63 c =
    let w = c.args.listing.now.indexed.now.walking in
    here-pass w c.loop-s.invariant (omega arith) (selector-is w _ _ refl c.selectors_at-first.ensures.value refl) c.if-v-eq63.true

pub returns-then-index-r : goal.returns-then-index-r
unfolding paged_of paged_as
returns-then-index-r c =
    let w = c.args.listing.now.indexed.now.walking in
    let read = selector-is w _ c.loop-s.s refl c.selectors_at-first.ensures.value refl in
    elim c.then-index-r.branch [
      | then-index-r-via-then-index-r b ↦ here-no-run w c.loop-s.invariant (omega arith) read c.if-v-eq63.false b.if-index-r.true
      | then-index-r-via-else-index-r+then-tray-i b ↦
          here-no-place w c.loop-s.invariant (omega arith) read c.if-v-eq63.false b.if-index-r.false c.from-i.ensures b.if-tray-i.true
    ]

pub returns-then-slots-count : goal.returns-then-slots-count
unfolding paged_of paged_as spot_of
returns-then-slots-count c =
    let w = c.args.listing.now.indexed.now.walking in
    here-stay w
    c.loop-s.invariant
    (omega arith)
    (selector-is w _ _ refl c.selectors_at-first.ensures.value refl)
    c.if-v-eq63.false
    c.if-index-r.false
    c.from-i.ensures
    c.if-tray-i.false
    (visit-full w _ c.loop-s.places c.if-index-r.false c.from-i.ensures _ _ _ _ c.if-v-lt64.true (omega arith))

pub loop-s-preserved : goal.loop-s-preserved
loop-s-preserved c =
    let w = c.args.listing.now.indexed.now.walking in
    let read = selector-is w _ c.loop-s.s refl c.selectors_at-first.ensures.value refl in
    elim c.if-v-lt64.branch [
      | then-v-lt64+else-slots-count b ↦
          page-writes w c.loop-s.invariant (omega arith) read c.if-v-eq63.false c.if-index-r.false c.from-i.ensures c.if-tray-i.false b.if-v-lt64.true (omega arith)
          b.count-is (b.out-is ∙ b.write_point.ensures)
      | else-v-lt64 b ↦
          page-skips w c.loop-s.invariant (omega arith) read c.if-v-eq63.false c.if-index-r.false c.from-i.ensures c.if-tray-i.false b.if-v-lt64.false b.count-is b.out-is
    ]

pub loop-g-preserved : goal.loop-g-preserved
unfolding spot_of
loop-g-preserved c = here-left c.args.listing.now.indexed.now.walking c.loop-s.invariant (omega arith) c.loop-g.invariant.since

pub returns-after-loop-g : goal.returns-after-loop-g
unfolding paged_of paged_as
returns-after-loop-g c = here-over c.args.listing.now.indexed.now.walking c.loop-g.invariant c.loop-g-test.false
