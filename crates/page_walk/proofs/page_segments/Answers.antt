-- Invariant: the page from where it enters segment g answers for the whole, and what is written is written inside the room.
use Rattle.std.proofs.Common.{◌∙◌, refl, arith}
use Rattle.walk.specs.Code.{spot_of}
use Rattle.list.specs.Page.{paged_of, paged_as}
use Rattle.list.specs.Gathers.{gathers-all, gathers-lost}
use Rattle.list.specs.Steps.{entering-first, here-entered, here-left, here-over}
use Rattle.list.specs.Stops.Laws.{within_none, gathered-within}
use Rattle.page_walk.specs.Segments.{page-goes, page-lost}
use Rattle.page_walk.proofs.page_segments.Goals as goal

pub loop-g-init : goal.loop-g-init
unfolding spot_of
loop-g-init c = record { entering = entering-first _ _ _ _ _ _ _ refl; fits = omega arith }

-- what is left of the room is filled from where this segment is entered: an edit that fills it from another one is refused here
pub returns-then-room-count : goal.returns-then-room-count
returns-then-room-count c = c.page_on.ensures ∙ c.loop-g.invariant.entering.same

pub put_all-requires-clause-within : goal.put_all-requires-clause-within
put_all-requires-clause-within c = gathered-within c.args.listing.now.indexed.now.tray.frame.at.frame (within_none _) c.gather-gathered.ensures.from

pub returns-in-Err : goal.returns-in-Err
returns-in-Err c =
    let i = here-entered c.args.listing.now.indexed.now.walking c.loop-g.invariant.entering c.loop-g-test.true c.enter-begin.array_long c.enter-begin.ensures.spot c.from.ensures c.enter-begin.ensures.low in
    let f = gathers-lost c.gather-gathered.ensures c.in-Err.is in
    page-lost i c.args.listing.now.indexed.now.tray.frame.at.frame refl f.0 (omega arith) (omega arith) c.put_all.ensures f.1.0 refl f.1.1

pub loop-g-preserved : goal.loop-g-preserved
unfolding spot_of
loop-g-preserved c =
    let i = here-entered c.args.listing.now.indexed.now.walking c.loop-g.invariant.entering c.loop-g-test.true c.enter-begin.array_long c.enter-begin.ensures.spot c.from.ensures c.enter-begin.ensures.low in
    let f = gathers-all c.gather-gathered.ensures c.in_default.is in
    let on = page-goes i c.args.listing.now.indexed.now.tray.frame.at.frame refl f (omega arith) (omega arith) c.put_all.ensures (omega arith) in
    record { entering = here-left c.args.listing.now.indexed.now.walking on (omega arith) c.loop-g.invariant.entering.since; fits = c.if-room-count.false }

pub returns : goal.returns
unfolding paged_of paged_as
returns c = here-over c.args.listing.now.indexed.now.walking c.loop-g.invariant.entering c.loop-g-test.false
