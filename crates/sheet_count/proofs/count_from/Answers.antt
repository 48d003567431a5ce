-- Invariant: sheet's walk enters segment g with so many records, of which the last are remembered.
use Rattle.std.specs.Prelude.{◌≤◌}
use Rattle.std.proofs.Common.{refl, ◌∙◌, arith, []}
use Rattle.walk.specs.Code.{spot_of}
use Rattle.list.specs.Gathers.{gathers-all, gathers-lost}
use Rattle.list.specs.Stops.Laws.{gathered-within}
use Rattle.list.specs.Steps.{entering-first, here-entered, here-left, here-over}
use Rattle.sheet_count.specs.Count.{counted_as}
use Rattle.sheet_count.specs.Count.Code.{remembers-none, remembers-fits, remembers-more, within-part, counted-past, counted-lost, counted-on, counted-few}
use Rattle.sheet_count.proofs.count_from.Goals as goal

pub loop-g-init : goal.loop-g-init
unfolding spot_of
loop-g-init c =
    record { records = []; kept = refl; entering = entering-first _ _ _ _ _ _ _ refl; few = omega arith; low = omega arith; remembered = remembers-none _ _ }

pub slots_kept-before-requires : goal.slots_kept-before-requires
slots_kept-before-requires c = (omega (arith, c.loop-g.invariant.remembered.fits), omega (arith, c.loop-g.invariant.kept))

pub first_past-fresh-requires : goal.first_past-fresh-requires
first_past-fresh-requires c =
    let m = remembers-fits c.loop-g.invariant.remembered refl (omega (arith, c.loop-g.invariant.kept)) c.slots_kept-before.ensures.value in
    within-part _ _ _ c.gather-gathered.ensures.from.least (gathered-within c.args.listing.now.indexed.now.tray.frame.at.frame m.within c.gather-gathered.ensures.from)

pub shape_of-ats-then-held-k : goal.shape_of-ats-then-held-k
shape_of-ats-then-held-k c = omega (arith, c.loop-g.invariant.kept)

pub returns-then-held-k-clause-counts : goal.returns-then-held-k-clause-counts
unfolding counted_as
returns-then-held-k-clause-counts c =
    let i = here-entered c.args.listing.now.indexed.now.walking c.loop-g.invariant.entering c.loop-g-test.true c.enter.array_long c.enter.ensures.spot c.from-at.ensures c.enter.ensures.low in
    let m = remembers-fits c.loop-g.invariant.remembered refl (omega (arith, c.loop-g.invariant.kept)) c.slots_kept-before.ensures.value in
    let framed = c.args.listing.now.indexed.now.tray.frame.at.frame in
    let f = c.gather-gathered.ensures.from in
    let past = c.first_past-fresh.ensures in
    record {
      records = _;
      same = counted-past i m framed refl f (omega arith) past c.if-held-k.true;
      remembered = remembers-more i m framed refl f (omega arith) past;
    }

pub returns-in-Err-clause-counts : goal.returns-in-Err-clause-counts
unfolding counted_as
returns-in-Err-clause-counts c =
    let i = here-entered c.args.listing.now.indexed.now.walking c.loop-g.invariant.entering c.loop-g-test.true c.enter.array_long c.enter.ensures.spot c.from-at.ensures c.enter.ensures.low in
    let m = remembers-fits c.loop-g.invariant.remembered refl (omega (arith, c.loop-g.invariant.kept)) c.slots_kept-before.ensures.value in
    let framed = c.args.listing.now.indexed.now.tray.frame.at.frame in
    let f = gathers-lost c.gather-gathered.ensures c.in-Err.is in
    let past = c.first_past-fresh.ensures in
    record {
      records = _;
      same = counted-lost i m framed refl f.0 (omega arith) past c.if-held-k.false f.1.0 refl f.1.1;
      remembered = remembers-more i m framed refl f.0 (omega arith) past;
    }

pub loop-g-preserved : goal.loop-g-preserved
unfolding spot_of
loop-g-preserved c =
    let i = here-entered c.args.listing.now.indexed.now.walking c.loop-g.invariant.entering c.loop-g-test.true c.enter.array_long c.enter.ensures.spot c.from-at.ensures c.enter.ensures.low in
    let m = remembers-fits c.loop-g.invariant.remembered refl (omega (arith, c.loop-g.invariant.kept)) c.slots_kept-before.ensures.value in
    let framed = c.args.listing.now.indexed.now.tray.frame.at.frame in
    let f = gathers-all c.gather-gathered.ensures c.in_default.is in
    let past = c.first_past-fresh.ensures in
    let byte : c.args.listing.now.indexed.now.index.size ≤ 255 = c.args.listing.now.indexed.now.index.byte in
    let few = counted-few i m framed refl f (omega arith) past (omega arith) c.loop-g.invariant.few in
    record {
      records = _;
      kept = c.gather-gathered.auto.ats ∙ c.loop-g.invariant.kept;
      entering = here-left c.args.listing.now.indexed.now.walking (counted-on i m framed refl f (omega arith) past c.if-held-k.false (omega arith)) (omega arith) c.loop-g.invariant.entering.since;
      few = few;
      low = omega arith;
      remembered = remembers-more i m framed refl f (omega arith) past;
    }

pub returns-clause-counts : goal.returns-clause-counts
unfolding counted_as
returns-clause-counts c =
    let i = c.loop-g.invariant in
    record { records = i.records; same = here-over c.args.listing.now.indexed.now.walking i.entering c.loop-g-test.false; remembered = i.remembered }

pub returns-clause-count_bound : goal.returns-clause-count_bound
returns-clause-count_bound c = c.loop-g.invariant.low
