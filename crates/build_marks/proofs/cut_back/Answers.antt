-- `build_marks::cut_back` meets its contract: the selectors are given back one by one.
use Rattle.std.proofs.Common.{refl}
use Rattle.build_marks.specs.Code.Records.{backing-on, backing-stop, backing-end}
use Rattle.build_marks.proofs.cut_back.Goals as goal

pub returns-then-v-lt128-clause-places_after : goal.returns-then-v-lt128-clause-places_after
returns-then-v-lt128-clause-places_after c =
    backing-stop c.loop-i.invariant c.loop-i-test.true refl refl c.from-r.ensures c.saturating_sub.ensures c.if-v-lt128.true

pub loop-i-preserved : goal.loop-i-preserved
loop-i-preserved c = backing-on c.loop-i.invariant c.loop-i-test.true refl refl c.from-r.ensures c.saturating_sub.ensures c.if-v-lt128.false

pub returns-clause-places_after : goal.returns-clause-places_after
returns-clause-places_after c = backing-end c.loop-i.invariant c.loop-i-test.false
