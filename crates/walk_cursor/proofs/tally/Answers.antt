-- Invariant: the selectors before v are counted.
use Rattle.std.proofs.Common.{arith}
use Rattle.walk_cursor.specs.Standing.{tally-none, tally-low, tally-more}
use Rattle.walk_cursor.proofs.Part.{part-at}
use Rattle.walk_cursor.proofs.tally.Goals as goal

pub loop-v-init : goal.loop-v-init
loop-v-init c = tally-none _ _

pub overflow_add-seen : goal.overflow_add-seen
overflow_add-seen c = omega (arith, tally-low c.loop-v.invariant c.from-in-loop-v.result (omega arith))

pub loop-v-preserved : goal.loop-v-preserved
loop-v-preserved c = tally-more c.loop-v.invariant (part-at c.args.first _ c.args.x.now c.loop-v.v-index 0 c.loop-v-test.true) c.from-in-loop-v.ensures
