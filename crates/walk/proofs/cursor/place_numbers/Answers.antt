use Rattle.std.proofs.Common.{rules}
use Rattle.walk.specs.Code.Numbers.{copy_more, copy-end}
use Rattle.walk.proofs.cursor.place_numbers.Goals as goal

pub loop-i-preserved : goal.loop-i-preserved
loop-i-preserved c = copy_more c.loop-i.invariant c.loop-i-test.true

pub returns : goal.returns
returns c = copy-end c.loop-i.invariant c.loop-i-test.false (search rules)
