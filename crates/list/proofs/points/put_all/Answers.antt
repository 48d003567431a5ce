-- Invariant: the first `i` records are written.
use Rattle.std.proofs.Common.{refl}
use Rattle.list.specs.Put.Code.{putting-first, putting-more}
use Rattle.list.proofs.points.put_all.Goals as goal

pub loop-i-init : goal.loop-i-init
loop-i-init c = putting-first _ _ _ _

pub loop-i-preserved : goal.loop-i-preserved
loop-i-preserved c = putting-more c.loop-i.invariant c.loop-i-test.true c.requires.room refl refl c.write_from.ensures
