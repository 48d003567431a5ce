-- `drawer_read::answer` meets its contract: a turn has been taken, and the line is counted.
use Rattle.std.proofs.Common.{refl}
use Rattle.drawer_spec.specs.Feed.Code.{answered}
use Rattle.drawer_read.proofs.answer.Goals as goal

pub returns : goal.returns
returns g c = answered c.args.line.now c.answer_line.ensures refl refl refl refl
