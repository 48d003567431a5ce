-- `drawer_line::put_bad` meets its contract: a head is all of a bad line's answer.
use Rattle.std.proofs.Common.{refl, ◌∙◌, [], ap}
use Rattle.drawer_spec.specs.Line.{answer}
use Rattle.drawer_spec.specs.Line.Code.{bad-is}
use Rattle.drawer_spec.specs.Turns.{said-only}
use Rattle.drawer_line.proofs.put_bad.Goals as goal

pub returns : goal.returns
unfolding answer
returns g c = said-only refl refl refl (ap (λ n. answer 127 13 n []) c.from.ensures ∙ bad-is c.args.drawer.now.number) c.say.ensures
