-- `drawer_frame::says::refuse` meets its contract: the head with number and figure of the refusal, and nothing after it.
use Rattle.std.proofs.Common.{◌∙◌, ◌++◌, ◌∷◌, ap, append-nil}
use Rattle.number.specs.Big.{bytes_of}
use Rattle.refusal.specs.declared.Verdict.{Verdict}
use Rattle.drawer_spec.specs.Filled.{filled}
use Rattle.drawer_spec.specs.Line.{answer_line}
use Rattle.drawer_frame.proofs.says.refuse.Goals as goal

pub returns : goal.returns
returns g c =
    (rw append-nil at c.say.ensures)
    ∙ ap (λ (v : Verdict). filled c.args.out.now ++ answer_line (c.args.code ∷ v.number ∷ bytes_of 4 v.figure))
    c.from-v.ensures
