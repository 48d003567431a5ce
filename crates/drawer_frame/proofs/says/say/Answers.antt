-- `drawer_frame::says::say` meets its contract: the digits of the head and of what comes with it, and a line feed.
use Rattle.std.proofs.Common.{◌∙◌, ◌++◌, ◌∷◌, [], ap, arith}
use Rattle.number.specs.Big.{bytes_of}
use Rattle.number.proofs.Big.Laws.{length-bytes_of}
use Rattle.hexadecimal.specs.Hex.{hex_of}
use Rattle.hexadecimal.specs.Hex.Laws.{length-hex_of}
use Rattle.drawer_spec.specs.Filled.{filled, grown}
use Rattle.drawer_spec.specs.Line.Code.{said-line}
use Rattle.drawer_frame.proofs.says.say.Goals as goal

pub put_digits-requires : goal.put_digits-requires
put_digits-requires g c =
    omega (
      arith,
      c.requires,
      grown c.args.out.now c.put_answer_head.new.out _ c.put_answer_head.ensures,
      length-hex_of (c.args.code ∷ c.args.number ∷ bytes_of 4 c.args.figure),
      length-bytes_of 4 c.args.figure,
    )

pub push-requires : goal.push-requires
push-requires g c = (
  omega arith,
  omega (
    arith,
    c.requires,
    grown c.args.out.now c.put_answer_head.new.out _ c.put_answer_head.ensures,
    length-hex_of (c.args.code ∷ c.args.number ∷ bytes_of 4 c.args.figure),
    length-bytes_of 4 c.args.figure,
    grown c.put_answer_head.new.out c.put_digits.new.out _ c.put_digits.ensures,
    length-hex_of c.args.more.now,
  ),
)

pub returns : goal.returns
returns g c =
    c.push.ensures
    ∙ ap (λ l. l ++ (10 ∷ [])) (c.put_digits.ensures ∙ ap (λ l. l ++ hex_of c.args.more.now) c.put_answer_head.ensures)
    ∙ said-line (filled c.args.out.now) (c.args.code ∷ c.args.number ∷ bytes_of 4 c.args.figure) c.args.more.now
