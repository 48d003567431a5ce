-- `drawer_frame::says::put_answer_head` meets its contract: the six bytes of the head are spelt.
use Rattle.std.proofs.Common.{◌∙◌, ◌++◌, ap}
use Rattle.hexadecimal.specs.Hex.{hex_of}
use Rattle.drawer_spec.specs.Filled.{filled}
use Rattle.drawer_spec.specs.Line.Code.{head-is}
use Rattle.drawer_frame.proofs.says.put_answer_head.Goals as goal

pub returns : goal.returns
returns g c = c.put_digits.ensures ∙ ap (λ bytes. filled c.args.out.now ++ hex_of bytes) (head-is c.args.code c.args.number c.args.figure c.write.ensures)
