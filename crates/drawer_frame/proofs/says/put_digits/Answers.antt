-- `drawer_frame::says::put_digits` meets its contract: the digits stand behind what the output held.
use Rattle.std.proofs.Common.{◌∙◌, ap, arith, take}
use Rattle.number.proofs.Big.Writes.{take_put}
use Rattle.hexadecimal.specs.Hex.{hex_of}
use Rattle.hexadecimal.specs.Hex.Laws.{length-hex_of}
use Rattle.drawer_frame.proofs.says.put_digits.Goals as goal

pub returns : goal.returns
returns g c =
    ap (take _) c.encode.ensures
    ∙ (rw length-hex_of at (take_put c.args.out.now.bytes c.args.out.now.used (hex_of c.args.bytes.now) (omega arith)))
