-- `hexadecimal::digit` meets its contract: a rule of sixteen numbers.
use Rattle.hexadecimal.specs.Hex.Laws.{digit-is}
use Rattle.hexadecimal.proofs.digit.Goals as goal

pub returns : goal.returns
returns c = digit-is c.args.n c.requires
