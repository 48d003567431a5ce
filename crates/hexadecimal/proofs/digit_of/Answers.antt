-- `hexadecimal::digit_of` meets its contract: a rule of every digit.
use Rattle.hexadecimal.specs.Hex.Laws.{digit_of-is, digit_of-low}
use native.Mathlib.Omega.{arith}
use Rattle.hexadecimal.proofs.digit_of.Goals as goal

pub returns : goal.returns
returns c = record { value = digit_of-is c.args.c c.requires; upper_bound = omega (arith, digit_of-is c.args.c c.requires, digit_of-low c.args.c c.requires) }
