-- What the program says, for whole inputs, each by computation.
use Rattle.std.specs.Prelude.{◌≡◌, refl}
use Rattle.hexadecimal.specs.Hex.{hex_of, digit}
use Rattle.drawer_spec.specs.Line.{answer_line}
use Rattle.drawer_spec.specs.Cases.{chars, taken}
use Rattle.drawer_spec.specs.Feed.{begun, ended, more, fed, feed, finished, output}

-- the sound input of docs/DRAWER.md, "The program `drawer`", whole
pub sample : output (chars "0102000000000100020000000000070001000000032000000190000000010000000200000000000700010000000064000000320000000100000002000000000007000200000000650000003200000000ffffffff\n0204\n030000000000070001\n030000000000070003\n04000000000007\n0400ff\n") ≡ chars "810000000003\n82000000001802040000000000010000000000070001000000000081013f\n83000000000100000320000001900000000100000002\n830000000000\n8400000000020000000000070001000003200000019000000001000000020000000000070002000000650000003200000000ffffffff\n840900000002\n"
unfolding taken answer_line hex_of digit output finished feed fed ended more begun
sample = refl

-- a carriage return does not end a line, an empty line is one, and so is a last one without a line feed; lines count from 1
pub bad-lines : output (chars "\r\n\n0") ≡ chars "ff0d00000001\nff0d00000002\nff0d00000003\n"
unfolding taken answer_line hex_of digit output finished feed fed ended more begun
bad-lines = refl
