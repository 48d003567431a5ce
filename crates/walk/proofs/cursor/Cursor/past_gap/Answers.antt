-- `walk::cursor::Cursor::past_gap` meets its contract.
use Rattle.walk.specs.Code.Moves.{moved-gap}
use Rattle.walk.proofs.cursor.Cursor.past_gap.Goals as goal

pub returns : goal.returns
returns c = moved-gap _
