-- `walk::cursor::Cursor::past_record` meets its contract.
use Rattle.walk.specs.Code.Moves.{moved-record}
use Rattle.walk.proofs.cursor.Cursor.past_record.Goals as goal

pub returns : goal.returns
returns c =
    let usize-of-u8 = c.from-i in
    moved-record _ usize-of-u8.ensures
