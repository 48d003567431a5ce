-- The places, and then the first three numbers.
use Rattle.theorems.specs.Cursors.Laws.{put_all}
use Rattle.kanyorith.proofs.cursor.put_cursor.Goals as goal

pub returns : goal.returns
returns c = put_all c.args.from.now c.put_places.new.numbers c.put_places.ensures.long c.put_places.ensures.put c.from.ensures
