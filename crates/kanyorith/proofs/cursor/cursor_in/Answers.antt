use Rattle.std.proofs.Common.{ap, ◌∙◌}
use Rattle.theorems.specs.Wide.{narrowed}
use Rattle.theorems.specs.Cursors.Laws.{cursor-in}
use Rattle.kanyorith.proofs.cursor.cursor_in.Goals as goal

pub returns : goal.returns
returns c = cursor-in c.told-numbers c.from.ensures c.from-2.ensures (c.narrow.ensures ∙ ap narrowed c.from-3.ensures) c.places_in.ensures
