use Rattle.theorems.specs.Told.{count_told}
use Rattle.kanyorith.proofs.told.count.Goals as goal

pub returns-in-Ok : goal.returns-in-Ok
unfolding count_told
returns-in-Ok c = rw c.in-Ok.is

pub returns-in-Err : goal.returns-in-Err
unfolding count_told
returns-in-Err c = rw c.in-Err.is c.refuse.ensures
