use Rattle.kanyorith.specs.Code.{index-told}
use Rattle.kanyorith.proofs.kanyorith_check_index.Goals as goal

pub returns : goal.returns
returns c = index-told c.check_index.ensures c.count.ensures
