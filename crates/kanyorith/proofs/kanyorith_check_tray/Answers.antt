use Rattle.kanyorith.specs.Code.{tray-told}
use Rattle.kanyorith.proofs.kanyorith_check_tray.Goals as goal

pub returns : goal.returns
returns c = tray-told c.check_tray.ensures c.count.ensures
