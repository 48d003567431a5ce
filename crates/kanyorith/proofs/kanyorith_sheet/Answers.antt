use Rattle.kanyorith.specs.Code.{sheet-answered}
use Rattle.kanyorith.proofs.kanyorith_sheet.Goals as goal

pub returns : goal.returns
returns c = sheet-answered _ _ _ _ c.sheet.ensures.value c.sheet.ensures.out_after c.count.ensures
