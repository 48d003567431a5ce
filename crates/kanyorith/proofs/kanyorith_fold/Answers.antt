use Rattle.kanyorith.specs.Code.{fold-answered}
use Rattle.kanyorith.proofs.kanyorith_fold.Goals as goal

pub returns : goal.returns
returns c =
    fold-answered _ _ _ _ c.narrow.ensures c.narrow-2.ensures c.fold-folded.ensures.value c.fold-folded.ensures.out_after c.count_own.ensures
