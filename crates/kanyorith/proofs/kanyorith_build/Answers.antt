use Rattle.kanyorith.specs.Code.{build-answered}
use Rattle.kanyorith.proofs.kanyorith_build.Goals as goal

pub returns : goal.returns
returns c = build-answered _ _ _ c.narrow.ensures c.build.ensures.value c.build.ensures.out_after c.count_own.ensures
