use Rattle.std.proofs.Common.{◌∙◌, ltb, refl}
use Rattle.theory.specs.Tests.{cases}
use Rattle.walk.specs.Reads.{unmarked}
use Rattle.list.proofs.stops.is_unmarked.Goals as goal

pub returns : goal.returns
unfolding unmarked
returns c = c.from.ensures ∙ cases (ltb c.args.v 64) (λ y. rw y refl) (λ n. rw n refl)
