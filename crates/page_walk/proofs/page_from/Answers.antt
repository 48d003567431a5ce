-- Both ways are the same page.
use Rattle.std.proofs.Common.{refl, ◌∙◌}
use Rattle.walk.specs.Code.{spot_of}
use Rattle.list.specs.Page.{begun}
use Rattle.list.specs.Steps.{entering-first}
use Rattle.page_walk.proofs.page_from.Goals as goal

pub returns-then-size-out : goal.returns-then-size-out
unfolding begun
returns-then-size-out c = c.page_segments.ensures

pub returns : goal.returns
unfolding begun spot_of
returns c = c.page_on.ensures ∙ (entering-first _ _ _ _ _ _ _ refl).same
