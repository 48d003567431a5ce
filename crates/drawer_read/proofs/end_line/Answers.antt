-- `drawer_read::end_line` meets its contract: the line is the part alone, or what was gathered and the part.
use Rattle.std.proofs.Common.{refl, ◌∙◌}
use Rattle.drawer_spec.specs.Feed.Code.{ends-whole, ends-gathered}
use Rattle.drawer_read.proofs.end_line.Goals as goal

pub returns-then-carried-eq0 : goal.returns-then-carried-eq0
returns-then-carried-eq0 c = ends-whole c.args.part.now c.if-carried-eq0.true c.answer.ensures refl

pub returns-else-carried-eq0 : goal.returns-else-carried-eq0
returns-else-carried-eq0 c = ends-gathered c.args.part.now (c.as_slice.ensures ∙ c.gather_line.ensures) c.answer-else-carried-eq0.ensures c.clear.ensures
