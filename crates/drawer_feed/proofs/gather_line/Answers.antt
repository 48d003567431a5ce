-- `drawer_feed::gather_line` meets its contract: the part is put behind the characters, as far as there is room.
use Rattle.std.proofs.Common.{◌∙◌, arith}
use Rattle.drawer_spec.specs.Feed.Code.{gathered}
use Rattle.drawer_feed.proofs.gather_line.Goals as goal

pub returns : goal.returns
returns c = c.push_slice.ensures ∙ gathered c.args.line.now c.args.part.now (omega arith)
