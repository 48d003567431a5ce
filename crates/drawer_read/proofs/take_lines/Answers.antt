-- `drawer_read::take_lines` meets its contract. Invariant: what is carried is what it was, fed with the piece up to a place. Measure: the bytes left.
use Rattle.std.proofs.Common.{refl}
use Rattle.theory.specs.Tests.{clash}
use Rattle.drawer_spec.specs.Feed.Code.{taking-none, taking-more, takes-rest, takes-full}
use Rattle.drawer_read.proofs.take_lines.Goals as goal

pub loop-rest-init : goal.loop-rest-init
loop-rest-init c = taking-none c.args.piece.now c.requires

pub returns-in_default : goal.returns-in_default
returns-in_default c = takes-rest c.loop-rest.invariant c.line_end.ensures c.in_default.is c.gather_line.ensures refl

pub loop-rest-preserved : goal.loop-rest-preserved
loop-rest-preserved c = taking-more c.loop-rest.invariant c.line_end.ensures c.in-Some.is c.end_line.ensures

pub returns : goal.returns
returns c = takes-full c.loop-rest.invariant (λ roomy. clash (c.has_room.ensures.1 roomy) c.loop-rest-test.false)
