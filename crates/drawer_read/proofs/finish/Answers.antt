-- `drawer_read::finish` meets its contract: where nothing is gathered no line is left.
use Rattle.drawer_spec.proofs.Finishes.{finishes-none, finishes-line}
use Rattle.drawer_read.proofs.finish.Goals as goal

pub returns-then-carried-ne0 : goal.returns-then-carried-ne0
returns-then-carried-ne0 c = finishes-line c.args.carried.now c.if-carried-ne0.true c.as_slice.ensures c.answer.ensures

pub returns-else-carried-ne0 : goal.returns-else-carried-ne0
returns-else-carried-ne0 c = finishes-none c.args.carried.now c.if-carried-ne0.false
