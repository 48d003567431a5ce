-- `drawer_feed::begin_input` meets its contract: nothing is filled, and lines count from 1.
use Rattle.std.proofs.Common.{refl}
use Rattle.drawer_spec.specs.Feed.Code.{first-begun}
use Rattle.drawer_feed.proofs.begin_input.Goals as goal

pub returns-clause-start : goal.returns-clause-start
returns-clause-start c = first-begun c.new.ensures c.new-2.ensures refl c.new-3.ensures c.new-4.ensures
