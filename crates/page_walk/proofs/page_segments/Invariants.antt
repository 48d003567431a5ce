use Rattle.std.proofs.Common.{◌≤◌}
use Rattle.walk.specs.Reads.{page_visit}
use Rattle.walk.specs.Code.{spot_of}
use Rattle.list.specs.Page.{so_far}
use Rattle.list.specs.Steps.{Entering}
use Rattle.list.specs.Listing.{page_of}
use Rattle.page_walk.proofs.page_segments.Given as goal

abbrev pub invariant-loop-g : goal.invariant-loop-g
invariant-loop-g l = record {
  entering : Entering l.indexed.tray.bytes.now l.indexed.index.bytes.now (page_visit l.indexed.tray.bytes.now) l.indexed.index.runs l.indexed.index.size
      (page_of l.listing (spot_of l.listing.from.now) (so_far 0 l.fn.out)) (spot_of l.listing.from.now) l.g (so_far l.count l.out);
  fits : l.count ≤ l.room;
}
