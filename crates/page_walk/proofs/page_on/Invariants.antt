use Rattle.walk.specs.Reads.{page_visit}
use Rattle.walk.specs.Code.{spot_of}
use Rattle.walk.specs.Code.Turns.{Here}
use Rattle.list.specs.Page.{so_far}
use Rattle.list.specs.Steps.{Entering}
use Rattle.list.specs.Listing.{entry_of, page_of}
use Rattle.page_walk.proofs.page_on.Given as goal

abbrev pub invariant-loop-s : goal.invariant-loop-s
invariant-loop-s l = Here l.tray.bytes.now l.index.bytes.now (page_visit l.tray.bytes.now) l.index.size l.index.segments
    (page_of l.listing (entry_of l.listing l.fn.start.0) (so_far l.wrote l.fn.out)) l.g l.s l.places (so_far l.count l.out)

abbrev pub invariant-loop-g : goal.invariant-loop-g
invariant-loop-g l = Entering l.tray.bytes.now l.index.bytes.now (page_visit l.tray.bytes.now) l.index.runs l.index.size
    (page_of l.listing (entry_of l.listing l.fn.start.0) (so_far l.wrote l.fn.out)) (spot_of l.listing.from.now) l.g (so_far l.count l.out)
