use Rattle.walk.specs.Code.{spot_of}
use Rattle.list.specs.Listing.{sheet_of}
use Rattle.sheet_count.specs.Count.Code.{Counting}
use Rattle.sheet_count.proofs.count_from.Given as goal

abbrev pub invariant-loop-g : goal.invariant-loop-g
invariant-loop-g l = Counting l.indexed.tray.bytes.now l.index.bytes.now l.high l.index.runs l.index.size l.index.segments (sheet_of l.listing l.high)
    (spot_of l.listing.from.now) l.fn.ats l.g l.count l.held l.ats
