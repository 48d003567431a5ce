-- What a listing walks, by what it is lent.
use Rattle.std.specs.Prelude.{ℕ, List, []}
use Rattle.theory.specs.Records.{Record}
use Rattle.walk.specs.Walk.{Spot, Walked, walk_from}
use Rattle.walk.specs.Reads.{Written, page_visit, sheet_visit}
use Rattle.walk.specs.Code.{spot_of}
use Rattle.list.specs.declared.Listing.{Listing}
use Rattle.list.specs.Steps.{entry_at}

-- where it enters segment g
abbrev pub entry_of : Listing → ℕ → Spot
entry_of l g = entry_at l.indexed.now.index.runs l.indexed.now.index.bytes.now l.indexed.now.index.size (spot_of l.from.now) g

-- the page from a spot on, where some records are written already
abbrev pub page_of : Listing → Spot → Written → Walked Written (Written × Spot)
page_of l c w = walk_from l.indexed.now.tray.bytes.now l.indexed.now.index.bytes.now (page_visit l.indexed.now.tray.bytes.now) c w

-- the sheet below an upper bound
abbrev pub sheet_of : Listing → ℕ → Walked (List Record) (List Record)
sheet_of l high = walk_from l.indexed.now.tray.bytes.now l.indexed.now.index.bytes.now (sheet_visit l.indexed.now.tray.bytes.now high) (spot_of l.from.now) []
