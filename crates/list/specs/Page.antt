-- A page as the code hands it over.
pub mod Code
use Rattle.std.specs.Prelude.{ℕ, List, Option, Some, None, Result, Ok, Err}
use Rattle.walk.specs.Walk.{Spot, Walked, stayed, ended, lost}
use Rattle.walk.specs.Reads.{Written}
use Rattle.walk.specs.Code.{spot_of}
use Rattle.walk.specs.declared.cursor.Cursor.{Cursor}
use Rattle.walk.specs.declared.cursor.Lost.{Lost}
use Rattle.list.specs.declared.points.PageEnd.{PageEnd}

-- so many records are written, and the output
abbrev pub so_far : ℕ → List ℕ → Written
so_far count out = record { count = count; out = out }

-- nothing is written yet
unfoldable pub begun : List ℕ → Written
begun out = record { count = 0; out = out }

-- what a page's end says, with what it left in the output
unfoldable pub paged_as : Result (Option Cursor) Lost → Written → Walked Written (Written × Spot)
paged_as (Ok (Some c)) w = stayed (w, spot_of c)
paged_as (Ok None) w = ended w
paged_as (Err l) w = lost l.segment l.selector w

unfoldable pub paged_of : PageEnd → List ℕ → Walked Written (Written × Spot)
paged_of r out = paged_as r.stop (so_far r.count out)
