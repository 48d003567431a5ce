-- How many records sheet lists, as the code hands it over.
pub mod Code
use Rattle.std.specs.Prelude.{◌≡◌, ℕ, ◌≤◌, ◌<◌, Bool, true, false, List, map, length, get_or, take, Result, Ok, Err}
use Rattle.theory.specs.Records.{Record}
use Rattle.tray.specs.Run.{record_from}
use Rattle.walk.specs.declared.cursor.Lost.{Lost as LostAt}
use Rattle.walk.specs.Walk.{Walked, stayed, ended, lost}
use Rattle.list.specs.Stops.{Within}
use Rattle.sheet_count.specs.declared.Counted.{Counted}

-- of the records that start at these bytes of the tray, r stand before the first one whose key is at or above the bound
pub record Past (t ats : List ℕ) (high r : ℕ) : Type 0 where
  pub most : r ≤ length ats
  pub below : (i : ℕ) → i < r → (record_from t (get_or ats i 0)).key < high
  pub past : r < length ats → high ≤ (record_from t (get_or ats r 0)).key

-- So many records are counted, of which the last are remembered: where that is all of them, they are the records.
pub record Remembered (t : List ℕ) (records : List Record) (count held : ℕ) (ats : List ℕ) : Type 0 where
  pub many : length records ≡ count
  pub less : held ≤ count
  pub fits : held ≤ length ats
  pub within : Within t (take held ats)
  pub whole : held ≡ count → records ≡ map (record_from t) (take held ats)

-- what a count's end says, with the records that its walk passed
unfoldable pub counted_as : Result Bool LostAt → List Record → Walked (List Record) (List Record)
counted_as (Ok true) es = stayed es
counted_as (Ok false) es = ended es
counted_as (Err l) es = lost l.segment l.selector es

-- a count is that of a walk: it ended as the walk did, with as many records, of which the last are remembered
pub record Counts (t : List ℕ) (walk : Walked (List Record) (List Record)) (r : Counted) (ats : List ℕ) : Type 0 where
  pub records : List Record
  pub same : counted_as r.stop records ≡ walk
  pub remembered : Remembered t records r.count r.held ats
