-- Cursors, seek, get, next, page and sheet (docs/RULES.md, "Reading through an index"), each a walk with its visitor, for a tray and an index whose
-- frames fit. In a walk the marks alone decide what is visible, not the records. Next and page's counts and cursors read counts, index bytes and
-- the cursor only.
pub mod Sheet
pub mod Pages
pub mod Page
pub mod Kept
pub mod Shown
pub mod Seek
pub mod From
pub mod Standing
pub mod Next
pub mod Selectors
pub mod Belongs
pub mod Handed
use Rattle.std.specs.Prelude.{ℕ, zero, suc, ◌+◌, ◌-◌, ◌*◌, ◌^◌, Bool, true, cond, ◌&&◌, ◌||◌, List, [], ◌∷◌, ◌++◌, length, get_or, replicate, eqb, leb, ltb}
use Rattle.number.specs.Big.{be, bytes_of, put}
use Rattle.theory.specs.Records.{Record}
use Rattle.theory.specs.Listed.{listed}
use Rattle.tray.specs.Frame.{run_count, run_bytes}
use Rattle.tray.specs.Run.{record_at}
use Rattle.index.specs.Layout.{size_of, segment_count, segment_at, offset_from}
use Rattle.index.specs.Scan.{run_in}
use Rattle.index.specs.Scan.Code.{same_to}
use Rattle.walk.specs.Start.{start}
use Rattle.walk.specs.Walk.{Spot, Visit, stay, go, Walked, stayed, ended, lost, selector_at, walk_segments, walk_from}

-- the record that a selector names
unfoldable pub record_by : List ℕ → ℕ → Spot → Record
record_by t v c = record_at (run_bytes t (run_in v)) (get_or c.places (run_in v) 0)

-- a selector with neither mark
unfoldable pub unmarked : ℕ → Bool
unmarked v = ltb v 64

-- the cursor of the end
unfoldable pub end_spot : List ℕ → Spot
end_spot x = record { segment = segment_count x; selector = 0; places = replicate 63 0 }

-- how many of the first s selectors of segment g name run r, marks aside
unfoldable pub selectors_of : ℕ → List ℕ → ℕ → ℕ → ℕ → ℕ
selectors_of h x g r zero = 0
selectors_of h x g r (suc s) = selectors_of h x g r s + cond (eqb (run_in (selector_at h x g s)) r) 1 0

-- the places that a cursor at a selector must have: the offset plus that run's selectors earlier in the segment; 0 for runs from H on
unfoldable pub places_at : ℕ → List ℕ → ℕ → ℕ → List ℕ
places_at h x g s = listed 63 0 (λ r. cond (ltb r h) (offset_from x (segment_at h (size_of x) g) r + selectors_of h x g r s) 0)

-- the two lists are the same, place by place
unfoldable pub same_places : List ℕ → List ℕ → Bool
same_places ps qs = same_to ps qs 63

-- a cursor belongs when it is the end, or when segment < S, selector < D, and each place is as it must be
unfoldable pub belongs : ℕ → List ℕ → Spot → Bool
belongs h x c =
    (eqb c.segment (segment_count x) && (eqb c.selector 0 && same_places c.places (replicate 63 0)))
    || (ltb c.segment (segment_count x) && (ltb c.selector (size_of x) && same_places c.places (places_at h x c.segment c.selector)))

-- a record found, with the cursor that stands at it
pub record Found : Type 0 where
  pub run : ℕ
  pub place : ℕ
  pub spot : Spot

-- the record that a selector names, as found
unfoldable pub found_by : ℕ → Spot → Found
found_by v c = record { run = run_in v; place = get_or c.places (run_in v) 0; spot = c }

-- seek: the walk stays at the first unmarked selector whose record is at or above the key
unfoldable pub seek_visit : List ℕ → ℕ → ℕ → Spot → ℕ → Visit ℕ Found
seek_visit t key v c st = cond (unmarked v && leb key (record_by t v c).key) (stay (found_by v c)) (go st)

-- (the state of a walk that carries nothing is 0)
unfoldable pub seek : List ℕ → List ℕ → ℕ → Walked ℕ Found
seek t x key = walk_segments t x (seek_visit t key) (segment_count x - start (run_count t) x key) (start (run_count t) x key) 0

-- get: the value where seek found the very key, and absent otherwise
pub data Got : Type 0 where
  value : ℕ → Got
  absent : Got
  get-lost : ℕ → ℕ → Got

unfoldable pub got_from : List ℕ → ℕ → Walked ℕ Found → Got
got_from t key (stayed f) = let e = record_at (run_bytes t f.run) f.place in cond (eqb e.key key) (value e.value) absent
got_from t key (ended st) = absent
got_from t key (lost g s st) = get-lost g s

unfoldable pub get : List ℕ → List ℕ → ℕ → Got
get t x key = got_from t key (seek t x key)

-- next passes the current selector, and stays at the first unmarked one after it
unfoldable pub next_visit : Spot → ℕ → Spot → ℕ → Visit ℕ Found
next_visit from v c st =
    cond (unmarked v && cond (eqb c.segment from.segment) (ltb from.selector c.selector) true) (stay (found_by v c)) (go st)

unfoldable pub next : List ℕ → List ℕ → Spot → Walked ℕ Found
next t x c = walk_from t x (next_visit c) c 0

-- what a listing has written so far: how many records, and the output
pub record Written : Type 0 where
  pub count : ℕ
  pub out : List ℕ

-- the 24 bytes of a record in a listing: key and value
unfoldable pub listed_bytes : Record → List ℕ
listed_bytes e = bytes_of 8 e.key ++ bytes_of 16 e.value

-- one record more
unfoldable pub write : Record → Written → Written
write e w = record { count = w.count + 1; out = put w.out (24 * w.count) (listed_bytes e) }

-- page writes the unmarked records while 24 bytes remain, and stays at the first one that it cannot write
unfoldable pub page_visit : List ℕ → ℕ → Spot → Written → Visit Written (Written × Spot)
page_visit t v c w =
    cond (unmarked v) (cond (leb (24 * w.count + 24) (length w.out)) (go (write (record_by t v c) w)) (stay (w, c))) (go w)

unfoldable pub page : List ℕ → List ℕ → Spot → List ℕ → Walked Written (Written × Spot)
page t x c out = walk_from t x (page_visit t) c (record { count = 0; out = out })

-- a sheet's bounds: the prefix filled with zeros, and the prefix with its last byte raised by one, filled with zeros
unfoldable pub low_key : List ℕ → ℕ
low_key prefix = be 8 (prefix ++ replicate (8 - length prefix) 0) 0

unfoldable pub high_key : List ℕ → ℕ
high_key prefix = low_key prefix + 256 ^ (8 - length prefix)

-- sheet lists each unmarked record from the one found, until the first key at or above the bound
unfoldable pub sheet_visit : List ℕ → ℕ → ℕ → Spot → List Record → Visit (List Record) (List Record)
sheet_visit t high v c es = let e = record_by t v c in cond (unmarked v) (cond (leb high e.key) (stay es) (go (es ++ (e ∷ [])))) (go es)

-- the records of a sheet, or where the walk is lost
unfoldable pub sheet_from : List ℕ → List ℕ → ℕ → Walked ℕ Found → Walked (List Record) (List Record)
sheet_from t x high (stayed f) = walk_from t x (sheet_visit t high) f.spot []
sheet_from t x high (ended st) = ended []
sheet_from t x high (lost g s st) = lost g s []

unfoldable pub sheet : List ℕ → List ℕ → List ℕ → Walked (List Record) (List Record)
sheet t x prefix = sheet_from t x (high_key prefix) (seek t x (low_key prefix))
