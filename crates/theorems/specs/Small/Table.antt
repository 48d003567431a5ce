-- The small trays (docs/RULES.md, "Small trays to prove"), proved: one statement over all rows, by computation. The output of build and fold is compared whole, so that
-- what stands after what they write is seen to be untouched.
use Rattle.std.specs.Prelude.{◌≡◌, refl, List, [], ◌∷◌, ◌++◌, map, length, drop}
use Rattle.theory.specs.Pack.{joined}
use Rattle.tray.specs.Meaning.{total, tray_bytes}
use Rattle.theorems.specs.Small.Rows.{accepted, Result, builds, build-refused, judges, seek-ends, get_absent, folds, Row, table}
use Rattle.theorems.specs.Small.Calls.{Given, gives, room, bytes_of_index, checks, judged, built, sought, gotten, folded}

-- the calls that a result speaks of
pub asked : Row → Result → List Given
unfolding built judged sought gotten folded
asked r (builds ss) = built r.runs r.size ∷ judged r.runs r.size ss ∷ []
asked r (build-refused v) = built r.runs r.size ∷ []
asked r (judges ss v) = judged r.runs r.size ss ∷ []
asked r (seek-ends ss key) = sought r.runs r.size ss key ∷ []
asked r (get_absent ss key) = gotten r.runs r.size ss key ∷ []
asked r (folds a b runs) = folded r.runs a b ∷ []

-- and what it says of them
pub said : Row → Result → List Given
unfolding checks bytes_of_index
said r (builds ss) =
    let x = bytes_of_index (length r.runs) r.size ss in
    record { answer = accepted (length x); output = x ++ drop (length x) room } ∷ gives (accepted (length ss)) ∷ []
said r (build-refused v) = record { answer = v; output = room } ∷ []
said r (judges ss v) = gives v ∷ []
said r (seek-ends ss key) = gives (accepted 0) ∷ []
said r (get_absent ss key) = gives (accepted 0) ∷ []
said r (folds a b runs) =
    let x = tray_bytes runs in record { answer = accepted (length x); output = x ++ drop (length x) room } ∷ []

-- what the calls give for a row, check tray first
pub found : Row → List Given
unfolding checks asked joined
found r = checks r.runs ∷ joined (map (asked r) r.results)

-- what the row says: its tray is sound, and its results
pub expected : Row → List Given
unfolding said joined total
expected r = gives (accepted (total r.runs)) ∷ joined (map (said r) r.results)

-- every row holds
pub small-trays : map found table ≡ map expected table
unfolding found expected
small-trays = refl
