-- Gathered records written one after another.
pub mod Laws
pub mod Code
use Rattle.std.specs.Prelude.{ℕ, ◌+◌, ◌*◌, List, [], ◌∷◌}
use Rattle.number.specs.Big.{put}
use Rattle.tray.specs.Run.{record_from}
use Rattle.walk.specs.Reads.{listed_bytes}

-- the output with the records that start at these bytes of the tray written, one after another, after so many that are
unfoldable pub put_all : List ℕ → List ℕ → ℕ → List ℕ → List ℕ
put_all t [] count out = out
put_all t (a ∷ bs) count out = put_all t bs (count + 1) (put out (24 * count) (listed_bytes (record_from t a)))
