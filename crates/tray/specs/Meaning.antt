-- The list of runs that a tray's bytes mean, and the bytes of a list of runs (docs/FORMAT.md, "The tray"). The laws: `Laws` on the runs,
-- `Write` and `Read` on the two round trips, `Back` on what fits.
pub mod Back
mod Cases
pub mod Laws
pub mod Read
pub mod Write
use Rattle.std.specs.Prelude.{ℕ, ◌+◌, ◌^◌, ◌≤◌, ◌<◌, List, [], ◌∷◌, ◌++◌, length}
use Rattle.number.specs.Big.{bytes_of}
use Rattle.theory.specs.Rising.{All}
use Rattle.theory.specs.Listed.{listed}
use Rattle.theory.specs.Records.{Record}
use Rattle.tray.specs.Frame.{run_count, count_of, run_bytes}
use Rattle.tray.specs.Run.{record_at}

-- the records of a run of n
unfoldable pub run_of : ℕ → List ℕ → List Record
run_of n run = listed n 0 (record_at run)

-- the runs of a tray, newest first
unfoldable pub runs_of : List ℕ → List (List Record)
runs_of t = listed (run_count t) 0 (λ r. run_of (count_of t r) (run_bytes t r))

-- the 25 bytes of a record
unfoldable pub record_bytes : Record → List ℕ
record_bytes e = bytes_of 8 e.key ++ (e.kind ∷ bytes_of 16 e.value)

-- the records of a run, back to back
unfoldable pub records_bytes : List Record → List ℕ
records_bytes [] = []
records_bytes (e ∷ es) = record_bytes e ++ records_bytes es

-- the counts, 2 bytes each
unfoldable pub counts_bytes : List (List Record) → List ℕ
counts_bytes [] = []
counts_bytes (r ∷ rs) = bytes_of 2 (length r) ++ counts_bytes rs

-- the runs, back to back
unfoldable pub runs_bytes : List (List Record) → List ℕ
runs_bytes [] = []
runs_bytes (r ∷ rs) = records_bytes r ++ runs_bytes rs

-- the bytes of a tray
unfoldable pub tray_bytes : List (List Record) → List ℕ
tray_bytes rs = (length rs ∷ 0 ∷ 0 ∷ 0 ∷ []) ++ (counts_bytes rs ++ runs_bytes rs)

-- how many records the runs have in all
unfoldable pub total : List (List Record) → ℕ
total [] = 0
total (r ∷ rs) = length r + total rs

-- a record whose numbers fit into their bytes: key 8, kind 1, value 16
pub record FitsRecord (e : Record) : Type 0 where
  pub key : e.key < 256 ^ 8
  pub kind : e.kind < 256
  pub value : e.value < 256 ^ 16

-- runs that fit into a tray: 1 to 63 of them, each of at most 4,096 records that fit
pub record Fits (rs : List (List Record)) : Type 0 where
  pub some-run : 1 ≤ length rs
  pub most-runs : length rs ≤ 63
  pub counts : All (λ r. length r ≤ 4096) rs
  pub records : All (λ r. All FitsRecord r) rs
