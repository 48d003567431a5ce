-- The next key of each run, as it is kept beside the places: what a merge of all runs reads. Which run comes next: `Leads`.
pub mod Laws
pub mod Leads
use Rattle.std.specs.Prelude.{ℕ, ◌≤◌, ◌<◌, ◌≡◌, cond, List, length, get_or, ltb}
use Rattle.tray.specs.Frame.{run_count, count_of, run_bytes}
use Rattle.tray.specs.Run.{record_at}
use Rattle.index.specs.Scan.Code.{Reading}

-- the highest number of 8 bytes: what is kept of a run that has been read to its end
abbrev pub highest : ℕ
highest = 18446744073709551615

-- the key at a place of a run of n records
unfoldable pub key_or : List ℕ → ℕ → ℕ → ℕ
key_or run n p = cond (ltb p n) (record_at run p).key highest

-- the next key of a run
unfoldable pub next_key : List ℕ → List ℕ → ℕ → ℕ
next_key t places r = key_or (run_bytes t r) (count_of t r) (get_or places r 0)

-- numbers of h runs in room for 64, the highest one past them
pub record Padded (keys : List ℕ) (h : ℕ) : Type 0 where
  pub few : h ≤ 63
  pub room : length keys ≡ 64
  pub past : (i : ℕ) → h ≤ i → i < 64 → get_or keys i 0 ≡ highest

-- the runs from h on have been read to their ends
pub record Ended (t places : List ℕ) (h : ℕ) : Type 0 where
  pub most : h ≤ run_count t
  pub ended : (r : ℕ) → h ≤ r → r < run_count t → count_of t r ≤ get_or places r 0

-- the runs, how far they have been read, and the next key of each
pub record Caching (t counts starts places keys : List ℕ) : Type 0 where
  pub reading : Reading t counts starts places
  pub padded : Padded keys (run_count t)
  pub keys-are : (r : ℕ) → r < run_count t → get_or keys r 0 ≡ next_key t places r
