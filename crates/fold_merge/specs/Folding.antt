-- The merge of a tray's runs a to b (docs/RULES.md, "Folding"), as the code takes it: how far each run has been read, the merge of what is left, and
-- the records that are noted. The laws stand below.
pub mod Bound
pub mod Keeping
pub mod Left
pub mod Moves
pub mod Start
pub mod Step
use Rattle.std.specs.Prelude.{ℕ, zero, suc, ◌+◌, ◌-◌, ◌*◌, ◌≤◌, ◌<◌, ◌≡◌, cond, List, map, length, get_or, take, drop, set, eqb, ltb, leb}
use Rattle.theory.specs.Rising.{All, keep}
use Rattle.theory.specs.Records.{Record}
use Rattle.theory.specs.Hiding.{same_key}
use Rattle.theory.specs.Listed.{listed}
use Rattle.theory.specs.Merge.{merged}
use Rattle.number.specs.Big.{Bytes}
use Rattle.tray.specs.declared.Tray.{Tray}
use Rattle.tray.specs.Frame.{run_count, count_of, start_of}
use Rattle.tray.specs.Run.{record_from}
use Rattle.tray.specs.Check.{Sound}
use Rattle.tray.specs.Meaning.Laws.{run_in}
use Rattle.index.specs.Rules.{key_of}

-- the part of a list from place x up to place y
abbrev pub between : ℕ → ℕ → List ℕ → List ℕ
between x y s = take (y - x) (drop x s)

-- the runs a to b of a tray made one
unfoldable pub merged_run : ℕ → ℕ → List (List Record) → List Record
merged_run a b t = merged key_of (same_key key_of) (take (suc b - a) (drop a t))

-- what is left of run r
unfoldable pub left_of : List ℕ → List ℕ → ℕ → List Record
left_of t places r = drop (get_or places r 0) (run_in t r)

-- what is left of all runs, made one
unfoldable pub merge_left : List ℕ → List ℕ → List Record
merge_left t places = merged key_of (same_key key_of) (listed (run_count t) 0 (left_of t places))

-- the records of a list from key m on
unfoldable pub from_key : ℕ → List Record → List Record
from_key m xs = keep (λ e. leb m (key_of e)) xs

-- what is left of all runs from key m on, made one
unfoldable pub merge_from : List ℕ → ℕ → List ℕ → List Record
merge_from t m places = merged key_of (same_key key_of) (listed (run_count t) 0 (λ r. from_key m (left_of t places r)))

-- the lowest new key after n records of which the last has key `last`
unfoldable pub new_from : ℕ → ℕ → ℕ
new_from n last = cond (eqb n 0) 0 (suc last)

-- how many records the first n runs have left
unfoldable pub left_to : List ℕ → List ℕ → ℕ → ℕ
left_to t places zero = 0
left_to t places (suc r) = left_to t places r + (count_of t r - get_or places r 0)

-- where the next record of run r stands in the tray
unfoldable pub next_at : List ℕ → List ℕ → ℕ → ℕ
next_at t places r = start_of t r + 25 * get_or places r 0

-- a number noted as number n, where there is room
unfoldable pub noted : List ℕ → ℕ → ℕ → List ℕ
noted kept n at = cond (ltb n 4096) (set kept n at) kept

-- the runs from `from` up to `to` are read to their ends
pub record Skips (counts places : List ℕ) (from to : ℕ) (places' : List ℕ) : Type 0 where
  pub room : length places' ≡ 63
  pub read : (r : ℕ) → from ≤ r → r < to → get_or places' r 0 ≡ get_or counts r 0
  pub below : (r : ℕ) → r < from → get_or places' r 0 ≡ get_or places r 0
  pub behind : (r : ℕ) → to ≤ r → get_or places' r 0 ≡ get_or places r 0

-- the records w of a tray have been counted, and the first 4,096 of them noted
pub record Noted (t : List ℕ) (w : List Record) (kept : List ℕ) (n : ℕ) : Type 0 where
  pub number : n ≡ length w
  pub room : length kept ≡ 4096
  pub inside : All (λ at. at + 25 ≤ length t) (take n kept)
  pub are : n ≤ 4096 → map (record_from t) (take n kept) ≡ w

-- a sound tray, and bounds that hold
pub record Folding (tray : Tray) (a b : ℕ) : Type 0 where
  pub bytes : Bytes tray.bytes.now
  pub sound : Sound tray.bytes.now
  pub order : a ≤ b
  pub within : b < run_count tray.bytes.now
