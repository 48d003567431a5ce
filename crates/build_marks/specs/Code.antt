-- What the functions of the builder promise each other: how the records of a segment are taken and written. The laws stand below.
pub mod Merge
pub mod Records
pub mod Spelled
pub mod Taken
pub mod Writes
use Rattle.std.specs.Prelude.{ℕ, zero, suc, ◌+◌, ◌-◌, ◌*◌, ◌%◌, ◌≤◌, ◌<◌, ◌≡◌, cond, List, length, get_or, set, replicate, eqb, ltb}
use Rattle.number.specs.Big.{bytes_of, put, Bytes}
use Rattle.theory.specs.Records.{live}
use Rattle.theory.specs.Pack.{joined}
use Rattle.tray.specs.declared.Tray.{Tray}
use Rattle.tray.specs.Frame.{run_count, records_before}
use Rattle.tray.specs.Check.{Sound}
use Rattle.theory.specs.Listed.{listed}
use Rattle.index.specs.Scan.{next_in, raise}
use Rattle.merge_lead.specs.Heads.Leads.{NextRun, NoRun, LeastKey}

-- the selector of a run's next record, with a mark
unfoldable pub spelling : List ℕ → List ℕ → ℕ → ℕ → ℕ
spelling t places mark r = r + (mark + cond (live (next_in t places r)) 0 64)

-- the mark of a record with key k after one with key `last`
unfoldable pub old_mark : ℕ → ℕ → ℕ
old_mark last k = cond (eqb last k) 128 0

-- a key that is not k
unfoldable pub other_key : ℕ → ℕ
other_key k = cond (eqb k 0) 1 0

module _ (t : List ℕ) (h : ℕ) where
  module _ (places seg : List ℕ) (from first : ℕ) where
    -- records taken one by one as they come next, and their selectors written: places, output, where they end, and the last key
    pub data Steps : List ℕ → List ℕ → ℕ → ℕ → Type 0 where
      none : Steps places seg from first
      more : {places' seg' : List ℕ} {at last r k : ℕ} → Steps places' seg' at last → NextRun t h places' r k → at < length seg'
          → Steps (raise places' r) (set seg' at (spelling t places' (old_mark last k) r)) (at + 1) k

    -- all that have room by `to`
    pub record Stopped (to : ℕ) (places' seg' : List ℕ) (at last : ℕ) : Type 0 where
      pub steps : Steps places' seg' at last
      pub begun : from ≤ at
      pub inside : at ≤ to
      pub all : at < to → NoRun t h places'

  -- what comes next has another key, or nothing does
  pub data After (places : List ℕ) (last : ℕ) : Type 0 where
    over : NoRun t h places → After places last
    other : {r k : ℕ} → NextRun t h places r k → (k ≡ last → ⊥) → After places last

-- the bytes from a place on and below another are selectors of runs
pub record Selecting (seg : List ℕ) (from at : ℕ) : Type 0 where
  pub begun : from ≤ at
  pub room : at ≤ length seg
  pub runs : (i : ℕ) → from ≤ i → i < at → get_or seg i 0 % 64 < 63

-- where it is gone back to, and the places there
pub data Back : Type 0 where
  stop : ℕ → List ℕ → Back

-- one record of run r given back
unfoldable pub lower : List ℕ → ℕ → List ℕ
lower places r = set places r (get_or places r 0 - 1)

-- the last n selectors after a place given back, as far as one that is not old
unfoldable pub back : List ℕ → ℕ → ℕ → List ℕ → Back
back seg from zero places = stop from places
back seg from (suc n) places =
    let less = lower places (get_or seg (from + n) 0 % 64) in
    let further = back seg from n less in
    cond (ltb (get_or seg (from + n) 0) 128) (stop (from + n) less) further

-- the records of key after key taken and written, as long as all of a key have room by `to`
pub data Fills (t : List ℕ) (h : ℕ) (places seg : List ℕ) (from first to : ℕ) : List ℕ → List ℕ → ℕ → Type 0 where
  ends : {places' seg' : List ℕ} {at last : ℕ} → Stopped t h places seg from first to places' seg' at last → After t h places' last
      → Fills t h places seg from first to places' seg' at
  cuts : {places₁ seg' places' : List ℕ} {at last r e : ℕ} → Stopped t h places seg from first to places₁ seg' at last → NextRun t h places₁ r last
      → stop e places' ≡ back seg' from (at - from) places₁ → Fills t h places seg from first to places' seg' e

-- the offsets of n runs from run r on, 2 bytes each
unfoldable pub offsets_from : List ℕ → ℕ → ℕ → List ℕ
offsets_from places n r = joined (listed n r (λ i. bytes_of 2 (get_or places i 0)))

-- a segment of n records has been written: anchor, offsets, the selectors, and placeholders to its end
pub record Segmented (t : List ℕ) (h d : ℕ) (places seg places' seg' : List ℕ) (n : ℕ) : Type 0 where
  pub anchor : ℕ
  pub selectors : List ℕ
  pub least : LeastKey t h places anchor
  pub filled : Fills t h places (put (put seg 0 (bytes_of 8 anchor)) 8 (offsets_from places h 0)) (8 + 2 * h) (other_key anchor) (8 + 2 * h + d) places' selectors (8 + 2 * h + n)
  pub short : n ≤ d
  pub whole : seg' ≡ put selectors (8 + 2 * h + n) (replicate (d - n) 63)

-- a sound tray, its n records, and a segment size that fits it
pub record Sounded (tray : Tray) (d n : ℕ) : Type 0 where
  pub bytes : Bytes tray.bytes.now
  pub sound : Sound tray.bytes.now
  pub least : run_count tray.bytes.now ≤ d
  pub most : d ≤ 128
  pub records : n ≡ records_before tray.bytes.now (run_count tray.bytes.now)
