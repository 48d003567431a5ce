-- The check of an index as arithmetic, in one pass and with no merge: what is read in order from each run, rises strictly by key and then run,
-- and at each segment's end stays below every run's next key, is the view (`Scan/Laws`). The state is how far each run has been read: a list
-- of places.
pub mod All
pub mod Code
pub mod Entry
pub mod Following
pub mod Heads
pub mod Laws
pub mod Marks
pub mod Opens
pub mod Places
pub mod Right
pub mod Segment
pub mod Trails
use Rattle.std.specs.Prelude.{ℕ, zero, suc, ◌+◌, ◌-◌, ◌%◌, Bool, true, false, cond, ◌&&◌, ◌||◌, List, get_or, set, eqb, ltb}
use Rattle.theory.specs.Records.{Record, live}
use Rattle.tray.specs.Frame.{count_of, run_bytes}
use Rattle.tray.specs.Run.{record_at}
use Rattle.index.specs.Layout.{head_size, segment_at, anchor_from, offset_from}

-- what a few selectors come to: something is wrong, or the places and the last key after them
pub data Trail : Type 0 where
  lost : Trail
  kept : List ℕ → ℕ → Trail

-- what a segment comes to: wrong, or right with the places after it
pub data Outcome : Type 0 where
  wrong : Outcome
  right : List ℕ → Outcome

-- what segments come to: the first wrong one, or the places after them all
pub data Scanned : Type 0 where
  wrong_at : ℕ → Scanned
  through : List ℕ → Scanned

-- the run that a selector names
abbrev pub run_in : ℕ → ℕ
run_in v = v % 64

-- the selector of a record of run r that is old, or not
unfoldable pub marked : ℕ → Record → Bool → ℕ
marked r e o = r + (cond o 128 0 + cond (live e) 0 64)

-- one record of run r has been read
unfoldable pub raise : List ℕ → ℕ → List ℕ
raise places r = set places r (get_or places r 0 + 1)

-- a selector that stands first in its segment: its record is not old
unfoldable pub begins : ℕ → Record → Bool
begins v e = eqb v (marked (run_in v) e false)

-- a selector after a record with key `last` of run `before`: its record stands after that one, and is old exactly where it has the same key
unfoldable pub joins : ℕ → ℕ → ℕ → Record → Bool
joins last before v e = (ltb last e.key || (eqb last e.key && ltb before (run_in v))) && eqb v (marked (run_in v) e (eqb last e.key))

module _ (x : List ℕ) where
  -- the offsets of the first k runs are the places
  unfoldable pub offsets_hold : ℕ → List ℕ → ℕ → Bool
  offsets_hold at places zero = true
  offsets_hold at places (suc r) = eqb (offset_from x at r) (get_or places r 0) && offsets_hold at places r

  -- the n bytes from i on are placeholders
  unfoldable pub only_placeholders : ℕ → ℕ → Bool
  only_placeholders zero i = true
  only_placeholders (suc n) i = eqb (get_or x i 0) 63 && only_placeholders n (i + 1)

module _ (t : List ℕ) where
  -- the next record of a run
  unfoldable pub next_in : List ℕ → ℕ → Record
  next_in places r = record_at (run_bytes t r) (get_or places r 0)

  -- the run has a record left
  unfoldable pub has_next : List ℕ → ℕ → Bool
  has_next places r = ltb (get_or places r 0) (count_of t r)

  -- the next key of each of the first k runs is above the last one
  unfoldable pub heads_above : List ℕ → ℕ → ℕ → Bool
  heads_above places last zero = true
  heads_above places last (suc r) = cond (has_next places r) (ltb last (next_in places r).key) true && heads_above places last r

  -- each of the first k runs has been read to its end
  unfoldable pub used_up : List ℕ → ℕ → Bool
  used_up places zero = true
  used_up places (suc r) = eqb (get_or places r 0) (count_of t r) && used_up places r

  module _ (h : ℕ) where
    -- the selector names a run of the tray that has a record left
    unfoldable pub names : List ℕ → ℕ → Bool
    names places v = ltb (run_in v) h && has_next places (run_in v)

    -- after the selectors of a segment: every run's next key is above its last one
    unfoldable pub closed : Trail → Outcome
    closed lost = wrong
    closed (kept places last) = cond (heads_above places last h) (right places) wrong

    module _ (x : List ℕ) where
      -- the n selectors from byte i on, after a record with key `last` of run `before`
      unfoldable pub following : ℕ → ℕ → List ℕ → ℕ → ℕ → Trail
      following zero i places last before = kept places last
      following (suc n) i places last before =
          let v = get_or x i 0 in
          let e = next_in places (run_in v) in
          let next = following n (i + 1) (raise places (run_in v)) e.key (run_in v) in
          let ended = cond (only_placeholders x n (i + 1)) (kept places last) lost in
          cond (eqb v 63) ended (cond (names places v) (cond (joins last before v e) next lost) lost)

      -- the selectors of a segment of d, the first one at byte i; the anchor is the first record's key
      unfoldable pub selectors_scan : ℕ → ℕ → ℕ → List ℕ → Outcome
      selectors_scan d anchor i places =
          let v = get_or x i 0 in
          let e = next_in places (run_in v) in
          let taken = closed (following (d - 1) (i + 1) (raise places (run_in v)) e.key (run_in v)) in
          cond (names places v) (cond (begins v e && eqb anchor e.key) taken wrong) wrong

      -- the segment of d that starts at a byte
      unfoldable pub segment_scan : ℕ → ℕ → List ℕ → Outcome
      segment_scan d at places =
          let taken = selectors_scan d (anchor_from x at) (at + head_size h) places in
          cond (offsets_hold x at places h) taken wrong

      -- k segments of d from segment g on
      unfoldable pub scan_from : ℕ → ℕ → ℕ → List ℕ → Scanned
      scan_from d zero g places = through places
      scan_from d (suc k) g places = elim (segment_scan d (segment_at h d g) places) [ wrong ↦ wrong_at g | right after ↦ scan_from d k (g + 1) after ]
