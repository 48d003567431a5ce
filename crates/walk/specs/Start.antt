-- Where a walk for a key starts (docs/RULES.md, "Start"): from all S segments, probe the one at (first + one past last)/2 rounded down; an anchor
-- at or below the key keeps those after it, else those before. With n segments passed when none remain, start at segment n-1, or 0 when n is 0.
pub mod Code
pub mod Laws
use Rattle.std.specs.Prelude.{ℕ, zero, suc, pred, ◌+◌, ◌/◌, cond, List, leb}
use Rattle.index.specs.Layout.{size_of, segment_count, segment_at, anchor_from}

module _ (h : ℕ) (x : List ℕ) (key : ℕ) where
  -- how many segments are passed when none remain, where those from `first` on and before `past` do and k probes are left
  unfoldable pub probe : ℕ → ℕ → ℕ → ℕ
  probe zero first past = first
  probe (suc k) first past =
      let middle = (first + past) / 2 in
      let above = probe k (middle + 1) past in
      let below = probe k first middle in
      let kept = cond (leb (anchor_from x (segment_at h (size_of x) middle)) key) above below in
      cond (leb past first) first kept

  -- the segment at which the walk starts; as many probes as there are segments are enough
  unfoldable pub start : ℕ
  start = pred (probe (segment_count x) 0 (segment_count x))
