-- Where things lie in an index (docs/FORMAT.md, "The index"): byte 0 is H, byte 1 the segment size D, bytes 2 and 3 zero, bytes 4 to 7 the
-- segment count S; then S segments, each an anchor key (8), H offsets (2 each) and D selectors.
pub mod Code
pub mod Opens
pub mod Laws
use Rattle.std.specs.Prelude.{ℕ, ◌+◌, ◌*◌, ◌≤◌, ◌≡◌, Bool, ◌&&◌, List, length, get_or, leb, eqb}
use Rattle.number.specs.Big.{be}
use Rattle.theory.specs.Listed.{listed}

-- the segment size D
unfoldable pub size_of : List ℕ → ℕ
size_of x = get_or x 1 0

-- the segment count S
unfoldable pub segment_count : List ℕ → ℕ
segment_count x = be 4 x 4

-- what stands before the selectors of a segment: an anchor and h offsets
unfoldable pub head_size : ℕ → ℕ
head_size h = 8 + 2 * h

-- where segment g starts, for h runs and segments of d; for g = S where the last one ends
unfoldable pub segment_at : ℕ → ℕ → ℕ → ℕ
segment_at h d g = 8 + g * (head_size h + d)

-- a segment's parts
pub record Segment : Type 0 where
  pub anchor : ℕ
  pub offsets : List ℕ
  pub selectors : List ℕ

-- the anchor of the segment that starts at a byte
abbrev pub anchor_from : List ℕ → ℕ → ℕ
anchor_from x at = be 8 x at

-- its offset of run r
abbrev pub offset_from : List ℕ → ℕ → ℕ → ℕ
offset_from x at r = be 2 x (at + 8 + 2 * r)

-- its selector s
abbrev pub selector_from : ℕ → List ℕ → ℕ → ℕ → ℕ
selector_from h x at s = get_or x (at + head_size h + s) 0

-- the segment that starts at a byte
unfoldable pub segment_from : ℕ → ℕ → List ℕ → ℕ → Segment
segment_from h d x at =
    record { anchor = anchor_from x at; offsets = listed h 0 (offset_from x at); selectors = listed d 0 (selector_from h x at) }

-- segment g of an index
abbrev pub segment_of : ℕ → List ℕ → ℕ → Segment
segment_of h x g = segment_from h (size_of x) x (segment_at h (size_of x) g)

-- all segments of an index
unfoldable pub segments_of : ℕ → List ℕ → List Segment
segments_of h x = listed (segment_count x) 0 (segment_of h x)

-- the frame for a tray of h runs: refusal 4 is given exactly where it does not hold
pub record IndexFramed (h : ℕ) (x : List ℕ) : Type 0 where
  pub header : 8 ≤ length x
  pub runs : get_or x 0 0 ≡ h
  pub least : h ≤ size_of x
  pub most : size_of x ≤ 128
  pub zero-2 : get_or x 2 0 ≡ 0
  pub zero-3 : get_or x 3 0 ≡ 0
  pub whole : length x ≡ segment_at h (size_of x) (segment_count x)

-- the same as a test
unfoldable pub index_framed : ℕ → List ℕ → Bool
index_framed h x =
    leb 8 (length x)
    && (eqb (get_or x 0 0) h
    && (leb h (size_of x) && (leb (size_of x) 128 && (eqb (get_or x 2 0) 0 && (eqb (get_or x 3 0) 0 && eqb (length x) (segment_at h (size_of x) (segment_count x)))))))
