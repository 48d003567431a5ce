-- Check index's answer for every input (docs/RULES.md, "Orders": 1, 3/2, 4, 5), and what the table says of it.
mod Cases
pub mod Code
pub mod Laws
pub mod Theorems
use Rattle.std.specs.Prelude.{ℕ, ◌≡◌, cond, List, replicate, Ok, Err, Result}
use Rattle.refusal.specs.declared.Refusal.{Refusal}
use Rattle.refusal.specs.declared.Refusal.TheVariants.{IndexFrame, Segment}
use Rattle.tray.specs.Frame.{run_count}
use Rattle.tray.specs.Check.{check_tray_answer, Sound}
use Rattle.tray.specs.Meaning.{runs_of}
use Rattle.index.specs.Layout.{size_of, segment_count, segments_of, IndexFramed, index_framed}
use Rattle.index.specs.Rules.{Accepted, FirstWrong, LeftOver}
use Rattle.index.specs.Scan.{Scanned, wrong_at, through, used_up, scan_from}

-- the answer where the scan of n segments of a tray with h runs came to this
unfoldable pub after_scan : List ℕ → ℕ → ℕ → Scanned → Result ℕ Refusal
after_scan t h n (wrong_at g) = Err (Segment g)
after_scan t h n (through places) = cond (used_up t places h) (Ok n) (Err (Segment n))

-- at the start no record of any run has been read
abbrev pub none_read : List ℕ
none_read = replicate 63 0

-- an index whose frame fits
unfoldable pub judge_index : List ℕ → List ℕ → Result ℕ Refusal
judge_index t x = after_scan t (run_count t) (segment_count x) (scan_from t (run_count t) x (size_of x) (segment_count x) 0 none_read)

-- an index beside a sound tray
unfoldable pub framed_index : List ℕ → List ℕ → Result ℕ Refusal
framed_index t x = let judged = judge_index t x in cond (index_framed (run_count t) x) judged (Err IndexFrame)

-- after the tray has been checked
unfoldable pub after_tray : List ℕ → List ℕ → Result ℕ Refusal → Result ℕ Refusal
after_tray t x (Err r) = Err r
after_tray t x (Ok n) = framed_index t x

-- check index
unfoldable pub check_index_answer : List ℕ → List ℕ → Result ℕ Refusal
check_index_answer t x = after_tray t x (check_tray_answer t)

-- the table's lines for check index, each exactly when
pub data Says (t x : List ℕ) : Result ℕ Refusal → Type 0 where
  refused-tray : (r : Refusal) → check_tray_answer t ≡ Err r → Says t x (Err r)
  refused-4 : Sound t → (IndexFramed (run_count t) x → ⊥) → Says t x (Err IndexFrame)
  refused-5 : (n : ℕ) → Sound t → IndexFramed (run_count t) x → FirstWrong (runs_of t) (segments_of (run_count t) x) n → Says t x (Err (Segment n))
  left_over : Sound t → IndexFramed (run_count t) x → LeftOver (runs_of t) (segments_of (run_count t) x) → Says t x (Err (Segment (segment_count x)))
  accepted : Sound t → IndexFramed (run_count t) x → Accepted (runs_of t) (segments_of (run_count t) x) → Says t x (Ok (segment_count x))
