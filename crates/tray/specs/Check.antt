-- Check tray's answer for every input (docs/RULES.md, "Refusals by number": 1, then 3/2 in tray order), and what a sound tray is.
pub mod Theorems
pub mod Laws
mod Cases
pub mod Code
use Rattle.refusal.specs.declared.Refusal.{Refusal}
use Rattle.std.specs.Prelude.{ℕ, zero, suc, ◌+◌, ◌<◌, ◌≡◌, true, false, cond, List, Ok, Err, Result}
use Rattle.refusal.specs.declared.Refusal.TheVariants.{TrayFrame, KeyOrder, RecordKind}
use Rattle.theory.specs.Records.{SoundRecord}
use Rattle.tray.specs.declared.Fault.{Fault}
use Rattle.tray.specs.declared.Fault.TheVariants.{WrongKind, WrongKey}
use Rattle.tray.specs.Frame.{run_count, count_of, records_before, run_bytes, framed, Framed}
use Rattle.tray.specs.Run.{record_at, kind_wrong, key_wrong, judge_run}

-- a run's answer as the tray's: b records stand before the run; where it is right, the rest decides
unfoldable pub after_run : ℕ → Result (Unit {0}) Fault → Result ℕ Refusal → Result ℕ Refusal
after_run b (Ok u) next = next
after_run b (Err (WrongKind p)) next = Err (RecordKind (b + p.0))
after_run b (Err (WrongKey p)) next = Err (KeyOrder (b + p.0))

-- the answer of k runs from run r on
unfoldable pub check_runs : ℕ → List ℕ → ℕ → Result ℕ Refusal
check_runs zero t r = Ok (records_before t r)
check_runs (suc k) t r =
    let next = check_runs k t (suc r) in
    after_run (records_before t r) (judge_run (count_of t r) (run_bytes t r)) next

-- check tray
unfoldable pub check_tray_answer : List ℕ → Result ℕ Refusal
check_tray_answer t =
    let judged = check_runs (run_count t) t 0 in
    cond (framed t) judged (Err TrayFrame)

-- a sound tray: it has the frame; every record has a known kind, and no value where it is gone; keys rise strictly within a run
pub record Sound (t : List ℕ) : Type 0 where
  pub frame : Framed t
  pub kinds : (r p : ℕ) → r < run_count t → p < count_of t r → SoundRecord (record_at (run_bytes t r) p)
  pub keys : (r p : ℕ) → r < run_count t → suc p < count_of t r → (record_at (run_bytes t r) p).key < (record_at (run_bytes t r) (suc p)).key

-- record n of the tray is the one at place p of run r
pub record Numbered (t : List ℕ) (n r p : ℕ) : Type 0 where
  pub run : r < run_count t
  pub inside : p < count_of t r
  pub number : n ≡ records_before t r + p

-- every record before record n is right
abbrev pub RightBefore : List ℕ → ℕ → Type 0
RightBefore t n =
    (m r p : ℕ) → Numbered t m r p → m < n → (kind_wrong (record_at (run_bytes t r) p) ≡ false) × (key_wrong (run_bytes t r) p ≡ false)

-- the table's lines 1 to 3 and the answer without a refusal, each exactly when
pub data Says (t : List ℕ) : Result ℕ Refusal → Type 0 where
  refused-1 : (Framed t → ⊥) → Says t (Err TrayFrame)
  refused-2 : (n r p : ℕ) → Framed t → Numbered t n r p → RightBefore t n → kind_wrong (record_at (run_bytes t r) p) ≡ false → key_wrong (run_bytes t r) p ≡ true → Says t (Err (KeyOrder n))
  refused-3 : (n r p : ℕ) → Framed t → Numbered t n r p → RightBefore t n → kind_wrong (record_at (run_bytes t r) p) ≡ true → Says t (Err (RecordKind n))
  records : Sound t → Says t (Ok (records_before t (run_count t)))
