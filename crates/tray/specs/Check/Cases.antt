-- Worked cases of check tray, most of them the sample tray with a byte changed. Each holds by computation.
use Rattle.refusal.specs.declared.Refusal.{Refusal}
use Rattle.std.specs.Prelude.{◌≡◌, refl, ℕ, ◌+◌, ◌*◌, true, false, List, [], ◌∷◌, ◌++◌, take, drop, set, replicate, Ok, Err, Result}
use Rattle.number.specs.Big.{be}
use Rattle.refusal.specs.declared.Refusal.TheVariants.{TrayFrame, KeyOrder, RecordKind}
use Rattle.tray.specs.Frame.{run_count, count_of, records_before, start_of, run_bytes, header_fits, counts_fit, framed}
use Rattle.tray.specs.Run.{record_from, kind_wrong, key_wrong, judge_from}
use Rattle.tray.specs.Check.{after_run, check_runs, check_tray_answer}
use Rattle.tray.specs.Sample.{sample}

-- check tray with all that it computes by: to unfold it is to unfold them
checked : List ℕ → Result ℕ Refusal
unfolding check_tray_answer check_runs after_run judge_from kind_wrong key_wrong record_from framed header_fits counts_fit run_count count_of records_before start_of run_bytes be
checked t = check_tray_answer t

-- a tray of two runs in which record n has another last byte of its key,
abbrev with_key : List ℕ → ℕ → ℕ → List ℕ
with_key t n k = set t (15 + 25 * n) k

-- or another kind
abbrev with_kind : List ℕ → ℕ → ℕ → List ℕ
with_kind t n k = set t (16 + 25 * n) k

-- its three records as one run
abbrev one_run : List ℕ → List ℕ
one_run t = 1 ∷ 0 ∷ 0 ∷ 0 ∷ 0 ∷ 3 ∷ drop 8 t

-- one record of key 0, with a kind and the last byte of a value
abbrev single : ℕ → ℕ → List ℕ
single k v = 1 ∷ 0 ∷ 0 ∷ 0 ∷ 0 ∷ 1 ∷ (replicate 8 0 ++ (k ∷ (replicate 15 0 ++ (v ∷ []))))

-- h runs without records
abbrev empty : ℕ → List ℕ
empty h = h ∷ replicate (3 + 2 * h) 0

-- a sound tray: runs 0 and 1 may share a key
pub sound : check_tray_answer sample ≡ Ok 3
unfolding checked
sound = refl

-- 1: the header,
pub no_bytes : check_tray_answer [] ≡ Err TrayFrame
unfolding checked
no_bytes = refl

pub no_run : check_tray_answer (0 ∷ 0 ∷ 0 ∷ 0 ∷ []) ≡ Err TrayFrame
unfolding checked
no_run = refl

pub no_room : check_tray_answer (2 ∷ 0 ∷ 0 ∷ 0 ∷ []) ≡ Err TrayFrame
unfolding checked
no_room = refl

pub byte-3 : check_tray_answer (set sample 3 1) ≡ Err TrayFrame
unfolding checked
byte-3 = refl

pub runs-63 : check_tray_answer (empty 63) ≡ Ok 0
unfolding checked
runs-63 = refl

pub runs-64 : check_tray_answer (empty 64) ≡ Err TrayFrame
unfolding checked
runs-64 = refl

-- the counts,
pub count-4096 : counts_fit (1 ∷ 0 ∷ 0 ∷ 0 ∷ 0x10 ∷ 0 ∷ []) 1 ≡ true
unfolding checked
count-4096 = refl

pub count-4097 : counts_fit (1 ∷ 0 ∷ 0 ∷ 0 ∷ 0x10 ∷ 1 ∷ []) 1 ≡ false
unfolding checked
count-4097 = refl

-- the length
pub byte-after : check_tray_answer (sample ++ (0 ∷ [])) ≡ Err TrayFrame
unfolding checked
byte-after = refl

pub byte-missing : check_tray_answer (take 82 sample) ≡ Err TrayFrame
unfolding checked
byte-missing = refl

-- 2: the records of run 1 exchanged, and with one key; record 2 of the tray is record 1 of its run
pub exchanged : check_tray_answer (take 33 sample ++ (drop 58 sample ++ take 25 (drop 33 sample))) ≡ Err (KeyOrder 2)
unfolding checked
exchanged = refl

pub equal-keys : check_tray_answer (with_key sample 2 1) ≡ Err (KeyOrder 2)
unfolding checked
equal-keys = refl

-- 3: an unknown kind, value or not; a gone record with a value, if only in its last byte
pub kind_2 : check_tray_answer (with_kind sample 0 2) ≡ Err (RecordKind 0)
unfolding checked
kind_2 = refl

pub kind-2-no-value : check_tray_answer (single 2 0) ≡ Err (RecordKind 0)
unfolding checked
kind-2-no-value = refl

pub gone : check_tray_answer (single 1 0) ≡ Ok 1
unfolding checked
gone = refl

pub gone-with-value : check_tray_answer (single 1 1) ≡ Err (RecordKind 0)
unfolding checked
gone-with-value = refl

-- 3 before 2 at one record
pub wrong-both-ways : check_tray_answer (with_kind (with_key sample 2 1) 2 2) ≡ Err (RecordKind 2)
unfolding checked
wrong-both-ways = refl

-- else the earlier record decides: as one run the sample has its first key twice
pub earlier-2 : check_tray_answer (one_run (with_kind sample 2 2)) ≡ Err (KeyOrder 1)
unfolding checked
earlier-2 = refl

pub earlier-3 : check_tray_answer (one_run (with_kind sample 0 2)) ≡ Err (RecordKind 0)
unfolding checked
earlier-3 = refl
