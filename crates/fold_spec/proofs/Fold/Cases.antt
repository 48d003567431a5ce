-- Worked cases of fold on bytes: rows e, j and k of docs/RULES.md, "Small trays to prove", what is copied, and the answers in their order.
-- The last byte of a value says which run it came from. Each case holds by computation.
use Rattle.refusal.specs.declared.Refusal.{Refusal}
use Rattle.std.specs.Prelude.{◌≡◌, refl, ℕ, List, [], ◌∷◌, ◌++◌, set, replicate, Ok, Err, Result}
use Rattle.number.specs.Big.{be, bytes_of, put}
use Rattle.refusal.specs.declared.Refusal.TheVariants.{TrayFrame, KeyOrder, RecordKind, Room, Bounds}
use Rattle.theory.specs.Rising.{any, keep, insert, insert_all}
use Rattle.theory.specs.Listed.{listed}
use Rattle.theory.specs.Merge.{hidden, over, merged, fold}
use Rattle.tray.specs.Frame.{run_count, count_of, records_before, start_of, run_bytes, header_fits, counts_fit, framed}
use Rattle.tray.specs.Run.{record_from, kind_wrong, key_wrong, judge_from}
use Rattle.tray.specs.Check.{after_run, check_runs, check_tray_answer}
use Rattle.tray.specs.Meaning.{run_of, runs_of, record_bytes, records_bytes, counts_bytes, runs_bytes, tray_bytes, total}
use Rattle.fold_spec.specs.Fold.{folded_run, folded_runs, fold_bytes, fold_size, bounds_hold, after_check, fold_answer, fold_leaves}

-- the bytes of a folded tray with all that they are computed by: to unfold it is to unfold them
folded : ℕ → ℕ → List ℕ → List ℕ
unfolding fold_bytes folded_runs fold merged over hidden any keep insert insert_all tray_bytes counts_bytes runs_bytes records_bytes record_bytes bytes_of runs_of run_of listed run_count count_of records_before start_of run_bytes record_from be
folded a b t = fold_bytes a b (runs_of t)

-- and so fold's answer
answer : List ℕ → ℕ → ℕ → ℕ → Result ℕ Refusal
unfolding folded fold_answer after_check bounds_hold fold_size folded_run total check_tray_answer check_runs after_run judge_from kind_wrong key_wrong framed header_fits counts_fit
answer t a b room = fold_answer t a b room

-- a record of a small key, with its kind and the last byte of its value
abbrev point : ℕ → ℕ → ℕ → List ℕ
point k n v = replicate 7 0 ++ (k ∷ n ∷ (replicate 15 0 ++ (v ∷ [])))

-- row e: {5g},{5}
abbrev e : List ℕ
e = (2 ∷ 0 ∷ 0 ∷ 0 ∷ 0 ∷ 1 ∷ 0 ∷ 1 ∷ []) ++ (point 5 1 0 ++ point 5 0 1)

-- row k's tray: {1},{},{1,2}
abbrev k : List ℕ
k = (3 ∷ 0 ∷ 0 ∷ 0 ∷ 0 ∷ 1 ∷ 0 ∷ 0 ∷ 0 ∷ 2 ∷ []) ++ (point 1 0 7 ++ (point 1 0 9 ++ point 2 0 9))

-- what they fold to
abbrev e_folded : List ℕ
e_folded = (1 ∷ 0 ∷ 0 ∷ 0 ∷ 0 ∷ 1 ∷ []) ++ point 5 1 0

abbrev k_folded : List ℕ
k_folded = (1 ∷ 0 ∷ 0 ∷ 0 ∷ 0 ∷ 2 ∷ []) ++ (point 1 0 7 ++ point 2 0 9)

-- row j: e folded 0..1 is {5g}: the gone record stays
row-j : fold_bytes 0 1 (runs_of e) ≡ e_folded
unfolding folded
row-j = refl

-- row k: folded 0..2 it is {1,2}, 1 from run 0
row-k : fold_bytes 0 2 (runs_of k) ≡ k_folded
unfolding folded
row-k = refl

-- a fold of the older two copies run 0
others-copied : fold_bytes 1 2 (runs_of k) ≡ (2 ∷ 0 ∷ 0 ∷ 0 ∷ 0 ∷ 1 ∷ 0 ∷ 2 ∷ []) ++ (point 1 0 7 ++ (point 1 0 9 ++ point 2 0 9))
unfolding folded
others-copied = refl

-- a=b copies the tray
same-run : fold_bytes 1 1 (runs_of k) ≡ k
unfolding folded
same-run = refl

-- the answer is the bytes written; those after them stay
exact-room : fold_answer e 0 1 31 ≡ Ok 31
unfolding answer
exact-room = refl

bytes-behind : fold_leaves e 0 1 (replicate 33 0xaa) (Ok 31) ≡ e_folded ++ (0xaa ∷ 0xaa ∷ [])
unfolding folded fold_leaves put
bytes-behind = refl

-- 7: one byte short
short-room : fold_answer e 0 1 30 ≡ Err (Room 31)
unfolding answer
short-room = refl

-- 8: a above b, and b not a run; the figure is b
a-above-b : fold_answer e 1 0 31 ≡ Err (Bounds 0)
unfolding answer
a-above-b = refl

b-no-run : fold_answer e 0 2 31 ≡ Err (Bounds 2)
unfolding answer
b-no-run = refl

-- 1 before 8, 8 before 3, 3 before 7
frame-first : fold_answer (set e 3 1) 1 0 31 ≡ Err TrayFrame
unfolding answer
frame-first = refl

bounds-second : fold_answer (set e 16 2) 1 0 31 ≡ Err (Bounds 0)
unfolding answer
bounds-second = refl

kind-third : fold_answer (set e 16 2) 0 1 0 ≡ Err (RecordKind 0)
unfolding answer
kind-third = refl

-- a record outside the runs that are folded is judged too: the keys 1 and 2 of run 2 as 1 and 1
key-elsewhere : fold_answer (set k 67 1) 0 1 0 ≡ Err (KeyOrder 2)
unfolding answer
key-elsewhere = refl
