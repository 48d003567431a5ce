-- What the code of the check needs of the definitions: each law is a way out of a function, or a turn of its loop.
--     Judging, judging-none, judging-more     the runs before run r are right
--     judged-end, judged-wrong                 how the loop over runs ends
--     check-frame, check-judged               the whole call
use Rattle.refusal.specs.declared.Refusal.{Refusal}
use Rattle.std.specs.Prelude.{◌≡◌, true, false, List, Ok, Err, Result}
use Rattle.std.proofs.Math.Path.{refl, sym, ap}
use Rattle.std.proofs.Common.{◌∙◌}
use Prim.Native.Nat.{ℕ, suc, ◌+◌, ◌-◌, ◌*◌, ◌≤◌, ◌<◌}
use native.Mathlib.Omega.{arith}
use Rattle.std.proofs.Math.Numerals.{add-one}
use Rattle.std.proofs.Math.Nat.{sub-zero}
use Rattle.refusal.specs.declared.Refusal.TheVariants.{TrayFrame}
use Rattle.tray.specs.declared.Fault.{Fault}
use Rattle.tray.specs.declared.Fault.TheVariants.{WrongKind, WrongKey}
use Rattle.tray.specs.Frame.{run_count, count_of, records_before, run_bytes, framed}
use Rattle.tray.specs.Frame.Laws.{records_before-next, records_before-zero}
use Rattle.tray.specs.Run.{judge_run}
use Rattle.tray.specs.Check.{after_run, check_runs, check_tray_answer}

module _ (t : List ℕ) where
  -- the runs before run r are right, and hold `before` records
  pub record Judging (before r : ℕ) : Type 0 where
    pub within : r ≤ run_count t
    pub counted : before ≡ records_before t r
    pub low : before ≤ 4096 * r
    pub same : check_runs (run_count t - r) t r ≡ check_runs (run_count t) t 0

  pub judging-none : Judging 0 0
  judging-none = record { within = omega arith; counted = sym (records_before-zero t); low = omega arith; same = rw sub-zero }

  -- run r, judged
  one-run : {r : ℕ} {a : Result (Unit {0}) Fault} → r < run_count t → a ≡ judge_run (count_of t r) (run_bytes t r)
      → check_runs (run_count t - r) t r ≡ after_run (records_before t r) a (check_runs (run_count t - (r + 1)) t (suc r))
  unfolding check_runs
  one-run {r} l e = let z : run_count t - r ≡ suc (run_count t - (r + 1)) = omega arith in rw (z, e)

  module _ {before r n : ℕ} {a : Result (Unit {0}) Fault} (j : Judging before r) (l : r < run_count t) (told : a ≡ judge_run n (run_bytes t r)) (count : n ≡ count_of t r) where
    found : a ≡ judge_run (count_of t r) (run_bytes t r)
    found = told ∙ ap (λ (k : ℕ). judge_run k (run_bytes t r)) count

    -- it is right, and the next one follows
    pub judging-more : {m : ℕ} → a ≡ Ok tt → n ≤ 4096 → m ≡ n → Judging (before + m) (r + 1)
    unfolding after_run
    judging-more {m} e fits z =
        let b : before ≡ records_before t r = j.counted in
        let low : before ≤ 4096 * r = j.low in
        let next : records_before t (suc r) ≡ records_before t r + count_of t r = records_before-next t r in
        record {
          within = omega arith;
          counted = rw add-one (omega arith);
          low = omega arith;
          same = sym (one-run l (sym e ∙ found) ∙ ap (check_runs (run_count t - (r + 1)) t) (sym (add-one r))) ∙ j.same;
        }

    -- a record of it is wrong: the run's answer is told as the tray's
    stands-alone : (w : Fault) (b : ℕ) (next : Result ℕ Refusal) → after_run b (Err w) next ≡ after_run b (Err w) (Ok 0)
    unfolding after_run
    stands-alone (WrongKind p) b next = refl
    stands-alone (WrongKey p) b next = refl

    pub judged-wrong : {w : Fault} {e : Refusal} → a ≡ Err w → Err e ≡ after_run before (Err w) (Ok 0) → Err e ≡ check_runs (run_count t) t 0
    judged-wrong {w} is told-as =
        let later = check_runs (run_count t - (r + 1)) t (suc r) in
        told-as
        ∙ sym (stands-alone w before later)
        ∙ ap (λ (b : ℕ). after_run b (Err w) later) j.counted
        ∙ ap (λ (k : Result (Unit {0}) Fault). after_run (records_before t r) k later) (sym is)
        ∙ sym (one-run l found)
        ∙ j.same

  -- all runs are right
  pub judged-end : {before r : ℕ} → Judging before r → run_count t ≤ r → Ok before ≡ check_runs (run_count t) t 0
  unfolding check_runs
  judged-end {before} {r} j l =
      let z : run_count t - r ≡ 0 = omega arith in
      ap Ok j.counted ∙ rw z at j.same

  -- the frame decides whether the runs are judged
  pub check-judged : {a : Result ℕ Refusal} → framed t ≡ true → a ≡ check_runs (run_count t) t 0 → a ≡ check_tray_answer t
  unfolding check_tray_answer
  check-judged y e = rw y e

  pub check-frame : framed t ≡ false → Err TrayFrame ≡ check_tray_answer t
  unfolding check_tray_answer
  check-frame n = rw n
