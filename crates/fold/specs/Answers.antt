-- What the code of fold needs of its answers: each law is a way out of a function.
--     answer-long, answer-fits, answer-short      the answers for a sound tray and bounds that hold
--     leaves-tray, leaves-same                    what is left in the output
--     noted-folded                                the merge of the runs a to b is the folded run
--     one-run                                     one run folded is the tray as it is
--     answer-frame, -outside, -refused, -sound    the answers of fold
--     folding-is                                  what a tray that was checked is
use Rattle.std.specs.Prelude.{◌≡◌, ℕ, ◌≤◌, ◌<◌, true, false, List, length, take, Ok, Err, Result, ◌⊎◌}
use Rattle.std.proofs.Math.Path.{refl, sym}
use Rattle.std.proofs.Common.{ap, ◌∙◌, subst, ⊎_elim, arith}
use mathlib.Core.List.Memᴰ
use borrow.Author.Tests.{le-leb, lt-leb, lt-ltb, le-ltb}
use Rattle.number.specs.Big.{put, Bytes}
use Rattle.refusal.specs.declared.Refusal.{Refusal}
use Rattle.refusal.specs.declared.Refusal.TheVariants.{TrayFrame as FrameRefusal, Bounds, Room, RunLength}
use Rattle.theory.specs.Lists.{here}
use Rattle.theory.specs.Rising.{Mem}
use Rattle.theory.specs.Records.{Record, SoundRecord}
use Rattle.theory.specs.Hiding.{same_key}
use Rattle.theory.specs.Merge.{fold}
use Rattle.theory.proofs.Merge.Chains.{fold_same}
use Rattle.tray.specs.declared.Tray.{Tray}
use Rattle.tray.specs.Frame.{run_count, framed}
use Rattle.tray.specs.Check.{check_tray_answer}
use Rattle.tray.proofs.Check.Theorems.{answers-records}
use Rattle.tray.specs.Meaning.{runs_of}
use Rattle.tray.specs.Meaning.Laws.{length-runs_of, runs-good}
use Rattle.tray.specs.Meaning.Back.{fits-runs}
use Rattle.fold_spec.specs.Fold.{key_of, folded_run, folded_runs, fold_bytes, fold_size, bounds_hold, after_check, fold_answer, fold_leaves}
use Rattle.fold_spec.specs.Fold.Laws.{key_rule}
use Rattle.fold_spec.proofs.Fold.Laws.{length-fold_bytes, fold-copies}
use Rattle.fold_merge.specs.Folding.{Folding, Noted, merged_run}
use Rattle.fold_write.specs.Write.{sound_answer}

module _ (a b : ℕ) (t : List (List Record)) (room : ℕ) where
  pub answer-long : {n : ℕ} → n ≡ length (folded_run a b t) → 4096 < n → Err (RunLength n) ≡ sound_answer a b t room
  unfolding sound_answer
  answer-long {n} e l = rw (lt-leb (length (folded_run a b t)) 4096 (rw e at l), e)

  pub answer-fits : {n s : ℕ} → n ≡ length (folded_run a b t) → n ≤ 4096 → s ≡ fold_size a b t → s ≤ room → Ok s ≡ sound_answer a b t room
  unfolding sound_answer
  answer-fits e l f k = rw (le-leb (length (folded_run a b t)) 4096 (rw e at l), le-leb (fold_size a b t) room (rw f at k), f)

  pub answer-short : {n s : ℕ} → n ≡ length (folded_run a b t) → n ≤ 4096 → s ≡ fold_size a b t → room < s → Err (Room s) ≡ sound_answer a b t room
  unfolding sound_answer
  answer-short e l f k = rw (le-leb (length (folded_run a b t)) 4096 (rw e at l), lt-leb (fold_size a b t) room (rw f at k), f)

module _ (t out : List ℕ) (a b : ℕ) where
  pub leaves-tray : {out' : List ℕ} (n : ℕ) → out' ≡ put out 0 (fold_bytes a b (runs_of t)) → out' ≡ fold_leaves t a b out (Ok n)
  unfolding fold_leaves
  leaves-tray n e = e

  pub leaves-same : (r : Refusal) → out ≡ fold_leaves t a b out (Err r)
  unfolding fold_leaves
  leaves-same r = refl

-- the merge of the runs a to b is the folded run
pub noted-folded : (a b : ℕ) (rs : List (List Record)) {t kept : List ℕ} {n : ℕ} → Noted t (merged_run a b rs) kept n → Noted t (folded_run a b rs) kept n
unfolding merged_run folded_run
noted-folded a b rs w = w

-- one run folded is the tray
pub record OneRun (t : List ℕ) (a b : ℕ) : Type 0 where
  pub copy : t ≡ fold_bytes a b (runs_of t)
  pub size : length t ≡ fold_size a b (runs_of t)
  pub short : length (folded_run a b (runs_of t)) ≤ 4096

pub one-run : {tray : Tray} {a b : ℕ} → Folding tray a b → a ≡ b → OneRun tray.bytes.now a b
unfolding folded_runs folded_run fold
one-run {tray} {a} {b} g e =
    let t = tray.bytes.now in
    let bytes = g.bytes in
    let copy : fold_bytes a b (runs_of t) ≡ t = fold-copies g.sound bytes g.within e in
    let inside : b < length (runs_of t) = rw length-runs_of g.within in
    let same : folded_runs b b (runs_of t) ≡ runs_of t = fold_same key_of (same_key key_of) (key_rule SoundRecord) (runs-good g.sound) inside in
    let member : Mem (folded_run b b (runs_of t)) (runs_of t) =
    subst (Mem (folded_run b b (runs_of t))) same (Memᴰ.append_right (take b (runs_of t)) here) in
    record {
      copy = sym copy;
      size = ap length (sym copy) ∙ length-fold_bytes a b (runs_of t);
      short = rw e ((fits-runs g.sound.frame bytes).counts (folded_run b b (runs_of t)) member);
    }

module _ (t : List ℕ) (a b room : ℕ) where
  pub answer-frame : framed t ≡ false → Err FrameRefusal ≡ fold_answer t a b room
  unfolding fold_answer
  answer-frame e = rw e

  module _ (fit : framed t ≡ true) {h : ℕ} (runs-are : h ≡ run_count t) where
    pub answer-outside : (b < a) ⊎ ((a ≤ b) × (h ≤ b)) → Err (Bounds b) ≡ fold_answer t a b room
    unfolding fold_answer bounds_hold
    answer-outside x =
        ⊎_elim (λ l. rw (fit, lt-leb a b l))
        (λ p. let l : a ≤ b = p.0 in let m : run_count t ≤ b = omega (arith, p.1) in rw (fit, le-leb a b l, le-ltb b (run_count t) m)) x

    module _ (order : a ≤ b) (within : b < h) where
      past-bounds : fold_answer t a b room ≡ after_check a b (runs_of t) room (check_tray_answer t)
      unfolding fold_answer bounds_hold
      past-bounds = let l : b < run_count t = omega arith in rw (fit, le-leb a b order, lt-ltb b (run_count t) l)

      pub answer-refused : {r : Refusal} → Err r ≡ check_tray_answer t → Err r ≡ fold_answer t a b room
      unfolding after_check
      answer-refused e = sym (past-bounds ∙ rw (sym e))

      pub answer-sound : {n : ℕ} {r : Result ℕ Refusal} → Ok n ≡ check_tray_answer t → r ≡ sound_answer a b (runs_of t) room → r ≡ fold_answer t a b room
      unfolding after_check sound_answer
      answer-sound e q = q ∙ sym (past-bounds ∙ rw (sym e))

-- what a tray that was checked is, with bounds that hold
pub folding-is : (tray : Tray) {a b n : ℕ} → Bytes tray.bytes.now → a ≤ b → b < tray.runs → Ok n ≡ check_tray_answer tray.bytes.now → Folding tray a b
folding-is tray {n = n} bytes order within e =
    record { bytes = bytes; sound = ((answers-records tray.bytes.now n).0 (sym e)).0; order = order; within = omega (arith, tray.frame.runs) }
