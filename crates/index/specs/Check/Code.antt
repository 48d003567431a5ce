-- What the code of the check needs of the definitions: each law is a way out of a function, or a turn of its loop.
--     Scanning, scanning-starts, scanning-on     the loop over segments begins, and goes on after a right one
--     scanned-wrong, scanned-through, scanned-left    how it ends
--     judged-frame, judged-wrong         the frame decides
--     checked-tray, checked-index        the tray decides first
use Rattle.std.specs.Prelude.{◌≡◌, ℕ, suc, ◌+◌, ◌-◌, ◌≤◌, ◌<◌, Bool, List, Ok, Err, Result}
use Rattle.std.proofs.Math.Path.{refl, sym, ap}
use Rattle.std.proofs.Common.{◌∙◌}
use native.Mathlib.Omega.{arith}
use Rattle.std.proofs.Math.Nat.{sub-zero}
use Rattle.std.proofs.Math.Bool.{true, false}
use Rattle.refusal.specs.declared.Refusal.{Refusal}
use Rattle.refusal.specs.declared.Refusal.TheVariants.{IndexFrame, Segment}
use Rattle.tray.specs.Frame.{run_count}
use Rattle.tray.specs.Check.{check_tray_answer}
use Rattle.index.specs.Layout.{segment_at, index_framed}
use Rattle.index.specs.Layout.Code.{Laid}
use Rattle.index.specs.Scan.{Outcome, wrong, right, Scanned, wrong_at, through, used_up, segment_scan, scan_from}
use Rattle.index.specs.Scan.Code.{told}
use Rattle.index.specs.Check.{after_scan, none_read, judge_index, framed_index, after_tray, check_index_answer}

-- the segments from g on answer for all of them
pub record Scanning (t x : List ℕ) (h d n : ℕ) (places : List ℕ) (g : ℕ) : Type 0 where
  pub same : scan_from t h x d (n - g) g places ≡ scan_from t h x d n 0 none_read

pub scanning-starts : (t x : List ℕ) (h d n : ℕ) → Scanning t x h d n none_read 0
scanning-starts t x h d n = record { same = rw sub-zero }

-- what a segment came to, and those after it
after-segment : List ℕ → ℕ → List ℕ → ℕ → ℕ → ℕ → Outcome → Scanned
after-segment t h x d k g wrong = wrong_at g
after-segment t h x d k g (right places) = scan_from t h x d k (g + 1) places

one-segment : (t : List ℕ) (h : ℕ) (x : List ℕ) (d n g : ℕ) (places : List ℕ) → g < n
    → scan_from t h x d (n - g) g places ≡ after-segment t h x d (n - (g + 1)) g (segment_scan t h x d (segment_at h d g) places)
unfolding scan_from after-segment
one-segment t h x d n g places l =
    let z : n - g ≡ suc (n - (g + 1)) = omega arith in
    rw z (go (segment_scan t h x d (segment_at h d g) places))
  where
    go : (o : Outcome) → elim o [ wrong ↦ wrong_at g | right after ↦ scan_from t h x d (n - (g + 1)) (g + 1) after ] ≡ after-segment t h x d (n - (g + 1)) g o
    go wrong = refl
    go (right places') = refl

module _ {t x : List ℕ} {h d n : ℕ} {places : List ℕ} {g : ℕ} (s : Scanning t x h d n places g) where
  module _ (l : g < n) (ok : Bool) (places' : List ℕ) (seg : told ok places' ≡ segment_scan t h x d (segment_at h d g) places) where
    went : after-segment t h x d (n - (g + 1)) g (told ok places') ≡ scan_from t h x d n 0 none_read
    went = ap (after-segment t h x d (n - (g + 1)) g) seg ∙ sym (one-segment t h x d n g places l) ∙ s.same

    pub scanning-on : ok ≡ true → Scanning t x h d n places' (g + 1)
    unfolding after-segment told
    scanning-on e = record { same = rw e at went }

    scan-stopped : ok ≡ false → wrong_at g ≡ scan_from t h x d n 0 none_read
    unfolding after-segment told
    scan-stopped e = rw e at went

  scan-done : n ≤ g → through places ≡ scan_from t h x d n 0 none_read
  unfolding scan_from
  scan-done l = let z : n - g ≡ 0 = omega arith in rw z at s.same

-- the answer of the whole, as the loop leaves it
module _ (t : List ℕ) {x : List ℕ} {h d n : ℕ} (frame : Laid x h d n) (runs : h ≡ run_count t) where
  judged-by : {o : Scanned} → o ≡ scan_from t h x d n 0 none_read → after_scan t h n o ≡ judge_index t x
  unfolding judge_index
  judged-by e =
      ap (after_scan t h n) e
      ∙ (λ i. after_scan t (runs i) (frame.count i) (scan_from t (runs i) x (frame.size i) (frame.count i) 0 none_read))

  module _ {places : List ℕ} {g : ℕ} (s : Scanning t x h d n places g) where
    pub scanned-wrong : g < n → (ok : Bool) (places' : List ℕ) → told ok places' ≡ segment_scan t h x d (segment_at h d g) places → ok ≡ false
        → Err (Segment g) ≡ judge_index t x
    unfolding after_scan
    scanned-wrong l ok places' seg e = judged-by (scan-stopped s l ok places' seg e)

    module _ {b : Bool} (l : n ≤ g) (used : b ≡ used_up t places h) where
      pub scanned-through : b ≡ true → Ok n ≡ judge_index t x
      unfolding after_scan
      scanned-through e = sym (rw (sym used ∙ e)) ∙ judged-by (scan-done s l)

      pub scanned-left : b ≡ false → Err (Segment n) ≡ judge_index t x
      unfolding after_scan
      scanned-left e = sym (rw (sym used ∙ e)) ∙ judged-by (scan-done s l)

-- the frame decides
module _ (t x : List ℕ) {h : ℕ} (runs : h ≡ run_count t) where
  pub judged-frame : {a : Result ℕ Refusal} → index_framed h x ≡ true → a ≡ judge_index t x → a ≡ framed_index t x
  unfolding framed_index
  judged-frame f j = rw (← runs, f) j

  pub judged-wrong : index_framed h x ≡ false → Err IndexFrame ≡ framed_index t x
  unfolding framed_index
  judged-wrong f = rw (← runs, f)

-- the tray decides first
module _ (t x : List ℕ) {a : Result ℕ Refusal} (told-tray : a ≡ check_tray_answer t) where
  pub checked-tray : {r : Refusal} → a ≡ Err r → Err r ≡ check_index_answer t x
  unfolding check_index_answer after_tray
  checked-tray e = ap (after_tray t x) (sym e ∙ told-tray)

  pub checked-index : {n : ℕ} {b : Result ℕ Refusal} → a ≡ Ok n → b ≡ framed_index t x → b ≡ check_index_answer t x
  unfolding check_index_answer after_tray
  checked-index e j = j ∙ ap (after_tray t x) (sym e ∙ told-tray)
