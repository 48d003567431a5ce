-- Check index's answer is what the table says, and only that.
--     says          check index's answer is one that the table gives
--     says-check    whatever the table gives is check index's answer
--     says-one      so the table gives one answer
--     check-says    and check index gives an answer exactly when the table does
use Rattle.refusal.specs.declared.Refusal.{Refusal}
use Rattle.std.specs.Prelude.{◌≡◌, ◌↔◌, true, false, cond, List, [], ◌++◌, take, Ok, Err, Result}
use Rattle.std.proofs.Math.Path.{refl, sym, ap}
use Rattle.std.proofs.Common.{◌∙◌, subst, subst₂, zero-add, add-zero, le_refl, append-nil}
use Prim.Native.Nat.{ℕ, suc, ◌+◌, ◌-◌, ◌≤◌}
use native.Mathlib.Omega.{arith}
use Rattle.refusal.specs.declared.Refusal.TheVariants.{IndexFrame, Segment}
use Rattle.theory.specs.Tests.{split, cases, clash}
use Rattle.theory.specs.View.{view}
use Rattle.tray.specs.Frame.{run_count, records_before}
use Rattle.tray.specs.Check.{check_tray_answer, Sound}
use Rattle.tray.proofs.Check.Theorems.{answers-records}
use Rattle.tray.specs.Meaning.{runs_of}
use Rattle.index.specs.Layout.{size_of, segment_count, segment_of, segments_of, IndexFramed, index_framed}
use Rattle.index.specs.Layout
use Rattle.index.specs.Layout.Laws.{index-fits, fits-index, take-listed, listed-some}
use Rattle.index.specs.Rules.{key_of, Item, Right, Follows, Accepted, FirstWrong, LeftOver}
use Rattle.index.specs.Rules.Cuts.{Cut, cut-start}
use Rattle.index.specs.Scan.{Scanned, wrong_at, through, used_up, scan_from}
use Rattle.index.specs.Scan.Places.{places_of, places_of-none}
use Rattle.index.specs.Scan.Heads.{used-none, none-used}
use Rattle.index.specs.Scan.All.{Comes, stops, passes, scan-comes, follows-scan, wrong-scan}
use Rattle.index.specs.Check.{framed_index, after_scan, judge_index, after_tray, check_index_answer, Says, refused-tray, refused-4, refused-5, left_over, accepted}

module _ (t x : List ℕ) where
  -- the index's segments
  abbrev segments : List Layout.Segment
  segments = segments_of (run_count t) x

  -- segments that are right one after the other from the start
  abbrev Right-on : List Layout.Segment → List Item → List Item → Type 0
  Right-on ss b w = Follows (runs_of t) ss [] (view key_of (runs_of t)) b w

  -- the scan of the whole index
  abbrev scanned : Scanned
  scanned = scan_from t (run_count t) x (size_of x) (segment_count x) 0 (places_of [])

  -- the answer after it
  abbrev answer : Scanned → Result ℕ Refusal
  answer o = after_scan t (run_count t) (segment_count x) o

  judge-is : judge_index t x ≡ answer scanned
  unfolding judge_index
  judge-is = ap (λ l. answer (scan_from t (run_count t) x (size_of x) (segment_count x) 0 l)) (sym places_of-none)

  module _ (sound : Sound t) (fits : IndexFramed (run_count t) x) where
    -- a segment has a selector
    some-selector : 1 ≤ size_of x
    some-selector = omega (arith, fits.least, sound.frame.some-run)

    -- where all has been read, the index is accepted
    all_read : {b w : List Item} → Right-on segments b w → Cut (runs_of t) b w
        → used_up t (places_of b) (run_count t) ≡ true → Accepted (runs_of t) segments
    all_read {b} f cut used =
        let none = used-none sound b cut used in
        let all = sym (append-nil b) ∙ ap (λ l. b ++ l) (sym none) ∙ sym cut.whole in
        subst₂ (Right-on segments) all none f

    -- else records are left over
    some_left : {b w : List Item} → Cut (runs_of t) b w → used_up t (places_of b) (run_count t) ≡ false → w ≡ [] → ⊥
    some_left {b} cut not-used e = clash (none-used sound b (subst (Cut (runs_of t) b) e cut)) not-used

    -- what the scan came to is a line of the table
    says-scan : {o : Scanned} → Comes (runs_of t) segments 0 [] (view key_of (runs_of t)) o → Says t x (answer o)
    unfolding after_scan
    says-scan (stops n m {s} {behind} {left} e at f nothing) =
        let same : n ≡ m = omega arith in
        refused-5 m sound fits (subst (FirstWrong (runs_of t) segments) same
        (record { segment = s; stands = at; behind = behind; left = left; right-before = f; not_right = nothing }))
    says-scan (passes {b' = b} {w' = w} f cut) =
        split (Says t x) (used_up t (places_of b) (run_count t)) (λ y. accepted sound fits (all_read f cut y))
        (λ n. left_over sound fits (record { behind = b; left = w; right-all = f; some_left = some_left cut n }))

    says-judged : Says t x (judge_index t x)
    unfolding segments_of
    says-judged =
        rw judge-is (says-scan (scan-comes sound x (size_of x) some-selector (segment_count x) 0 (cut-start (runs_of t))))

  pub says : Says t x (check_index_answer t x)
  unfolding check_index_answer after_tray framed_index
  says = go (check_tray_answer t) refl
    where
      go : (a : Result ℕ Refusal) → check_tray_answer t ≡ a → Says t x (after_tray t x a)
      go (Err r) e = refused-tray r e
      go (Ok n) e =
          let sound = ((answers-records t n).0 e).0 in
          split (Says t x) (index_framed (run_count t) x) (λ y. says-judged sound (index-fits (run_count t) x y))
          (λ y. refused-4 sound (λ f. clash (fits-index (run_count t) x f) y))

  check_sound : Sound t → check_index_answer t x ≡ cond (index_framed (run_count t) x) (judge_index t x) (Err IndexFrame)
  unfolding check_index_answer after_tray framed_index
  check_sound sound = ap (after_tray t x) ((answers-records t (records_before t (run_count t))).1 (sound, refl))

  check-frame : Sound t → (IndexFramed (run_count t) x → ⊥) → check_index_answer t x ≡ Err IndexFrame
  check-frame sound f =
      check_sound sound
      ∙ cases (index_framed (run_count t) x) (λ y. absurd (f (index-fits (run_count t) x y))) (λ n. rw n)

  -- the segments are as many as the index says
  all-taken : take (segment_count x) segments ≡ segments
  unfolding segments_of
  all-taken = take-listed (segment_count x) (segment_count x) 0 (segment_of (run_count t) x) (le_refl (segment_count x))

  module _ (sound : Sound t) (fits : IndexFramed (run_count t) x) where
    check-judged : {o : Scanned} → scanned ≡ o → check_index_answer t x ≡ answer o
    check-judged e = check_sound sound ∙ rw (fits-index (run_count t) x fits) (judge-is ∙ ap answer e)

    -- the first n segments are right one after the other, and j come after them
    scan-past : (n j : ℕ) {b w : List Item} → segment_count x ≡ n + j → Right-on (take n segments) b w
        → (scanned ≡ scan_from t (run_count t) x (size_of x) j n (places_of b)) × Cut (runs_of t) b w
    unfolding segments_of
    scan-past n j e f =
        follows-scan sound x (size_of x) (some-selector sound fits) n j (segment_count x) 0 n e (omega arith)
        (cut-start (runs_of t)) (rw (take-listed n (segment_count x) 0 (segment_of (run_count t) x) (omega arith)) at f)

    scan-stops : (n : ℕ) → FirstWrong (runs_of t) segments n → scanned ≡ wrong_at n
    unfolding segments_of
    scan-stops n v =
        let at = listed-some (segment_count x) 0 (segment_of (run_count t) x) n v.stands in
        let this = ap (segment_of (run_count t) x) (sym (zero-add n)) ∙ sym at.1 in
        let past = scan-past n (suc (segment_count x - suc n)) (omega (arith, at.0)) v.right-before in
        past.0
        ∙ wrong-scan sound x (size_of x) (some-selector sound fits) past.1 n _
        (λ own w p r. v.not_right own w p (subst (λ s. Right (runs_of t) s v.behind own w) this r))

    scan-ends : {b w : List Item} → Right-on segments b w → (scanned ≡ through (places_of b)) × Cut (runs_of t) b w
    unfolding scan_from
    scan-ends f = scan-past (segment_count x) 0 (sym (add-zero (segment_count x))) (rw all-taken f)

    check-left : LeftOver (runs_of t) segments → check_index_answer t x ≡ Err (Segment (segment_count x))
    unfolding after_scan
    check-left v =
        let end = scan-ends v.right-all in
        check-judged end.0
        ∙ cases (used_up t (places_of v.behind) (run_count t))
        (λ y. absurd (v.some_left (used-none sound v.behind end.1 y))) (λ n. rw n)

    check-accepted : Accepted (runs_of t) segments → check_index_answer t x ≡ Ok (segment_count x)
    unfolding after_scan
    check-accepted f =
        let end = scan-ends f in check-judged end.0 ∙ rw (none-used sound (view key_of (runs_of t)) end.1)

  pub says-check : {a : Result ℕ Refusal} → Says t x a → check_index_answer t x ≡ a
  unfolding check_index_answer after_tray framed_index after_scan
  says-check (refused-tray r e) = ap (after_tray t x) e
  says-check (refused-4 sound f) = check-frame sound f
  says-check (refused-5 n sound fits v) = check-judged sound fits (scan-stops sound fits n v)
  says-check (left_over sound fits v) = check-left sound fits v
  says-check (accepted sound fits f) = check-accepted sound fits f

  pub says-one : {a b : Result ℕ Refusal} → Says t x a → Says t x b → a ≡ b
  says-one a b = sym (says-check a) ∙ says-check b

  -- check index gives an answer exactly when the table does
  pub check-says : (a : Result ℕ Refusal) → (check_index_answer t x ≡ a) ↔ Says t x a
  check-says a = (λ e. subst (Says t x) e says, λ s. says-check s)
