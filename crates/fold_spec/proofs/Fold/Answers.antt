-- Fold in the table's words (docs/RULES.md, "Refusals by number", in the order 1, 8, 3/2, 12, 7): each answer exactly when.
--     When                       the table: what each answer asks of the tray, the bounds and the room
--     fold-says                  fold gives an answer exactly when the table does
--     fold-written, fold-refuses-1, -8, -3, -2, -12, -7     its lines
use Rattle.refusal.specs.declared.Refusal.{Refusal}
use Rattle.std.specs.Prelude.{◌≡◌, refl, ◌↔◌, ◌⊎◌, ℕ, ◌≤◌, ◌<◌, true, false, List, length, leb, Ok, Err, Result}
use Rattle.std.proofs.Common.{ap, subst, ◌∙◌}
use Rattle.std.proofs.Math.Logic.{inl, inr}
use borrow.Author.Tests.{leb-true, leb-false, ltb-true, ltb-false, le-leb, lt-leb, lt-ltb, le-ltb}
use Rattle.refusal.specs.declared.Refusal.TheVariants.{TrayFrame, KeyOrder, RecordKind, IndexFrame, Segment, SegmentSize, Room, Bounds, PrefixEnd, Lost, Cursor, RunLength}
use Rattle.theory.specs.Tests.{split, cases, clash, and-true, and_left, and_right}
use Rattle.tray.specs.Frame.{run_count, records_before, framed, Framed}
use Rattle.tray.specs.Frame.Laws.{framed-fits, fits-framed}
use Rattle.tray.specs.Check.{check_tray_answer, Sound, Says, refused-1, refused-2, refused-3, records}
use Rattle.tray.proofs.Check.Laws.{says}
use Rattle.tray.specs.Check.Theorems.{WrongKeyAt, WrongKindAt}
use Rattle.tray.proofs.Check.Theorems.{answers-records, refuses-2, refuses-3}
use Rattle.tray.specs.Meaning.{runs_of}
use Rattle.fold_spec.specs.Fold.{folded_run, fold_size, bounds_hold, after_check, fold_answer}
use Rattle.fold_spec.specs.Fold.Laws.{InBounds}
use Rattle.fold_spec.specs.Fold.Answers.{When}

module _ (t : List ℕ) (a b room : ℕ) where
  -- the test of the bounds passes where they hold,
  holds : InBounds t a b → bounds_hold (run_count t) a b ≡ true
  unfolding bounds_hold
  holds h = and-true (le-leb _ _ h.order) (lt-ltb _ _ h.within)

  holds-in : bounds_hold (run_count t) a b ≡ true → InBounds t a b
  unfolding bounds_hold
  holds-in h = record { order = leb-true _ _ (and_left _ _ h); within = ltb-true _ _ (and_right (leb a b) _ h) }

  -- and fails where one of them does not
  fails : b < a ⊎ run_count t ≤ b → bounds_hold (run_count t) a b ≡ false
  unfolding bounds_hold
  fails (inl h) = rw (lt-leb a b h)
  fails (inr h) = cases (leb a b) (λ e. rw (e, le-ltb b (run_count t) h)) (λ e. rw e)

  fails-out : bounds_hold (run_count t) a b ≡ false → b < a ⊎ run_count t ≤ b
  unfolding bounds_hold
  fails-out h =
      cases (leb a b) (λ e. inr (ltb-false _ _ (rw e at h))) (λ e. inl (leb-false _ _ e))

  -- past the tests 1 and 8,
  past-bounds : Framed t → InBounds t a b → fold_answer t a b room ≡ after_check a b (runs_of t) room (check_tray_answer t)
  unfolding fold_answer
  past-bounds f h = rw (fits-framed t f, holds h)

  -- and past 3/2
  past-check : Sound t → InBounds t a b → fold_answer t a b room ≡ after_check a b (runs_of t) room (Ok (records_before t (run_count t)))
  past-check s h = past-bounds s.frame h ∙ ap (after_check a b (runs_of t) room) ((answers-records t _).1 (s, refl))

  -- the answer where the table gives it
  given : (x : Result ℕ Refusal) → When t a b room x → fold_answer t a b room ≡ x
  unfolding When after_check fold_answer
  given (Ok n) w = past-check w.0 w.1 ∙ rw (le-leb _ _ w.2, le-leb _ _ w.3, w.4)
  given (Err TrayFrame) w = cases (framed t) (λ f. absurd (w (framed-fits t f))) (λ f. rw f)
  given (Err (Bounds n)) w = rw (fits-framed t w.0, fails w.1, w.2)
  given (Err (RecordKind n)) w = past-bounds w.1.2.frame w.0 ∙ rw ((refuses-3 t n).1 w.1)
  given (Err (KeyOrder n)) w = past-bounds w.1.2.frame w.0 ∙ rw ((refuses-2 t n).1 w.1)
  given (Err (RunLength n)) w = past-check w.0 w.1 ∙ rw (lt-leb _ _ (subst (λ k. 4096 < k) w.3 w.2), w.3)
  given (Err (Room n)) w =
      past-check w.0 w.1 ∙ rw (le-leb _ _ w.2, lt-leb _ _ (subst (λ k. room < k) w.4 w.3), w.4)
  given (Err IndexFrame) w = absurd w
  given (Err (Segment g)) w = absurd w
  given (Err (SegmentSize d)) w = absurd w
  given (Err (PrefixEnd n)) w = absurd w
  given (Err (Lost g s)) w = absurd w
  given (Err (Cursor g)) w = absurd w

  -- what the table says of the answer after the check
  checked : {x : Result ℕ Refusal} → InBounds t a b → Says t x → When t a b room (after_check a b (runs_of t) room x)
  unfolding When after_check
  checked h (refused-1 x) = x
  checked h (refused-2 n r p f at before kind key) = (h, (r, p, record { frame = f; numbered = at; before = before }, kind, key))
  checked h (refused-3 n r p f at before kind) = (h, (r, p, record { frame = f; numbered = at; before = before }, kind))
  checked h (records s) =
      split (When t a b room) (leb (length (folded_run a b (runs_of t))) 4096)
      (λ short. split (When t a b room) (leb (fold_size a b (runs_of t)) room)
      (λ fits. (s, h, leb-true _ _ short, leb-true _ _ fits, refl)) (λ fits. (s, h, leb-true _ _ short, leb-false _ _ fits, refl)))
      (λ long. (s, h, leb-false _ _ long, refl))

  -- what the table says of the answer
  answered : When t a b room (fold_answer t a b room)
  unfolding When fold_answer
  answered =
      split (When t a b room) (framed t)
      (λ f. split (When t a b room) (bounds_hold (run_count t) a b) (λ h. checked (holds-in h) (says t)) (λ h. (framed-fits t f, fails-out h, refl)))
      (λ f g. clash (fits-framed t g) f)

  pub fold-says : (x : Result ℕ Refusal) → (fold_answer t a b room ≡ x) ↔ When t a b room x
  fold-says x = (λ e. subst (When t a b room) e answered, given x)

  -- written: the tray is sound, the bounds hold, the folded run is not too long and the room suffices; the answer is the bytes
  pub fold-written : (n : ℕ) → (fold_answer t a b room ≡ Ok n)
      ↔ (Sound t × InBounds t a b × (length (folded_run a b (runs_of t)) ≤ 4096) × (fold_size a b (runs_of t) ≤ room) × (n ≡ fold_size a b (runs_of t)))
  unfolding When
  fold-written n = fold-says (Ok n)

  -- 1: the tray breaks the header, count or length rules
  pub fold-refuses-1 : (fold_answer t a b room ≡ Err TrayFrame) ↔ (Framed t → ⊥)
  unfolding When
  fold-refuses-1 = fold-says (Err TrayFrame)

  -- 8: a > b or b ≥ H; the figure is b
  pub fold-refuses-8 : (n : ℕ) → (fold_answer t a b room ≡ Err (Bounds n)) ↔ (Framed t × (b < a ⊎ run_count t ≤ b) × (n ≡ b))
  unfolding When
  fold-refuses-8 n = fold-says (Err (Bounds n))

  -- 3: a kind above 1, or a gone record with a value; the figure is the record
  pub fold-refuses-3 : (n : ℕ) → (fold_answer t a b room ≡ Err (RecordKind n)) ↔ (InBounds t a b × WrongKindAt t n)
  unfolding When
  fold-refuses-3 n = fold-says (Err (RecordKind n))

  -- 2: a key that is not above the one before it in its run; the figure is the record
  pub fold-refuses-2 : (n : ℕ) → (fold_answer t a b room ≡ Err (KeyOrder n)) ↔ (InBounds t a b × WrongKeyAt t n)
  unfolding When
  fold-refuses-2 n = fold-says (Err (KeyOrder n))

  -- 12: the folded run is above 4,096 records; the figure is its count
  pub fold-refuses-12 : (n : ℕ) → (fold_answer t a b room ≡ Err (RunLength n))
      ↔ (Sound t × InBounds t a b × (4096 < n) × (n ≡ length (folded_run a b (runs_of t))))
  unfolding When
  fold-refuses-12 n = fold-says (Err (RunLength n))

  -- 7: the output is too short; the figure is the bytes needed
  pub fold-refuses-7 : (n : ℕ) → (fold_answer t a b room ≡ Err (Room n))
      ↔ (Sound t × InBounds t a b × (length (folded_run a b (runs_of t)) ≤ 4096) × (room < n) × (n ≡ fold_size a b (runs_of t)))
  unfolding When
  fold-refuses-7 n = fold-says (Err (Room n))
