-- When fold gives which answer. That it does: `proofs/Fold/Answers.antt`.
use Rattle.refusal.specs.declared.Refusal.{Refusal}
use Rattle.std.specs.Prelude.{◌≡◌, ◌⊎◌, ℕ, ◌≤◌, ◌<◌, List, length, Ok, Err, Result}
use Rattle.refusal.specs.declared.Refusal.TheVariants.{TrayFrame, KeyOrder, RecordKind, IndexFrame, Segment, SegmentSize, Room, Bounds, PrefixEnd, Lost, Cursor, RunLength}
use Rattle.tray.specs.Frame.{run_count, Framed}
use Rattle.tray.specs.Check.{Sound}
use Rattle.tray.specs.Check.Theorems.{WrongKeyAt, WrongKindAt}
use Rattle.tray.specs.Meaning.{runs_of}
use Rattle.fold_spec.specs.Fold.{folded_run, fold_size}
use Rattle.fold_spec.specs.Fold.Laws.{InBounds}

module _ (t : List ℕ) (a b room : ℕ) where
  -- the table; the other numbers are never given
  unfoldable pub When : Result ℕ Refusal → Type 0
  When (Ok n) =
      Sound t × InBounds t a b × (length (folded_run a b (runs_of t)) ≤ 4096) × (fold_size a b (runs_of t) ≤ room) × (n ≡ fold_size a b (runs_of t))
  When (Err TrayFrame) = Framed t → ⊥
  When (Err (Bounds n)) = Framed t × (b < a ⊎ run_count t ≤ b) × (n ≡ b)
  When (Err (RecordKind n)) = InBounds t a b × WrongKindAt t n
  When (Err (KeyOrder n)) = InBounds t a b × WrongKeyAt t n
  When (Err (RunLength n)) = Sound t × InBounds t a b × (4096 < n) × (n ≡ length (folded_run a b (runs_of t)))
  When (Err (Room n)) =
      Sound t × InBounds t a b × (length (folded_run a b (runs_of t)) ≤ 4096) × (room < n) × (n ≡ fold_size a b (runs_of t))
  When (Err IndexFrame) = ⊥
  When (Err (Segment g)) = ⊥
  When (Err (SegmentSize d)) = ⊥
  When (Err (PrefixEnd n)) = ⊥
  When (Err (Lost g s)) = ⊥
  When (Err (Cursor g)) = ⊥
