-- When build gives which answer, and what it leaves. That it does: `proofs/Build/Answers.antt`.
use Rattle.refusal.specs.declared.Refusal.{Refusal}
use Rattle.std.specs.Prelude.{◌≡◌, ℕ, ◌≤◌, ◌<◌, List, take, drop, Ok, Err, Result}
use Rattle.std.proofs.Math.ListN.{length}
use Rattle.refusal.specs.declared.Refusal.TheVariants.{TrayFrame, KeyOrder, RecordKind, IndexFrame, Segment, SegmentSize, Room, Bounds, PrefixEnd, Lost, Cursor, RunLength}
use Rattle.tray.specs.Frame.{run_count, Framed}
use Rattle.tray.specs.Check.{Sound}
use Rattle.tray.specs.Check.Theorems.{WrongKeyAt, WrongKindAt}
use Rattle.tray.specs.Meaning.{runs_of}
use Rattle.build_spec.specs.Build.{index_bytes, index_size}
use Rattle.build_spec.specs.Build.Theorems.{SizeFits}

module _ (t : List ℕ) where
  -- the tray is sound, D fits it, and its index has n bytes
  pub record Builds (d n : ℕ) : Type 0 where
    pub sound : Sound t
    pub size : SizeFits (run_count t) d
    pub bytes : n ≡ index_size d (runs_of t)

  module _ (d room : ℕ) where
    -- the table for build, in its order 1, 6, 3/2, 7: when each answer is given; the other refusals never are
    abbrev pub When : Result ℕ Refusal → Type 0
    When (Err TrayFrame) = Framed t → ⊥
    When (Err (SegmentSize n)) = Framed t × (SizeFits (run_count t) d → ⊥) × (n ≡ d)
    When (Err (RecordKind n)) = SizeFits (run_count t) d × WrongKindAt t n
    When (Err (KeyOrder n)) = SizeFits (run_count t) d × WrongKeyAt t n
    When (Err (Room n)) = Builds d n × (room < n)
    When (Ok n) = Builds d n × (n ≤ room)
    When (Err IndexFrame) = ⊥
    When (Err (Segment n)) = ⊥
    When (Err (Bounds n)) = ⊥
    When (Err (PrefixEnd n)) = ⊥
    When (Err (Lost g s)) = ⊥
    When (Err (Cursor n)) = ⊥
    When (Err (RunLength n)) = ⊥

  -- what is left in an output where the n bytes of the index were written
  pub record Leaves (d : ℕ) (out : List ℕ) (n : ℕ) (left : List ℕ) : Type 0 where
    pub front : take n left ≡ index_bytes d (runs_of t)
    pub behind : drop n left ≡ drop n out
    pub long : length left ≡ length out
