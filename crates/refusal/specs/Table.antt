-- Number and figure of each refusal (docs/RULES.md, "Refusals by number").
use Rattle.std.specs.Prelude.{ℕ, ◌+◌, ◌*◌}
use Rattle.refusal.specs.declared.Refusal.{Refusal}
use Rattle.refusal.specs.declared.Refusal.TheVariants.{TrayFrame, KeyOrder, RecordKind, IndexFrame, Segment, SegmentSize, Room, Bounds, PrefixEnd, Lost, Cursor, RunLength}
use Rattle.refusal.specs.declared.Verdict.{Verdict}

-- a number with a figure
abbrev pub told : ℕ → ℕ → Verdict
told n f = record { number = n; figure = f }

-- where a walk is lost: segment × 128 + selector place
abbrev pub lost_figure : ℕ → ℕ → ℕ
lost_figure g s = g * 128 + s

-- the table
abbrev pub verdict_of : Refusal → Verdict
verdict_of TrayFrame = told 1 0
verdict_of (KeyOrder n) = told 2 n
verdict_of (RecordKind n) = told 3 n
verdict_of IndexFrame = told 4 0
verdict_of (Segment g) = told 5 g
verdict_of (SegmentSize d) = told 6 d
verdict_of (Room n) = told 7 n
verdict_of (Bounds n) = told 8 n
verdict_of (PrefixEnd n) = told 9 n
verdict_of (Lost g s) = told 10 (lost_figure g s)
verdict_of (Cursor g) = told 11 g
verdict_of (RunLength n) = told 12 n
