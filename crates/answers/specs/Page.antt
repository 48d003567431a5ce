-- What page answers, and what it leaves in the output, for every input (docs/RULES.md, "Orders": 1, 4, 11, 10). A page that gets lost keeps the
-- records already written, and its refusal carries their count too.
pub mod Hands
use Rattle.std.specs.Prelude.{ℕ, cond, List, Ok, Err}
use Rattle.refusal.specs.declared.Refusal.{Refusal}
use Rattle.refusal.specs.declared.Refusal.TheVariants.{Lost, Cursor as NotBelonging}
use Rattle.tray.specs.Frame.{run_count}
use Rattle.walk.specs.declared.cursor.Cursor.{Cursor}
use Rattle.walk.specs.Walk.{Spot, Walked, stayed, ended, lost}
use Rattle.walk.specs.Reads.{Written, end_spot, belongs, page}
use Rattle.walk.specs.Code.{spot_of}
use Rattle.answers.specs.Quick.{cursor_of, in_frames}
use Rattle.answers.specs.declared.Paged.{Paged}
use Rattle.answers.specs.declared.Rest.TheVariants.{More, End}

-- a page refused after it wrote k records, and one refused before it wrote any
abbrev pub refused_after : ℕ → Refusal → Paged
refused_after k r = record { count = k; rest = Err r }

abbrev pub refused_page : Refusal → Paged
refused_page r = refused_after 0 r

-- a walk's end as page's answer, for the index x
unfoldable pub page_told : List ℕ → Walked Written (Written × Spot) → Paged
page_told x (stayed w) = record { count = w.0.count; rest = Ok (More (cursor_of w.1)) }
page_told x (ended w) = record { count = w.count; rest = Ok (End (cursor_of (end_spot x))) }
page_told x (lost g s w) = refused_after w.count (Lost g s)

-- and what it leaves in the output
unfoldable pub page_left : Walked Written (Written × Spot) → List ℕ
page_left (stayed w) = w.0.out
page_left (ended w) = w.out
page_left (lost g s w) = w.out

-- page where both frames fit: 11, then the walk
unfoldable pub page_framed : List ℕ → List ℕ → Cursor → List ℕ → Paged
page_framed t x c out = cond (belongs (run_count t) x (spot_of c)) (page_told x (page t x (spot_of c) out)) (refused_page (NotBelonging c.segment.0))

unfoldable pub left_framed : List ℕ → List ℕ → Cursor → List ℕ → List ℕ
left_framed t x c out = cond (belongs (run_count t) x (spot_of c)) (page_left (page t x (spot_of c) out)) out

-- page: 1, then 4, then these
unfoldable pub page_answer : List ℕ → List ℕ → Cursor → List ℕ → Paged
page_answer t x c out = in_frames refused_page t x (page_framed t x c out)

-- what page leaves in the output: refused by 1, 4 or 11 it leaves what was there
unfoldable pub page_leaves : List ℕ → List ℕ → Cursor → List ℕ → List ℕ
page_leaves t x c out = in_frames (λ (r : Refusal). out) t x (left_framed t x c out)
