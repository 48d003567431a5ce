-- What next answers for every input (docs/RULES.md, "Orders": 1, 4, 11, 10; from the end it gives the end).
pub mod Hands
use Rattle.std.specs.Prelude.{ℕ, cond, List, Result, Ok, Err}
use Rattle.refusal.specs.declared.Refusal.{Refusal}
use Rattle.refusal.specs.declared.Refusal.TheVariants.{Cursor as NotBelonging}
use Rattle.tray.specs.declared.Place.{Place}
use Rattle.tray.specs.Frame.{run_count}
use Rattle.walk.specs.declared.cursor.Cursor.{Cursor}
use Rattle.answers.specs.declared.Stand.{Stand}
use Rattle.answers.specs.declared.Stand.TheVariants.{Found}
use Rattle.walk.specs.Reads.{belongs, next}
use Rattle.walk.specs.Code.{spot_of}
use Rattle.answers.specs.Quick.{in_frames}
use Rattle.answers.specs.Seek.{seek_told}

-- next where both frames fit: 11, then the walk
unfoldable pub next_framed : List ℕ → List ℕ → Cursor → Result Stand Refusal
next_framed t x c = cond (belongs (run_count t) x (spot_of c)) (seek_told x (next t x (spot_of c))) (Err (NotBelonging c.segment.0))

-- next: 1, then 4, then these
unfoldable pub next_answer : List ℕ → List ℕ → Cursor → Result Stand Refusal
next_answer t x c = in_frames Err t x (next_framed t x c)

-- a record found, as the code hands it over
abbrev pub found_next : ℕ → ℕ → List Place → ℕ → Place → Result Stand Refusal
found_next g s places v p = Ok (Found (record { 0 = v }) p (record { segment = record { 0 = g }; selector = s; places = places }))
