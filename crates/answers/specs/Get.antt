-- What get answers for every input (docs/RULES.md, "Orders": 1, 4, 10). Get is seek with an equal key asked for.
pub mod Code
use Rattle.std.specs.Prelude.{ℕ, List, Result, Ok, Err, Option, Some, None}
use Rattle.number.specs.Big.{be, bytes_of}
use Rattle.refusal.specs.declared.Refusal.{Refusal}
use Rattle.refusal.specs.declared.Refusal.TheVariants.{Lost}
use Rattle.walk.specs.Reads.{Got, value, absent, get-lost, get}
use Rattle.answers.specs.Quick.{in_frames}

-- the value of a key, none where it is absent, or why it is refused
abbrev pub Value : Type 0
Value = Result (Option (List ℕ)) Refusal

-- what get came to, as get's answer
unfoldable pub got_told : Got → Value
got_told (value v) = Ok (Some (bytes_of 16 v))
got_told absent = Ok None
got_told (get-lost g s) = Err (Lost g s)

-- get where both frames fit
unfoldable pub get_framed : List ℕ → List ℕ → ℕ → Value
get_framed t x key = got_told (get t x key)

-- get: 1, then 4, then the walk
unfoldable pub get_answer : List ℕ → List ℕ → List ℕ → Value
get_answer t x key = in_frames Err t x (get_framed t x (be 8 key 0))
