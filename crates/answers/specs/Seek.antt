-- What seek answers for every input (docs/RULES.md, "Orders": 1, 4, 10).
pub mod Hands
use Rattle.std.specs.Prelude.{ℕ, List, Result, Ok, Err}
use Rattle.number.specs.Big.{be}
use Rattle.refusal.specs.declared.Refusal.{Refusal}
use Rattle.refusal.specs.declared.Refusal.TheVariants.{Lost}
use Rattle.answers.specs.declared.Stand.{Stand}
use Rattle.answers.specs.declared.Stand.TheVariants.{Found, End}
use Rattle.walk.specs.Walk.{Walked, stayed, ended, lost}
use Rattle.walk.specs.Reads.{seek, end_spot}
use Rattle.answers.specs.Quick.{cursor_of, in_frames}

-- a walk's end as the answer of seek or next, for the index x
unfoldable pub seek_told : List ℕ → Walked ℕ Rattle.walk.specs.Reads.Found → Result Stand Refusal
seek_told x (stayed f) = Ok (Found (record { 0 = f.run }) (record { 0 = f.place }) (cursor_of f.spot))
seek_told x (ended st) = Ok (End (cursor_of (end_spot x)))
seek_told x (lost g s st) = Err (Lost g s)

-- seek where both frames fit
unfoldable pub seek_framed : List ℕ → List ℕ → ℕ → Result Stand Refusal
seek_framed t x key = seek_told x (seek t x key)

-- seek: 1, then 4, then the walk
unfoldable pub seek_answer : List ℕ → List ℕ → List ℕ → Result Stand Refusal
seek_answer t x key = in_frames Err t x (seek_framed t x (be 8 key 0))
