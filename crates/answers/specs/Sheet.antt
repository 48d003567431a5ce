-- What sheet answers, and what it leaves in the output, for every input (docs/RULES.md, "Orders": 1, 4, 8, 9, 10, 7). It writes nothing unless all is
-- well.
mod Cases
use Rattle.refusal.specs.declared.Refusal.{Refusal}
use Rattle.std.specs.Prelude.{ℕ, ◌-◌, ◌*◌, Bool, cond, ◌&&◌, List, length, get_or, eqb, leb, Ok, Err, Result}
use Rattle.number.specs.Big.{put}
use Rattle.refusal.specs.declared.Refusal.TheVariants.{Lost, Room, Bounds, PrefixEnd}
use Rattle.theory.specs.Records.{Record}
use Rattle.walk.specs.Walk.{Walked, stayed, ended, lost}
use Rattle.walk.specs.Reads.{sheet}
use Rattle.walk.specs.Reads.Page.{listing}
use Rattle.answers.specs.Quick.{in_frames}

-- a prefix of 1 to 8 bytes
unfoldable pub prefix_long : List ℕ → Bool
prefix_long prefix = leb 1 (length prefix) && leb (length prefix) 8

-- its last byte is 255
unfoldable pub prefix_last : List ℕ → Bool
prefix_last prefix = eqb (get_or prefix (length prefix - 1) 0) 255

-- these records are listed, where the output has room for them
unfoldable pub listed_in : ℕ → List Record → Result ℕ Refusal
listed_in room es = cond (leb (24 * length es) room) (Ok (length es)) (Err (Room (24 * length es)))

-- a walk's end as sheet's answer: 10, then 7
unfoldable pub sheet_told : ℕ → Walked (List Record) (List Record) → Result ℕ Refusal
sheet_told room (stayed es) = listed_in room es
sheet_told room (ended es) = listed_in room es
sheet_told room (lost g s es) = Err (Lost g s)

-- the records that a walk came to
unfoldable pub records_of : Walked (List Record) (List Record) → List Record
records_of (stayed es) = es
records_of (ended es) = es
records_of (lost g s es) = es

-- sheet where both frames fit: 8, then 9, then the walk
unfoldable pub sheet_framed : List ℕ → List ℕ → List ℕ → ℕ → Result ℕ Refusal
sheet_framed t x prefix room =
    let walked = sheet_told room (sheet t x prefix) in
    cond (prefix_long prefix) (cond (prefix_last prefix) (Err (PrefixEnd (length prefix))) walked) (Err (Bounds (length prefix)))

-- sheet: 1, then 4, then these
unfoldable pub sheet_answer : List ℕ → List ℕ → List ℕ → ℕ → Result ℕ Refusal
sheet_answer t x prefix room = in_frames Err t x (sheet_framed t x prefix room)

-- what sheet leaves in the output: the listing at its front where it was written, and else what was there
unfoldable pub sheet_leaves : List ℕ → List ℕ → List ℕ → List ℕ → Result ℕ Refusal → List ℕ
sheet_leaves t x prefix out (Ok n) = put out 0 (listing (records_of (sheet t x prefix)))
sheet_leaves t x prefix out (Err r) = out
