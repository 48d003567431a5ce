-- The records of one run, given as its own bytes (docs/FORMAT.md, "The tray": a record has 25 bytes: key 8, kind 1, value 16), and which
-- record is wrong first: 3 before 2 at one record.
pub mod Code
pub mod Laws
use Rattle.std.specs.Prelude.{ℕ, zero, suc, ◌+◌, ◌*◌, Bool, false, cond, ◌&&◌, ◌||◌, List, get_or, leb, ltb, eqb, Ok, Err, Result}
use Rattle.number.specs.Big.{be}
use Rattle.theory.specs.Records.{Record}
use Rattle.tray.specs.declared.Place.{Place}
use Rattle.tray.specs.declared.Fault.{Fault}
use Rattle.tray.specs.declared.Fault.TheVariants.{WrongKind, WrongKey}

-- the record that starts at a byte
unfoldable pub record_from : List ℕ → ℕ → Record
record_from s at = record { key = be 8 s at; kind = get_or s (at + 8) 0; value = be 16 s (at + 9) }

-- the record at a place of the run
abbrev pub record_at : List ℕ → ℕ → Record
record_at run p = record_from run (25 * p)

-- kind above 1, or a gone record with a value
unfoldable pub kind_wrong : Record → Bool
kind_wrong e = ltb 1 e.kind || (eqb e.kind 1 && ltb 0 e.value)

-- a key that is not above the one before it in its run
unfoldable pub key_wrong : List ℕ → ℕ → Bool
key_wrong run zero = false
key_wrong run (suc p) = leb (record_at run (suc p)).key (record_at run p).key

-- a place
abbrev pub place : ℕ → Place
place p = record { 0 = p }

-- the first wrong one of the n records from place p on
unfoldable pub judge_from : ℕ → List ℕ → ℕ → Result (Unit {0}) Fault
judge_from zero run p = Ok tt
judge_from (suc n) run p =
    let next = judge_from n run (suc p) in
    cond (kind_wrong (record_at run p)) (Err (WrongKind (place p))) (cond (key_wrong run p) (Err (WrongKey (place p))) next)

-- the first wrong record of a run of n
abbrev pub judge_run : ℕ → List ℕ → Result (Unit {0}) Fault
judge_run n run = judge_from n run 0
