use Rattle.std.specs.Prelude.{◌≡◌, true}
use Rattle.index.specs.Scan.Code.{same_to}
use Rattle.walk.specs.Code.{numbers}
use Rattle.walk_cursor.specs.Standing.{wanted_at}
use Rattle.walk_cursor.proofs.places_hold.Given as goal

abbrev pub invariant-loop-r : goal.invariant-loop-r
invariant-loop-r l = same_to (numbers l.places) (wanted_at l.index.runs l.index.bytes.now l.at l.seen) l.r ≡ true
