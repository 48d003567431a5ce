-- A cursor as 66 numbers of 16 bits: the segment's high and low half, the selector, and 63 places.
--     spot_in, cursor_in          the cursor that they stand for
--     cursor_numbers             the numbers of a cursor
pub mod Laws
use Rattle.std.specs.Prelude.{ℕ, ◌+◌, ◌*◌, ◌/◌, ◌%◌, List, ◌∷◌, get_or, drop}
use Rattle.walk.specs.declared.cursor.Cursor.{Cursor}
use Rattle.walk.specs.Walk.{Spot}
use Rattle.walk.specs.Code.{numbers}
use Rattle.answers.specs.Quick.{cursor_of}

unfoldable pub spot_in : List ℕ → Spot
spot_in ns = record { segment = get_or ns 0 0 * 65536 + get_or ns 1 0; selector = get_or ns 2 0; places = drop 3 ns }

unfoldable pub cursor_in : List ℕ → Cursor
cursor_in ns = cursor_of (spot_in ns)

unfoldable pub cursor_numbers : Cursor → List ℕ
cursor_numbers c = c.segment.0 / 65536 ∷ c.segment.0 % 65536 ∷ c.selector ∷ numbers c.places
