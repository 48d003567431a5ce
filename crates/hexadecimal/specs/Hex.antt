-- Lower-case hexadecimal (docs/DRAWER.md, "The program `drawer`": one frame a line, lower-case hexadecimal).
pub mod Code
pub mod Laws
use Rattle.std.specs.Prelude.{ℕ, ◌+◌, ◌-◌, ◌*◌, ◌/◌, ◌%◌, Bool, cond, ◌&&◌, ◌||◌, List, [], ◌∷◌, length, get_or, leb, ltb}
use Rattle.theory.specs.Listed.{listed}

-- a digit: 0 to 9, or a to f
unfoldable pub is_digit : ℕ → Bool
is_digit c = (leb 48 c && leb c 57) || (leb 97 c && leb c 102)

-- its number
unfoldable pub digit_of : ℕ → ℕ
digit_of c = cond (leb c 57) (c - 48) (c - 87)

-- the digit of a number below 16
unfoldable pub digit : ℕ → ℕ
digit n = cond (ltb n 10) (48 + n) (87 + n)

-- every character is a digit
unfoldable pub all_digits : List ℕ → Bool
all_digits [] = Bool.true
all_digits (c ∷ cs) = is_digit c && all_digits cs

-- the bytes that a line of digits spells, two digits a byte
unfoldable pub bytes_in : List ℕ → List ℕ
bytes_in line = listed (length line / 2) 0 (λ i. digit_of (get_or line (2 * i) 0) * 16 + digit_of (get_or line (2 * i + 1) 0))

-- bytes as digits
unfoldable pub hex_of : List ℕ → List ℕ
hex_of [] = []
hex_of (b ∷ bs) = digit (b / 16) ∷ digit (b % 16) ∷ hex_of bs
