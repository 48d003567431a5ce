-- Worked cases of big-endian numbers. Each holds by computation.
use Rattle.std.specs.Prelude.{◌≡◌, refl, [], ◌∷◌}
use Rattle.number.specs.Big.{be, bytes_of, put}

-- the first of two bytes is the higher
pub two_bytes : be 2 (1 ∷ 2 ∷ []) 0 ≡ 258
unfolding be
two_bytes = refl

-- four bytes from a place inside a list
pub four-inside : be 4 (9 ∷ 0x12 ∷ 0x34 ∷ 0x56 ∷ 0x78 ∷ 9 ∷ []) 1 ≡ 0x12345678
unfolding be
four-inside = refl

-- the bytes of a number
pub four_bytes : bytes_of 4 0x12345678 ≡ 0x12 ∷ 0x34 ∷ 0x56 ∷ 0x78 ∷ []
unfolding bytes_of
four_bytes = refl

-- only the lowest bytes of a number that is too high
pub lowest : bytes_of 2 0x12345678 ≡ 0x56 ∷ 0x78 ∷ []
unfolding bytes_of
lowest = refl

-- what is written replaces as many bytes as it has
pub put-inside : put (1 ∷ 2 ∷ 3 ∷ 4 ∷ 5 ∷ []) 1 (7 ∷ 8 ∷ []) ≡ 1 ∷ 7 ∷ 8 ∷ 4 ∷ 5 ∷ []
unfolding put
put-inside = refl
