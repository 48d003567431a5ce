-- Big-endian numbers in lists of bytes (docs/FORMAT.md, "The tray": all numbers are big-endian; keys are compared as unsigned bytes).
-- The laws are in `proofs/Big/Laws.antt`, `Writes.antt` and `Order.antt`.
pub mod Copies
use Rattle.std.specs.Prelude.{ℕ, zero, suc, ◌+◌, ◌*◌, ◌/◌, ◌%◌, ◌<◌, ◌≡◌, List, [], ◌∷◌, ◌++◌, length, get_or, take, drop}

-- the number that the w bytes of s from place p on spell, the highest byte first
unfoldable pub be : ℕ → List ℕ → ℕ → ℕ
be zero s p = 0
be (suc w) s p = be w s p * 256 + get_or s (p + w) 0

-- the w lowest bytes of a number, the highest first
unfoldable pub bytes_of : ℕ → ℕ → List ℕ
bytes_of zero n = []
bytes_of (suc w) n = bytes_of w (n / 256) ++ (n % 256 ∷ [])

-- s with ys written from place p on, the rest as it is
unfoldable pub put : List ℕ → ℕ → List ℕ → List ℕ
put s p ys = take p s ++ (ys ++ drop (p + length ys) s)

-- every element is a byte
abbrev pub Bytes : List ℕ → Type 0
Bytes s = (i : ℕ) → get_or s i 0 < 256

-- keys are compared as unsigned bytes: at the first byte in which they differ
pub data Before : List ℕ → List ℕ → Type 0 where
  here : {a b : ℕ} {xs ys : List ℕ} → a < b → Before (a ∷ xs) (b ∷ ys)
  there : {a b : ℕ} {xs ys : List ℕ} → a ≡ b → Before xs ys → Before (a ∷ xs) (b ∷ ys)
