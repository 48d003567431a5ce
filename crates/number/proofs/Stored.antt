-- What the stores of `put2` and `put4` leave is `put` of the number's bytes.
--     stored             one law over the width
--     bytes_2, bytes_4   the bytes as each of them computes them
use mathlib.Core.Path.{◌≡◌, sym, ap, ◌∙◌}
use mathlib.Core.List.{List, [], ◌∷◌}
use Prim.Native.Nat.{ℕ, ◌+◌, ◌/◌, ◌%◌, ◌≤◌, ◌<◌}
use native.Mathlib.Nat.{div-div-eq-div-mul}
use native.Mathlib.Omega.{arith}
use lib.ListN.{length}
use lib.Seq.{sets}
use Rattle.number.specs.Big.{bytes_of, put}
use Rattle.number.proofs.Big.Laws.{length-bytes_of, bytes_of-high}
use Rattle.number.proofs.Big.Writes.{put-sets}

-- bytes stored one by one
pub stored : (s : List ℕ) (p w n : ℕ) {ys : List ℕ}
    → bytes_of w n ≡ ys → p + w ≤ length s → sets s p ys ≡ put s p (bytes_of w n)
stored s p w n {ys} e h = put-sets s p ys (omega (arith, ap length e, length-bytes_of w n)) ∙ ap (put s p) (sym e)

-- the bytes of a number of so many bytes, each as the code computes it
pub bytes_2 : (n : ℕ) → n < 65536 → bytes_of 2 n ≡ n / 256 ∷ n % 256 ∷ []
unfolding bytes_of
bytes_2 n h = bytes_of-high 1 n h

pub bytes_4 : (n : ℕ) → n < 4294967296
    → bytes_of 4 n ≡ n / 0x1000000 ∷ n / 0x10000 % 256 ∷ n / 0x100 % 256 ∷ n % 256 ∷ []
unfolding bytes_of
bytes_4 n h = bytes_of-high 3 n h ∙ simp div-div-eq-div-mul
