-- What is known of the bytes of a slice, as facts on numbers that `omega` reads. The proofs of `big2` and `big4` cite it, and so does
-- whoever has a slice of bytes and needs `Bytes`.
--     bytes-known   what a slice of bytes gives at each place, as `Bytes`
--     Four, four    the four bytes from a place on
use mathlib.Core.Path.{◌≡◌, ap}
use mathlib.Core.List.{List}
use Prim.Native.Nat.{ℕ, ◌+◌, ◌<◌}
use native.Mathlib.Nat.{add-zero}
use lib.ListN.{get_or}
use mir.Syntax.{w8}
use mir.Val.{Fits}
use Rattle.number.specs.Big.{Bytes}

-- what a slice of bytes gives at each place
pub bytes-known : (s : List ℕ) → ((i : ℕ) → Fits w8 (get_or s i 0)) → Bytes s
bytes-known s h i = (h i).fits

-- each of four is a byte; the first stands at the place itself
pub record Four (s : List ℕ) (p : ℕ) : Type 0 where
  pub first : get_or s (p + 0) 0 ≡ get_or s p 0
  pub byte0 : get_or s (p + 0) 0 < 256
  pub byte1 : get_or s (p + 1) 0 < 256
  pub byte2 : get_or s (p + 2) 0 < 256
  pub byte3 : get_or s (p + 3) 0 < 256

pub four : (s : List ℕ) (p : ℕ) → ((i : ℕ) → Fits w8 (get_or s i 0)) → Four s p
four s p h =
    let b = bytes-known s h in
    record {
      first = ap (λ (i : ℕ). get_or s i 0) (add-zero p);
      byte0 = b (p + 0);
      byte1 = b (p + 1);
      byte2 = b (p + 2);
      byte3 = b (p + 3);
    }
