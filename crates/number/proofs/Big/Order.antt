-- The order of keys as unsigned bytes is the order of their numbers, over the width.
--     before-lt     a key that comes before another has the lower number
--     lt-before     a key with the lower number comes before
--     same_number   keys with the same number are the same
--     key-order     the order of keys, which are 8 bytes
use Rattle.std.specs.Prelude.{◌≡◌, refl, ◌↔◌, Bool, true, false, List, [], ◌∷◌, ℕ, zero, suc, ◌+◌, ◌*◌, ◌^◌, ◌<◌, length, ltb}
use Rattle.std.proofs.Common.{sym, ap, ◌∙◌, suc-mul, mul-le-mul_right, arith, ltb-true, ltb-false}
use Rattle.std.proofs.Math.Nat.{suc_inj}
use Rattle.number.specs.Big.{be, bytes_of, Bytes, Before}
use Rattle.number.specs.Big.Before.{here, there}
use Rattle.number.proofs.Big.Laws.{be-cons, be-bound, bytes_of-whole}

-- a lower first byte decides, whatever follows
first-decides : {a b n x : ℕ} (y : ℕ) → a < b → x < n → a * n + x < b * n + y
first-decides {a} {b} {n} {x} y h l = omega (arith, rw suc-mul at (mul-le-mul_right n h))

-- a key that comes before another has the lower number
pub before-lt : (w : ℕ) {xs ys : List ℕ} → Bytes xs → Bytes ys → length xs ≡ w → length ys ≡ w
    → Before xs ys → be w xs 0 < be w ys 0
before-lt zero bx by lx ly (here h) = absurd (omega arith)
before-lt zero bx by lx ly (there e h) = absurd (omega arith)
before-lt (suc w) bx by lx ly (here {xs = xs} {ys = ys} h) =
    simp be-cons (first-decides (be w ys 0) h (be-bound w xs 0 (λ i. bx (suc i))))
before-lt (suc w) bx by lx ly (there e h) =
    let l = before-lt w (λ i. bx (suc i)) (λ i. by (suc i)) (suc_inj lx) (suc_inj ly) h in
    simp be-cons (rw e (omega arith))

-- the first byte decides, or what follows does
by_first : (w a b : ℕ) (xs ys : List ℕ) → Bytes ys → (be w xs 0 < be w ys 0 → Before xs ys)
    → a * 256 ^ w + be w xs 0 < b * 256 ^ w + be w ys 0 → Before (a ∷ xs) (b ∷ ys)
by_first w a b xs ys by more h = go (ltb a b) refl (ltb b a) refl
  where
    go : (t : Bool) → ltb a b ≡ t → (u : Bool) → ltb b a ≡ u → Before (a ∷ xs) (b ∷ ys)
    go true e u f = here (ltb-true a b e)
    go false e true f = absurd (omega (arith, first-decides (be w xs 0) (ltb-true b a f) (be-bound w ys 0 by)))
    go false e false f =
        let same : a ≡ b = omega (arith, ltb-false a b e, ltb-false b a f) in
        there same (more (omega (arith, ap (λ (n : ℕ). n * 256 ^ w) same)))

-- a key with the lower number comes before
pub lt-before : (w : ℕ) {xs ys : List ℕ} → Bytes xs → Bytes ys → length xs ≡ w → length ys ≡ w
    → be w xs 0 < be w ys 0 → Before xs ys
lt-before zero {xs} {ys} bx by lx ly h = absurd (omega (arith, be-bound 0 ys 0 by))
lt-before (suc w) {xs = []} {ys} bx by lx ly h = absurd (omega arith)
lt-before (suc w) {xs = a ∷ xs} {ys = []} bx by lx ly h = absurd (omega arith)
lt-before (suc w) {xs = a ∷ xs} {ys = b ∷ ys} bx by lx ly h =
    by_first w a b xs ys (λ i. by (suc i))
    (lt-before w (λ i. bx (suc i)) (λ i. by (suc i)) (suc_inj lx) (suc_inj ly))
    (rw (← be-cons w a xs, ← be-cons w b ys) h)

-- keys with the same number are the same
pub same_number : (w : ℕ) {xs ys : List ℕ} → Bytes xs → Bytes ys → length xs ≡ w → length ys ≡ w
    → be w xs 0 ≡ be w ys 0 → xs ≡ ys
same_number w bx by lx ly e = sym (bytes_of-whole w bx lx) ∙ ap (bytes_of w) e ∙ bytes_of-whole w by ly

-- the order of keys, which are 8 bytes
pub key-order : {xs ys : List ℕ} → Bytes xs → Bytes ys → length xs ≡ 8 → length ys ≡ 8
    → Before xs ys ↔ (be 8 xs 0 < be 8 ys 0)
key-order bx by lx ly = (before-lt 8 bx by lx ly, lt-before 8 bx by lx ly)
