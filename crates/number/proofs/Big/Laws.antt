-- Laws of `be` and `bytes_of`, over the width, and of `Bytes`. Beside the worked cases and the proofs of the leaves only this file looks inside them.
--     be-same              two lists that agree from their places on spell the same number
--     be-drop, be-take, be-part             the number in a part of a list
--     be-append-left, be-append-right       the number in two lists put together
--     be-add               the first bytes count 256 to the power of how many follow them
--     be-front, be-cons    the first byte counts 256 to the power of how many follow it
--     be-bound             a number of w bytes is below 256 to the power w
--     bytes_of-cons         the first byte of a number's bytes, and the others
--     bytes_of-high         where a number has no more than w + 1 bytes, its first is a quotient
--     bytes_of-add          the bytes of a number in two parts
--     length-bytes_of, bytes-bytes_of     they are w bytes
--     be-bytes_of           a number's bytes spell the number
--     bytes_of-be           the bytes of the number that bytes spell are these bytes
--     bytes_of-whole        the same for a whole list
--     bytes_take, bytes_drop, bytes-cons, bytes-append     parts and joins of bytes are bytes
use Rattle.std.specs.Prelude.{◌≡◌, refl, List, [], ◌∷◌, ◌++◌, ℕ, zero, suc, ◌+◌, ◌*◌, ◌/◌, ◌%◌, ◌^◌, ◌≤◌, ◌<◌, length, get_or, take, drop}
use Rattle.std.proofs.Common.{ap, ap₂, ◌∙◌, append-nil, append_assoc, add_assoc, add-zero, zero-add, add-suc, suc-add, mul-one, mul_assoc, pow-suc, lt-suc_self, mod-eq_of_lt, div-one, div-lt_iff_lt-mul, one-add, arith, length-append, length-drop, get_or-drop, get_or-take, get_or-append-add, take-suc, take_all}
use Rattle.std.proofs.Math.Nat.{pow-succ', le_step, one-le-pow, div-div-eq-div-mul}
use Rattle.std.proofs.Math.ListN.{get_or-append}
use Rattle.std.proofs.lemmas.List.{get_or_at}
use Rattle.number.specs.Big.{be, bytes_of, Bytes}

-- two lists that agree from their places on
pub be-same : (w : ℕ) (s : List ℕ) (p : ℕ) (t : List ℕ) (q : ℕ)
    → ((i : ℕ) → i < w → get_or s (p + i) 0 ≡ get_or t (q + i) 0) → be w s p ≡ be w t q
unfolding be
be-same zero s p t q h = refl
be-same (suc w) s p t q h = ap₂ (λ (a b : ℕ). a * 256 + b) (be-same w s p t q (λ i l. h i (le_step l))) (h w (lt-suc_self w))

-- in what is left from a place on
pub be-drop : (w a : ℕ) (s : List ℕ) (p : ℕ) → be w (drop a s) p ≡ be w s (a + p)
be-drop w a s p = be-same w (drop a s) p s (a + p) (λ i l. simp (get_or-drop, add_assoc))

-- in a front that holds all its bytes
pub be-take : (w n : ℕ) (s : List ℕ) (p : ℕ) → p + w ≤ n → be w (take n s) p ≡ be w s p
be-take w n s p h = be-same w (take n s) p s p (λ i l. get_or-take n s (p + i) 0 (omega arith))

-- in a part from the middle
pub be-part : (w a n : ℕ) (s : List ℕ) (p : ℕ) → p + w ≤ n → be w (take n (drop a s)) p ≡ be w s (a + p)
be-part w a n s p h = be-take w n (drop a s) p h ∙ be-drop w a s p

-- in the first of two lists
pub be-append-left : (w : ℕ) (xs ys : List ℕ) (p : ℕ) → p + w ≤ length xs → be w (xs ++ ys) p ≡ be w xs p
be-append-left w xs ys p h = be-same w (xs ++ ys) p xs p (λ i l. get_or-append xs ys 0 (p + i) (omega arith))

-- in the second of two lists
pub be-append-right : (w : ℕ) (xs ys : List ℕ) (p : ℕ) → be w (xs ++ ys) (length xs + p) ≡ be w ys p
be-append-right w xs ys p = be-same w (xs ++ ys) (length xs + p) ys p (λ i l. simp (add_assoc, get_or-append-add))

-- the first byte counts 256 to the power of how many follow it
pub be-front : (w : ℕ) (s : List ℕ) (p : ℕ) → be (suc w) s p ≡ get_or s p 0 * 256 ^ w + be w s (suc p)
unfolding be
be-front zero s p = simp (add-zero, zero-add, mul-one)
be-front (suc w) s p = rw (be-front w s p) (simp (pow-suc, ← mul_assoc, add-suc, suc-add) (omega arith))

-- the same, of a list from its start
pub be-cons : (w x : ℕ) (xs : List ℕ) → be (suc w) (x ∷ xs) 0 ≡ x * 256 ^ w + be w xs 0
be-cons w x xs =
    be-front w (x ∷ xs) 0
    ∙ ap (λ (n : ℕ). x * 256 ^ w + n) (be-same w (x ∷ xs) 1 xs 0 (λ i l. simp (one-add, zero-add)))

-- the first w bytes count 256 to the power of how many follow them
pub be-add : (w v : ℕ) (s : List ℕ) (p : ℕ) → be (w + v) s p ≡ be w s p * 256 ^ v + be v s (p + w)
unfolding be
be-add w zero s p = simp (add-zero, mul-one)
be-add w (suc v) s p = rw (add-suc, be-add w v s p) (simp (pow-suc, ← mul_assoc, ← add_assoc) (omega arith))

-- a number of w bytes is below 256 to the power w
pub be-bound : (w : ℕ) (s : List ℕ) (p : ℕ) → Bytes s → be w s p < 256 ^ w
unfolding be
be-bound zero s p h = omega arith
be-bound (suc w) s p h = rw pow-suc (omega (arith, be-bound w s p h, h (p + w)))

-- the first byte of a number's bytes, and the others
pub bytes_of-cons : (w n : ℕ) → bytes_of (suc w) n ≡ n / 256 ^ w % 256 ∷ bytes_of w n
unfolding bytes_of
bytes_of-cons zero n = simp div-one
bytes_of-cons (suc w) n = rw (bytes_of-cons w (n / 256)) (simp (div-div-eq-div-mul, pow-succ'))

-- a number of w + 1 bytes: its first byte is a quotient
pub bytes_of-high : (w n : ℕ) → n < 256 ^ suc w → bytes_of (suc w) n ≡ n / 256 ^ w ∷ bytes_of w n
bytes_of-high w n h =
    let q : n / 256 ^ w < 256 = (div-lt_iff_lt-mul (one-le-pow w 256 (omega arith))).1 (rw pow-succ' at h) in
    bytes_of-cons w n ∙ ap (λ (x : ℕ). x ∷ bytes_of w n) (mod-eq_of_lt q)

-- the bytes of a number in two parts
pub bytes_of-add : (w v h l : ℕ) → l < 256 ^ v → bytes_of (w + v) (h * 256 ^ v + l) ≡ bytes_of w h ++ bytes_of v l
unfolding bytes_of
bytes_of-add w zero h l b = let z : l ≡ 0 = omega arith in rw z (simp (mul-one, add-zero, append-nil))
bytes_of-add w (suc v) h l b =
    let high : (h * 256 ^ suc v + l) / 256 ≡ h * 256 ^ v + l / 256 = simp (pow-suc, ← mul_assoc) (omega arith) in
    let low : (h * 256 ^ suc v + l) % 256 ≡ l % 256 = simp (pow-suc, ← mul_assoc) (omega arith) in
    let q : l / 256 < 256 ^ v = omega (arith, rw pow-suc at b) in
    rw (add-suc, high, low, bytes_of-add w v h (l / 256) q) (append_assoc (bytes_of w h) (bytes_of v (l / 256)) (l % 256 ∷ []))

-- they are as many as the width
pub length-bytes_of : (w n : ℕ) → length (bytes_of w n) ≡ w
unfolding bytes_of
length-bytes_of zero n = refl
length-bytes_of (suc w) n = simp (length-append, length-bytes_of w (n / 256)) (omega arith)

-- and each is a byte
pub bytes-bytes_of : (w n : ℕ) → Bytes (bytes_of w n)
unfolding bytes_of
bytes-bytes_of zero n i = omega arith
bytes-bytes_of (suc w) n zero = rw (bytes_of-cons w n) (omega arith)
bytes-bytes_of (suc w) n (suc i) = rw (bytes_of-cons w n) (bytes-bytes_of w n i)

-- a byte put after a number: the number is the quotient by 256, the byte the remainder
high-bytes : (n x : ℕ) → x < 256 → (n * 256 + x) / 256 ≡ n
high-bytes n x h = omega arith

low_byte : (n x : ℕ) → x < 256 → (n * 256 + x) % 256 ≡ x
low_byte n x h = omega arith

-- a number's bytes spell the number
pub be-bytes_of : (w n : ℕ) → n < 256 ^ w → be w (bytes_of w n) 0 ≡ n
unfolding be bytes_of
be-bytes_of zero n h = omega arith
be-bytes_of (suc w) n h =
    let q : n / 256 < 256 ^ w = omega (arith, rw pow-suc at h) in
    let xs = bytes_of w (n / 256) in
    let long = length-bytes_of w (n / 256) in
    rw (be-append-left w xs (n % 256 ∷ []) 0 (omega arith), be-bytes_of w (n / 256) q, zero-add, get_or_at xs (n % 256) [] 0 w long)
    (omega arith)

-- the bytes of the number that bytes spell are these bytes
pub bytes_of-be : (w : ℕ) (s : List ℕ) (p : ℕ) → Bytes s → p + w ≤ length s → bytes_of w (be w s p) ≡ take w (drop p s)
unfolding be bytes_of
bytes_of-be zero s p b h = refl
bytes_of-be (suc w) s p b h =
    let q : w < length (drop p s) = simp length-drop (omega arith) in
    let last = b (p + w) in
    rw (low_byte (be w s p) _ last, high-bytes (be w s p) _ last, bytes_of-be w s p b (omega arith), take-suc (drop p s) w 0 q, get_or-drop)

-- a whole list of bytes is the bytes of its number
pub bytes_of-whole : (w : ℕ) {xs : List ℕ} → Bytes xs → length xs ≡ w → bytes_of w (be w xs 0) ≡ xs
bytes_of-whole w {xs} b l = bytes_of-be w xs 0 b (omega arith) ∙ take_all w xs (omega arith)

-- a part of bytes is bytes
pub bytes_take : (n : ℕ) (s : List ℕ) → Bytes s → Bytes (take n s)
bytes_take zero s b i = omega arith
bytes_take (suc n) [] b i = b i
bytes_take (suc n) (x ∷ s) b zero = b 0
bytes_take (suc n) (x ∷ s) b (suc i) = bytes_take n s (λ j. b (suc j)) i

pub bytes_drop : (a : ℕ) (s : List ℕ) → Bytes s → Bytes (drop a s)
bytes_drop a s b i = rw get_or-drop (b (a + i))

-- and so are bytes put together
pub bytes-cons : (x : ℕ) (s : List ℕ) → x < 256 → Bytes s → Bytes (x ∷ s)
bytes-cons x s h b zero = h
bytes-cons x s h b (suc i) = b i

pub bytes-append : (s t : List ℕ) → Bytes s → Bytes t → Bytes (s ++ t)
bytes-append [] t b c i = c i
bytes-append (x ∷ s) t b c zero = b 0
bytes-append (x ∷ s) t b c (suc i) = bytes-append s t (λ j. b (suc j)) c i
