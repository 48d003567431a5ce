-- Laws of `put`. Beside the worked cases only this file looks inside it.
--     put-sets             what one store a byte leaves is `put`
--     put_mid-put          and so is what a stretch that is written over leaves
--     length-put           the length stays
--     take_put, drop-put   what stands up to the end of what was written, and after it
--     put-put              one write right after another is one write
--     put-nil, put-cons    nothing written, and one byte with the rest right after it
--     put-halves           so a number may be written in two parts
--     be-put-in            a number that is read out of what was written
--     be-put-same          a number whose bytes were written is read back
--     be-put-before, be-put-after     a number that lies before or after what was written is as it was
use borrow.Rule.Slice.PartMut.{put_mid}
use Rattle.std.specs.Prelude.{◌≡◌, List, [], ◌∷◌, ◌++◌, ℕ, suc, ◌+◌, ◌-◌, ◌*◌, ◌/◌, ◌%◌, ◌^◌, ◌≤◌, ◌<◌, length, take, drop, set}
use Rattle.std.proofs.Common.{sym, ap, ◌∙◌, append_assoc, add-zero, add_assoc, add-sub_of_le, mod-lt, div-add-mod', add-one, arith, length-append, take-append-drop, length-take-le, take_at, drop_at, drop-drop}
use Rattle.std.proofs.Math.Nat.{one-le-pow}
use Rattle.std.proofs.lemmas.List.Edits.{sets, sets-eq}
use Rattle.std.proofs.Math.Seq.{length-sets}
use Rattle.number.specs.Big.{be, bytes_of, put}
use Rattle.number.proofs.Big.Laws.{be-take, be-drop, be-append-left, be-append-right, bytes_of-add, length-bytes_of, be-bytes_of}

-- what one store a byte leaves
pub put-sets : (s : List ℕ) (p : ℕ) (ys : List ℕ) → p + length ys ≤ length s → sets s p ys ≡ put s p ys
unfolding put
put-sets s p ys h = sets-eq ys s p h ∙ append_assoc (take p s) ys (drop (p + length ys) s)

-- what a stretch that is written over leaves
pub put_mid-put : (a k : ℕ) (s ys : List ℕ) → k ≡ length ys → put_mid a k s ys ≡ put s a ys
unfolding put
put_mid-put a k s ys e =
    let end : a + k ≡ a + length ys = omega (arith, e) in
    ap (λ (t : List ℕ). take a s ++ (ys ++ t)) (drop-drop k a s ∙ ap (λ (n : ℕ). drop n s) end)

-- the length stays
pub length-put : (s : List ℕ) (p : ℕ) (ys : List ℕ) → p + length ys ≤ length s → length (put s p ys) ≡ length s
length-put s p ys h = ap length (sym (put-sets s p ys h)) ∙ length-sets s p ys

-- how far what was written reaches
length_front : (s : List ℕ) (p : ℕ) (ys : List ℕ) → p ≤ length s → length (take p s ++ ys) ≡ p + length ys
length_front s p ys h = length-append (take p s) ys ∙ ap (λ (n : ℕ). n + length ys) (length-take-le p s h)

-- the same list, in two: up to the end of what was written, and after it
put_front : (s : List ℕ) (p : ℕ) (ys : List ℕ) → put s p ys ≡ (take p s ++ ys) ++ drop (p + length ys) s
unfolding put
put_front s p ys = sym (append_assoc (take p s) ys (drop (p + length ys) s))

-- up to the end of what was written
pub take_put : (s : List ℕ) (p : ℕ) (ys : List ℕ) → p ≤ length s → take (p + length ys) (put s p ys) ≡ take p s ++ ys
take_put s p ys h =
    rw put_front (take_at (take p s ++ ys) (drop (p + length ys) s) (p + length ys) (length_front s p ys h))

-- and after it
pub drop-put : (s : List ℕ) (p : ℕ) (ys : List ℕ) → p ≤ length s → drop (p + length ys) (put s p ys) ≡ drop (p + length ys) s
drop-put s p ys h =
    rw put_front (drop_at (take p s ++ ys) (drop (p + length ys) s) (p + length ys) (length_front s p ys h))

-- one write right after another
pub put-put : (s : List ℕ) (p : ℕ) (xs ys : List ℕ)
    → p ≤ length s → put (put s p xs) (p + length xs) ys ≡ put s p (xs ++ ys)
put-put s p xs ys h =
    put_front (put s p xs) (p + length xs) ys
    ∙ rw (take_put s p xs h, ← drop-drop (length ys) (p + length xs) (put s p xs), drop-put s p xs h, drop-drop)
    (simp (put_front, append_assoc, length-append, add_assoc))

-- nothing written,
pub put-nil : (s : List ℕ) (p : ℕ) → put s p [] ≡ s
unfolding put
put-nil s p = rw add-zero (take-append-drop p s)

-- and one byte with the rest right after it
pub put-cons : (s : List ℕ) (p v : ℕ) (ys : List ℕ) → p < length s → put (set s p v) (suc p) ys ≡ put s p (v ∷ ys)
put-cons s p v ys l =
    let one : set s p v ≡ put s p (v ∷ []) = put-sets s p (v ∷ []) (omega arith) in
    rw (one, ← add-one p) (put-put s p (v ∷ []) ys (omega arith))

-- a number written in two parts, the higher one first
pub put-halves : (w v n : ℕ) (s : List ℕ) (p : ℕ) → p ≤ length s
    → put (put s p (bytes_of w (n / 256 ^ v))) (p + w) (bytes_of v (n % 256 ^ v)) ≡ put s p (bytes_of (w + v) n)
put-halves w v n s p h =
    let high = bytes_of w (n / 256 ^ v) in
    let low = bytes_of v (n % 256 ^ v) in
    let long : length high ≡ w = length-bytes_of w (n / 256 ^ v) in
    let all : bytes_of (w + v) (n / 256 ^ v * 256 ^ v + n % 256 ^ v) ≡ high ++ low =
    bytes_of-add w v (n / 256 ^ v) (n % 256 ^ v) (mod-lt n (one-le-pow v 256 (omega arith))) in
    ap (λ (k : ℕ). put (put s p high) (p + k) low) (sym long) ∙ put-put s p high low h ∙ ap (put s p) (sym (rw div-add-mod' at all))

-- a number that is read out of what was written
pub be-put-in : (w : ℕ) (s : List ℕ) (p : ℕ) (ys : List ℕ) (q : ℕ)
    → p ≤ length s → q + w ≤ length ys → be w (put s p ys) (p + q) ≡ be w ys q
unfolding put
be-put-in w s p ys q h l =
    ap (λ (n : ℕ). be w (put s p ys) (n + q)) (sym (length-take-le p s h))
    ∙ be-append-right w (take p s) (ys ++ drop (p + length ys) s) q
    ∙ be-append-left w ys (drop (p + length ys) s) q l

-- a number whose bytes were written is read back
pub be-put-same : (w : ℕ) (s : List ℕ) (p n : ℕ)
    → p + w ≤ length s → n < 256 ^ w → be w (put s p (bytes_of w n)) p ≡ n
be-put-same w s p n h l =
    ap (be w (put s p (bytes_of w n))) (sym (add-zero p))
    ∙ be-put-in w s p (bytes_of w n) 0 (omega arith) (omega (arith, length-bytes_of w n))
    ∙ be-bytes_of w n l

-- a number that lies before what was written
pub be-put-before : (w : ℕ) (s : List ℕ) (p : ℕ) (ys : List ℕ) (q : ℕ)
    → p ≤ length s → q + w ≤ p → be w (put s p ys) q ≡ be w s q
unfolding put
be-put-before w s p ys q h l =
    be-append-left w (take p s) (ys ++ drop (p + length ys) s) q (omega (arith, length-take-le p s h)) ∙ be-take w p s q l

-- a number that lies where two lists are the same to their ends
be-behind : (w : ℕ) (s t : List ℕ) {k q : ℕ} → drop k s ≡ drop k t → k ≤ q → be w s q ≡ be w t q
be-behind w s t {k} {q} e l =
    ap (be w s) (sym (add-sub_of_le l))
    ∙ sym (be-drop w k s (q - k))
    ∙ ap (λ (r : List ℕ). be w r (q - k)) e
    ∙ be-drop w k t (q - k)
    ∙ ap (be w t) (add-sub_of_le l)

-- a number that lies after what was written
pub be-put-after : (w : ℕ) (s : List ℕ) (p : ℕ) (ys : List ℕ) (q : ℕ)
    → p ≤ length s → p + length ys ≤ q → be w (put s p ys) q ≡ be w s q
be-put-after w s p ys q h l = be-behind w (put s p ys) s (drop-put s p ys h) l
