-- Laws of digits and of the bytes that they spell: reading and writing are inverse to each other.
--     digit_of-low, digit_of-is     a digit's number is below 16, and how the code computes it
--     digit-is                    how the code computes a digit
--     is_digit-digit, digit_of-digit, digit-digit_of    a number's digit is one, and the two go both ways
--     all_digits-first, all_digits-rest, all_digits-at     each character of a line of digits is one
--     length-hex_of, hex_of-append       two digits a byte, and bytes end to end
--     length-bytes_in, bytes_in-cons     a byte for two digits
--     all_digits-hex_of             bytes are spelt in digits
--     bytes_in-hex_of               the bytes that bytes as digits spell are these bytes
--     hex_of-bytes_in               the digits of the bytes that a line spells are this line
--     bytes-bytes_in               what a line of digits spells are bytes
use Rattle.std.specs.Prelude.{◌≡◌, refl, ◌⊎◌, ℕ, zero, suc, ◌+◌, ◌*◌, ◌/◌, ◌%◌, ◌<◌, Bool, true, false, cond, ◌&&◌, ◌||◌, List, [], ◌∷◌, ◌++◌, length, get_or, T, leb, ltb, eqb}
use Rattle.std.proofs.Common.{ap, ◌∙◌, subst, inl, inr, ⊎_elim, div-add-mod', zero-add, arith, eqb→eq, ltb→lt, leb-true}
use Rattle.number.specs.Big.{Bytes}
use Rattle.number.proofs.Big.Laws.{bytes-cons}
use Rattle.theory.specs.Tests.{clash, and_left, and_right}
use Rattle.theory.specs.Listed.{listed}
use Rattle.theory.proofs.Listed.Laws.{length-listed, listed_same}
use Rattle.hexadecimal.specs.Hex.{is_digit, digit_of, digit, all_digits, bytes_in, hex_of}

-- a test passes at every number below n
every_below : (ℕ → Bool) → ℕ → Bool
every_below f zero = true
every_below f (suc n) = f 0 && every_below (λ i. f (suc i)) n

both_left : (a b : Bool) → T (a && b) → T a
both_left true b t = tt
both_left false b t = absurd t

both_right : (a b : Bool) → T (a && b) → T b
both_right true b t = t
both_right false b t = absurd t

-- so it passes at each
at-below : (f : ℕ → Bool) (n : ℕ) → T (every_below f n) → (k : ℕ) → k < n → T (f k)
unfolding every_below
at-below f zero t k h = absurd (omega arith)
at-below f (suc n) t zero h = both_left (f 0) _ t
at-below f (suc n) t (suc k) h = at-below (λ i. f (suc i)) n (both_right (f 0) _ t) k (omega arith)

-- what holds of a character that is a digit
abbrev char_rule : ℕ → Bool
char_rule c = ltb (digit_of c) 16 && (eqb (digit (digit_of c)) c && eqb (c % 16 + 9 * (c / 64)) (digit_of c))

abbrev char_test : ℕ → Bool
char_test c = cond (is_digit c) (char_rule c) true

-- what holds of a number below 16
abbrev number_test : ℕ → Bool
number_test n = is_digit (digit n) && (eqb (digit_of (digit n)) n && eqb (48 + n + (n + 6) / 16 * 39) (digit n))

-- one of two tests in pairs
one-pair : (a b p q : Bool) → ((a && b) || (p && q)) ≡ true → (b ≡ true) ⊎ (q ≡ true)
one-pair true true p q e = inl refl
one-pair true false true q e = inr e
one-pair true false false q e = clash e refl
one-pair false b true q e = inr e
one-pair false b false q e = clash e refl

-- a digit is no later character than f
digit-bound : (c : ℕ) → is_digit c ≡ true → c < 103
unfolding is_digit
digit-bound c e =
    ⊎_elim (λ q. omega (arith, leb-true c 57 q)) (λ q. omega (arith, leb-true c 102 q))
    (one-pair (leb 48 c) (leb c 57) (leb 97 c) (leb c 102) e)

char-passes : (c : ℕ) → c < 103 → T (char_test c)
unfolding every_below is_digit digit_of digit
char-passes c h = at-below char_test 103 tt c h

char-rule : (c : ℕ) → is_digit c ≡ true → T (char_rule c)
char-rule c e = subst (λ b. T (cond b (char_rule c) true)) e (char-passes c (digit-bound c e))

number-rule : (n : ℕ) → n < 16 → T (number_test n)
unfolding every_below is_digit digit_of digit
number-rule n h = at-below number_test 16 tt n h

is_true : (b : Bool) → T b → b ≡ true
is_true true t = refl
is_true false t = absurd t

module _ (c : ℕ) (e : is_digit c ≡ true) where
  -- its number is below 16
  pub digit_of-low : digit_of c < 16
  digit_of-low = ltb→lt _ _ (both_left (ltb (digit_of c) 16) _ (char-rule c e))

  -- the digit of its number is the character
  pub digit-digit_of : digit (digit_of c) ≡ c
  digit-digit_of = eqb→eq _ _ (both_left (eqb (digit (digit_of c)) c) _ (both_right (ltb (digit_of c) 16) _ (char-rule c e)))

  -- its number, without a branch
  pub digit_of-is : c % 16 + 9 * (c / 64) ≡ digit_of c
  digit_of-is = eqb→eq _ _ (both_right (eqb (digit (digit_of c)) c) _ (both_right (ltb (digit_of c) 16) _ (char-rule c e)))

module _ (n : ℕ) (h : n < 16) where
  -- the digit of a number is one
  pub is_digit-digit : is_digit (digit n) ≡ true
  is_digit-digit = is_true _ (both_left (is_digit (digit n)) _ (number-rule n h))

  -- its number is the number
  pub digit_of-digit : digit_of (digit n) ≡ n
  digit_of-digit = eqb→eq _ _ (both_left (eqb (digit_of (digit n)) n) _ (both_right (is_digit (digit n)) _ (number-rule n h)))

  -- the digit, without a branch
  pub digit-is : 48 + n + (n + 6) / 16 * 39 ≡ digit n
  digit-is = eqb→eq _ _ (both_right (eqb (digit_of (digit n)) n) _ (both_right (is_digit (digit n)) _ (number-rule n h)))

-- the first character of a line of digits is one
pub all_digits-first : (c : ℕ) (cs : List ℕ) → all_digits (c ∷ cs) ≡ true → is_digit c ≡ true
unfolding all_digits
all_digits-first c cs e = and_left (is_digit c) (all_digits cs) e

-- and so are the others
pub all_digits-rest : (c : ℕ) (cs : List ℕ) → all_digits (c ∷ cs) ≡ true → all_digits cs ≡ true
unfolding all_digits
all_digits-rest c cs e = and_right (is_digit c) (all_digits cs) e

-- so each is one
pub all_digits-at : (line : List ℕ) → all_digits line ≡ true → (i : ℕ) → i < length line → is_digit (get_or line i 0) ≡ true
all_digits-at [] e i h = absurd (omega arith)
all_digits-at (c ∷ cs) e zero h = all_digits-first c cs e
all_digits-at (c ∷ cs) e (suc i) h = all_digits-at cs (all_digits-rest c cs e) i (omega arith)

-- two digits a byte
pub length-hex_of : (bs : List ℕ) → length (hex_of bs) ≡ 2 * length bs
unfolding hex_of
length-hex_of [] = refl
length-hex_of (b ∷ bs) = omega (arith, length-hex_of bs)

-- bytes end to end
pub hex_of-append : (xs bs : List ℕ) → hex_of (xs ++ bs) ≡ hex_of xs ++ hex_of bs
unfolding hex_of
hex_of-append [] bs = refl
hex_of-append (a ∷ xs) bs = ap (λ l. digit (a / 16) ∷ digit (a % 16) ∷ l) (hex_of-append xs bs)

-- a byte for two digits
pub length-bytes_in : (line : List ℕ) → length (bytes_in line) ≡ length line / 2
unfolding bytes_in
length-bytes_in line = length-listed (length line / 2) 0 _

-- the byte that the digits at place 2i and after it spell
abbrev pub pair_at : List ℕ → ℕ → ℕ
pair_at line i = digit_of (get_or line (2 * i) 0) * 16 + digit_of (get_or line (2 * i + 1) 0)

pair-next : (a b : ℕ) (line : List ℕ) (j : ℕ) → pair_at (a ∷ b ∷ line) (1 + j) ≡ pair_at line (0 + j)
pair-next a b line j =
    let high : 2 * (1 + j) ≡ suc (suc (2 * j)) = omega arith in
    let low : 2 * (1 + j) + 1 ≡ suc (suc (2 * j + 1)) = omega arith in
    rw (low, high, zero-add)

pub bytes_in-cons : (a b : ℕ) (line : List ℕ) → bytes_in (a ∷ b ∷ line) ≡ (digit_of a * 16 + digit_of b) ∷ bytes_in line
unfolding bytes_in listed
bytes_in-cons a b line =
    let half : suc (suc (length line)) / 2 ≡ suc (length line / 2) = omega arith in
    rw half (ap (λ l. (digit_of a * 16 + digit_of b) ∷ l) (listed_same (length line / 2) 1 0 (pair_at (a ∷ b ∷ line)) (pair_at line) (λ j h. pair-next a b line j)))

-- fewer than two digits spell nothing
bytes_in-none : bytes_in [] ≡ []
unfolding bytes_in listed
bytes_in-none = refl

bytes_in-one : (a : ℕ) → bytes_in (a ∷ []) ≡ []
unfolding bytes_in listed
bytes_in-one a = refl

-- bytes are spelt in digits
pub all_digits-hex_of : (bs : List ℕ) → Bytes bs → all_digits (hex_of bs) ≡ true
unfolding all_digits hex_of
all_digits-hex_of [] h = refl
all_digits-hex_of (b ∷ bs) h =
    let low : b < 256 = h 0 in
    rw (is_digit-digit (b / 16) (omega arith), is_digit-digit (b % 16) (omega arith)) (all_digits-hex_of bs (λ i. h (suc i)))

-- the bytes that bytes as digits spell are these bytes
pub bytes_in-hex_of : (bs : List ℕ) → Bytes bs → bytes_in (hex_of bs) ≡ bs
unfolding hex_of
bytes_in-hex_of [] h = bytes_in-none
bytes_in-hex_of (b ∷ bs) h =
    let low : b < 256 = h 0 in
    bytes_in-cons (digit (b / 16)) (digit (b % 16)) (hex_of bs)
    ∙ rw (digit_of-digit (b / 16) (omega arith), digit_of-digit (b % 16) (omega arith), bytes_in-hex_of bs (λ i. h (suc i)), div-add-mod')

-- the digits of the bytes that a line spells are this line
pub hex_of-bytes_in : (line : List ℕ) → length line % 2 ≡ 0 → all_digits line ≡ true → hex_of (bytes_in line) ≡ line
unfolding hex_of
hex_of-bytes_in [] even e = ap hex_of bytes_in-none
hex_of-bytes_in (a ∷ []) even e = absurd (omega arith)
hex_of-bytes_in (a ∷ b ∷ line) even e =
    let rest = all_digits-rest a (b ∷ line) e in
    let high = all_digits-first a (b ∷ line) e in
    let low = all_digits-first b line rest in
    let h = digit_of-low a high in
    let l = digit_of-low b low in
    let quotient : (digit_of a * 16 + digit_of b) / 16 ≡ digit_of a = omega arith in
    let remainder : (digit_of a * 16 + digit_of b) % 16 ≡ digit_of b = omega arith in
    ap hex_of (bytes_in-cons a b line)
    ∙ rw (quotient, remainder, digit-digit_of a high, digit-digit_of b low) (ap (λ l. a ∷ b ∷ l) (hex_of-bytes_in line (omega arith) (all_digits-rest b line rest)))

-- what a line of digits spells are bytes
pub bytes-bytes_in : (line : List ℕ) → all_digits line ≡ true → Bytes (bytes_in line)
bytes-bytes_in [] e = rw bytes_in-none (λ i. omega arith)
bytes-bytes_in (a ∷ []) e = rw (bytes_in-one a) (λ i. omega arith)
bytes-bytes_in (a ∷ b ∷ line) e =
    let rest = all_digits-rest a (b ∷ line) e in
    let h = digit_of-low a (all_digits-first a (b ∷ line) e) in
    let l = digit_of-low b (all_digits-first b line rest) in
    rw (bytes_in-cons a b line) (bytes-cons (digit_of a * 16 + digit_of b) (bytes_in line) (omega arith) (bytes-bytes_in line (all_digits-rest b line rest)))
