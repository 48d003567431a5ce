-- What the code of digits needs: each law is a way out of a function, or a turn of its loop.
--     fault, faults, all_digits-faults                     the characters that are no digits, counted
--     Filling, filling-more, filling-end    bytes written one by one, each by its place
--     Spelling, spelling-more, spelling-end    bytes written as digits, one by one
use Rattle.std.specs.Prelude.{◌≡◌, refl, ℕ, suc, ◌+◌, ◌-◌, ◌*◌, ◌/◌, ◌%◌, ◌≤◌, ◌<◌, Bool, true, false, cond, ◌&&◌, List, [], ◌∷◌, length, get_or, set, drop, eqb}
use Rattle.std.proofs.Common.{sym, ap, ◌∙◌, zero-add, add-one, one-add, arith, length-set, drop_of_length-le, drop-cons, ne_eqb}
use Rattle.number.specs.Big.{put}
use Rattle.number.proofs.Big.Writes.{put-nil, put-cons}
use Rattle.theory.specs.Listed.{listed}
use Rattle.theory.proofs.Listed.Laws.{listed_same}
use Rattle.hexadecimal.specs.Hex.{is_digit, digit, all_digits, bytes_in, hex_of}
use Rattle.hexadecimal.specs.Hex.Laws.{pair_at}

-- 0 for a digit, 1 for any other character
unfoldable pub fault : ℕ → ℕ
fault c = cond (is_digit c) 0 1

-- how many characters are no digits
unfoldable pub faults : List ℕ → ℕ
faults [] = 0
faults (c ∷ cs) = fault c + faults cs

-- at most 1 each
pub fault-low : (c : ℕ) → fault c ≤ 1
unfolding fault
fault-low c = go (is_digit c)
  where
    go : (b : Bool) → cond b 0 1 ≤ 1
    go true = omega arith
    go false = omega arith

-- a line is all digits where no character is none
pub all_digits-faults : (line : List ℕ) → eqb (faults line) 0 ≡ all_digits line
unfolding faults fault all_digits
all_digits-faults [] = refl
all_digits-faults (c ∷ cs) = go (is_digit c) (all_digits-faults cs)
  where
    go : (b : Bool) → eqb (faults cs) 0 ≡ all_digits cs → eqb (cond b 0 1 + faults cs) 0 ≡ (b && all_digits cs)
    go true h = rw zero-add h
    go false h = ne_eqb (1 + faults cs) 0 (λ e. omega arith)

-- the characters from place i on have still to be counted
pub record Counting (line : List ℕ) (n i : ℕ) : Type 0 where
  pub within : i ≤ length line
  pub few : n ≤ i
  pub same : n + faults (drop i line) ≡ faults line

pub counting_more : {line : List ℕ} {n i f : ℕ} → Counting line n i → i < length line → f ≡ fault (get_or line i 0) → Counting line (n + f) (i + 1)
unfolding faults
counting_more {line} {n} {i} {f} w l e =
    let known : faults (drop i line) ≡ fault (get_or line i 0) + faults (drop (suc i) line) = ap faults (drop-cons line i 0 l) in
    record { within = omega arith; few = omega (arith, fault-low (get_or line i 0)); same = rw add-one (omega (arith, w.same)) }

pub counting-end : {line : List ℕ} {n i : ℕ} → Counting line n i → length line ≤ i → eqb n 0 ≡ all_digits line
unfolding faults
counting-end {line} {n} {i} w l =
    let all : n ≡ faults line = omega (arith, w.same, ap faults (drop_of_length-le line {i = i} l)) in
    rw all (all_digits-faults line)

-- n bytes go to the front of a buffer, f at each place; those from place i on have still to be written
pub record Filling (f : ℕ → ℕ) (n : ℕ) (out₀ out : List ℕ) (i : ℕ) : Type 0 where
  pub within : i ≤ n
  pub room : length out ≡ length out₀
  pub same : put out i (listed (n - i) i f) ≡ put out₀ 0 (listed n 0 f)

pub filling-more : {f : ℕ → ℕ} {n : ℕ} {out₀ out : List ℕ} {i v : ℕ} → Filling f n out₀ out i → i < n → i < length out → v ≡ f i
    → Filling f n out₀ (set out i v) (i + 1)
unfolding listed
filling-more {f} {n} {out₀} {out} {i} {v} w l h e =
    let left : n - i ≡ suc (n - suc i) = omega arith in
    record {
      within = omega arith;
      room = simp length-set w.room;
      same = rw (add-one, e) (put-cons out i (f i) (listed (n - suc i) (suc i) f) h ∙ (rw left at w.same));
    }

pub filling-end : {f : ℕ → ℕ} {n : ℕ} {out₀ out : List ℕ} {i : ℕ} → Filling f n out₀ out i → n ≤ i → out ≡ put out₀ 0 (listed n 0 f)
unfolding listed
filling-end {f} {n} {out₀} {out} {i} w l =
    let none : n - i ≡ 0 = omega arith in
    sym (put-nil out i) ∙ (rw none at w.same)

-- the bytes of a line, and bytes themselves, by their places
pub bytes_in-listed : (line : List ℕ) → listed (length line / 2) 0 (pair_at line) ≡ bytes_in line
unfolding bytes_in
bytes_in-listed line = refl

pub listed-list : (bs : List ℕ) → listed (length bs) 0 (λ i. get_or bs i 0) ≡ bs
unfolding listed
listed-list [] = refl
listed-list (b ∷ bs) = ap (λ l. b ∷ l) (listed_same (length bs) 1 0 (λ i. get_or (b ∷ bs) i 0) (λ i. get_or bs i 0) (λ j h. rw (one-add, zero-add)) ∙ listed-list bs)

-- bytes go as digits to a place; those from place i on have still to be written
pub record Spelling (bytes : List ℕ) (at : ℕ) (out₀ out : List ℕ) (i : ℕ) : Type 0 where
  pub within : i ≤ length bytes
  pub room : length out ≡ length out₀
  pub same : put out (at + 2 * i) (hex_of (drop i bytes)) ≡ put out₀ at (hex_of bytes)

pub spelling-more : {bytes : List ℕ} {at : ℕ} {out₀ out : List ℕ} {i high low : ℕ} → Spelling bytes at out₀ out i → i < length bytes
    → at + 2 * length bytes ≤ length out₀ → high ≡ digit (get_or bytes i 0 / 16) → low ≡ digit (get_or bytes i 0 % 16)
    → Spelling bytes at out₀ (set (set out (at + 2 * i) high) (at + 2 * i + 1) low) (i + 1)
unfolding hex_of
spelling-more {bytes} {at} {out₀} {out} {i} {high} {low} w l h p q =
    let b = get_or bytes i 0 in
    let rest = hex_of (drop (suc i) bytes) in
    let room : length out ≡ length out₀ = w.room in
    let next : at + 2 * (i + 1) ≡ suc (suc (at + 2 * i)) = omega arith in
    let behind : at + 2 * i + 1 ≡ suc (at + 2 * i) = omega arith in
    let spelt : hex_of (drop i bytes) ≡ digit (b / 16) ∷ digit (b % 16) ∷ rest = ap hex_of (drop-cons bytes i 0 l) in
    record {
      within = omega arith;
      room = simp length-set w.room;
      same = rw (next, behind, add-one, p, q)
          (put-cons (set out (at + 2 * i) (digit (b / 16))) (suc (at + 2 * i)) (digit (b % 16)) rest (simp length-set (omega arith))
          ∙ put-cons out (at + 2 * i) (digit (b / 16)) (digit (b % 16) ∷ rest) (omega arith)
          ∙ (rw spelt at w.same));
    }

pub spelling-end : {bytes : List ℕ} {at : ℕ} {out₀ out : List ℕ} {i : ℕ} → Spelling bytes at out₀ out i → length bytes ≤ i → out ≡ put out₀ at (hex_of bytes)
unfolding hex_of
spelling-end {bytes} {at} {out₀} {out} {i} w l =
    sym (put-nil out (at + 2 * i)) ∙ ap (λ bs. put out (at + 2 * i) (hex_of bs)) (sym (drop_of_length-le bytes {i = i} l)) ∙ w.same
