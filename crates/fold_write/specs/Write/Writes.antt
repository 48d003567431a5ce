-- What the code that writes needs: each law is a way out of a function, or a turn of its loop.
--     record-put                                   a record copied
--     Putting, putting-none, -more, -end           records copied, one by one
--     put_next                                     one write right after another
use Rattle.std.specs.Prelude.{◌≡◌, refl, ℕ, suc, ◌+◌, ◌*◌, ◌≤◌, ◌<◌, List, [], ◌∷◌, ◌++◌, map, length, get_or, take, drop, set}
use Rattle.std.proofs.Common.{sym, ap, ap₂, ◌∙◌, subst, add-zero, add-one, arith, append_assoc, length-append, drop_of_length-le, drop-cons, take-append-drop}
use mathlib.Core.List.Memᴰ
use Rattle.number.specs.Big.{be, bytes_of, put, Bytes}
use Rattle.number.proofs.Big.Laws.{be-add, be-bound, bytes_of-add, length-bytes_of}
use Rattle.number.proofs.Big.Writes.{put-put, length-put, put-nil, put-cons}
use Rattle.theory.specs.Lists.{here}
use Rattle.theory.specs.Rising.{Mem, All}
use Rattle.tray.specs.Run.{record_from}
use Rattle.tray.specs.Meaning.{record_bytes, records_bytes}
use Rattle.tray.specs.Meaning.Read.{length-record_bytes}

-- a value in two parts
value-parts : (t : List ℕ) (p q : ℕ) → Bytes t → q ≡ p + 8 → bytes_of 16 (be 16 t p) ≡ bytes_of 8 (be 8 t p) ++ bytes_of 8 (be 8 t q)
value-parts t p q b e =
    rw e (ap (bytes_of 16) (be-add 8 8 t p) ∙ bytes_of-add 8 8 (be 8 t p) (be 8 t (p + 8)) (be-bound 8 t (p + 8) b))

-- a record, as three numbers and a byte
pub record-put : (t : List ℕ) (from : ℕ) (out : List ℕ) (at : ℕ) {out₁ out₂ out₃ : List ℕ} {key kind high low : ℕ} → Bytes t → at + 25 ≤ length out
    → key ≡ be 8 t from → kind ≡ get_or t (from + 8) 0 → high ≡ be 8 t (from + 9) → low ≡ be 8 t (from + 17)
    → out₁ ≡ put out at (bytes_of 8 key) → out₂ ≡ put (set out₁ (at + 8) kind) (at + 9) (bytes_of 8 high) → out₃ ≡ put out₂ (at + 17) (bytes_of 8 low)
    → out₃ ≡ put out at (record_bytes (record_from t from))
unfolding record_bytes record_from
record-put t from out at {out₁} {out₂} {out₃} {key} {kind} {high} {low} b l k n h w p q r =
    let K = bytes_of 8 key in let H = bytes_of 8 high in let L = bytes_of 8 low in
    let room₁ : length out₁ ≡ length out = ap length p ∙ length-put out at K (omega (arith, length-bytes_of 8 key)) in
    let nine : at + 9 ≡ suc (at + 8) = omega arith in
    let eight : at + 8 ≡ at + length K = omega (arith, length-bytes_of 8 key) in
    let two : out₂ ≡ put out at (K ++ (kind ∷ H)) =
    q ∙ ap (λ (j : ℕ). put (set out₁ (at + 8) kind) j H) nine ∙ put-cons out₁ (at + 8) kind H (omega arith)
    ∙ ap₂ (λ (o : List ℕ) (j : ℕ). put o j (kind ∷ H)) p eight ∙ put-put out at K (kind ∷ H) (omega arith) in
    let long : length (K ++ (kind ∷ H)) ≡ 17 = simp (length-append, length-bytes_of) in
    let seventeen : at + 17 ≡ at + length (K ++ (kind ∷ H)) = omega arith in
    let three : out₃ ≡ put out at ((K ++ (kind ∷ H)) ++ L) =
    r ∙ ap₂ (λ (o : List ℕ) (j : ℕ). put o j L) two seventeen ∙ put-put out at (K ++ (kind ∷ H)) L (omega arith) in
    let value : bytes_of 16 (be 16 t (from + 9)) ≡ bytes_of 8 (be 8 t (from + 9)) ++ bytes_of 8 (be 8 t (from + 17)) = value-parts t (from + 9) (from + 17) b (omega arith) in
    three ∙ ap (put out at) (append_assoc K (kind ∷ H) L) ∙ rw (k, n, h, w, value)

-- one write right after another
pub put_next : (out xs ys : List ℕ) (p : ℕ) {o o' : List ℕ} {q : ℕ} → o ≡ put out p xs → p ≤ length out → q ≡ p + length xs → o' ≡ put o q ys → o' ≡ put out p (xs ++ ys)
put_next out xs ys p e l m f =
    f ∙ ap₂ (λ (s : List ℕ) (j : ℕ). put s j ys) e m ∙ put-put out p xs ys l

-- the records from number j on have still to be copied
pub record Putting (t kept : List ℕ) (at : ℕ) (out₀ out : List ℕ) (j : ℕ) : Type 0 where
  pub room : length out ≡ length out₀
  pub same : put out (at + 25 * j) (records_bytes (map (record_from t) (drop j kept))) ≡ put out₀ at (records_bytes (map (record_from t) kept))

pub putting-none : (t kept : List ℕ) (at : ℕ) (out : List ℕ) → Putting t kept at out out 0
putting-none t kept at out = record { room = refl; same = rw add-zero }

-- the next one of the records
next-kept : (kept : List ℕ) {j : ℕ} → j < length kept → drop j kept ≡ get_or kept j 0 ∷ drop (j + 1) kept
next-kept kept {j} k = rw (add-one, drop-cons kept j 0 k)

-- record j stands in the tray
pub kept-inside : (t kept : List ℕ) {j : ℕ} → All (λ from. from + 25 ≤ length t) kept → j < length kept → get_or kept j 0 + 25 ≤ length t
kept-inside t kept {j} all k =
    all (get_or kept j 0)
    (subst (Mem (get_or kept j 0)) (take-append-drop j kept) (Memᴰ.append_right (take j kept) (rw (next-kept kept k) here)))

pub putting-more : {t kept : List ℕ} {at : ℕ} {out₀ out out' : List ℕ} {j : ℕ} → at + 25 * length kept ≤ length out₀
    → Putting t kept at out₀ out j → j < length kept → out' ≡ put out (at + 25 * j) (record_bytes (record_from t (get_or kept j 0)))
    → Putting t kept at out₀ out' (j + 1)
unfolding records_bytes
putting-more {t} {kept} {at} {out₀} {out} {out'} {j} h w k e =
    let one = record_bytes (record_from t (get_or kept j 0)) in
    let long : length one ≡ 25 = length-record_bytes (record_from t (get_or kept j 0)) in
    let room : length out ≡ length out₀ = w.room in
    record {
      room = ap length e ∙ length-put out (at + 25 * j) one (omega arith) ∙ w.room;
      same = put_next out one (records_bytes (map (record_from t) (drop (j + 1) kept))) (at + 25 * j) {q = at + 25 * (j + 1)} e (omega arith) (omega arith) refl ∙ (rw (next-kept kept k) at w.same);
    }

pub putting-end : {t kept : List ℕ} {at : ℕ} {out₀ out : List ℕ} {j : ℕ} → Putting t kept at out₀ out j → length kept ≤ j
    → out ≡ put out₀ at (records_bytes (map (record_from t) kept))
unfolding records_bytes
putting-end {t} {kept} {at} {out₀} {out} {j} w k =
    let none_left : drop j kept ≡ [] = drop_of_length-le kept {i = j} k in
    sym (put-nil out (at + 25 * j)) ∙ (rw none_left at w.same)
