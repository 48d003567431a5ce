-- The bounds of a prefix as the code makes them: a copy of the prefix in an array of zeros, its last byte raised for the upper one.
--     be-raised                                             a byte raised by one
--     filled-long, high-set                                 the upper bound
use Rattle.std.specs.Prelude.{◌≡◌, ℕ, suc, ◌+◌, ◌-◌, ◌*◌, ◌^◌, ◌≤◌, ◌<◌, List, ◌++◌, length, get_or, set, replicate}
use Rattle.std.proofs.Common.{sym, ap, ap₂, ◌∙◌, zero-add, suc-mul, add-one, arith, length-append, get_or-set_same, get_or-set_other}
use Rattle.std.proofs.lemmas.List.{length-replicate}
use Rattle.std.proofs.Math.ListN.{get_or-append}
use Rattle.number.specs.Big.{be}
use Rattle.number.proofs.Big.Laws.{be-same, be-add}
use Rattle.walk.specs.Reads.{low_key, high_key}

-- a byte raised by one raises the number by 256 to the power of how many follow it
pub be-raised : (i m : ℕ) (s : List ℕ) → i < length s → be (suc i + m) (set s i (get_or s i 0 + 1)) 0 ≡ be (suc i + m) s 0 + 256 ^ m
unfolding be
be-raised i m s l =
    let r : List ℕ = set s i (get_or s i 0 + 1) in
    let front : be i r 0 ≡ be i s 0 = be-same i r 0 s 0 (λ j k. get_or-set_other s i (0 + j) (get_or s i 0 + 1) 0 (λ z. omega arith)) in
    let there : get_or r (0 + i) 0 ≡ get_or s (0 + i) 0 + 1 =
    ap (λ (k : ℕ). get_or r k 0) (zero-add i) ∙ get_or-set_same s i (get_or s i 0 + 1) 0 l ∙ ap (λ (k : ℕ). get_or s k 0 + 1) (sym (zero-add i)) in
    let head : be (suc i) r 0 ≡ be (suc i) s 0 + 1 = ap₂ (λ (a b : ℕ). a * 256 + b) front there ∙ omega arith in
    let tail : be m r (0 + suc i) ≡ be m s (0 + suc i) = be-same m r (0 + suc i) s (0 + suc i) (λ j k. get_or-set_other s i (0 + suc i + j) (get_or s i 0 + 1) 0 (λ z. omega arith)) in
    be-add (suc i) m r 0 ∙ ap₂ (λ (a b : ℕ). a * 256 ^ m + b) head tail ∙ sum (be (suc i) s 0) (256 ^ m) (be m s (0 + suc i)) ∙ ap (λ (k : ℕ). k + 256 ^ m) (sym (be-add (suc i) m s 0))
  where
    sum : (a p b : ℕ) → (a + 1) * p + b ≡ a * p + b + p
    sum a p b = rw (add-one a, suc-mul) (omega arith)

-- the array has 8 bytes
pub filled-long : (prefix : List ℕ) {key : List ℕ} → length prefix ≤ 8 → key ≡ prefix ++ replicate (8 - length prefix) 0 → length key ≡ 8
filled-long prefix most filled = ap length filled ∙ length-append prefix (replicate (8 - length prefix) 0) ∙ rw length-replicate (omega arith)

-- and the upper bound, in such an array with the last byte raised
pub high-set : (prefix : List ℕ) {key : List ℕ} {i : ℕ} → 1 ≤ length prefix → length prefix ≤ 8 → i ≡ length prefix - 1
    → key ≡ prefix ++ replicate (8 - length prefix) 0 → be 8 (set key i (get_or prefix i 0 + 1)) 0 ≡ high_key prefix
unfolding high_key low_key
high-set prefix {key} {i} least most last filled =
    let whole : suc i + (8 - length prefix) ≡ 8 = omega arith in
    let byte : get_or prefix i 0 ≡ get_or key i 0 =
    sym (ap (λ (s : List ℕ). get_or s i 0) filled ∙ get_or-append prefix (replicate (8 - length prefix) 0) 0 i (omega arith)) in
    let long : length key ≡ 8 = filled-long prefix most filled in
    ap (λ (b : ℕ). be 8 (set key i (b + 1)) 0) byte
    ∙ ap (λ (w : ℕ). be w (set key i (get_or key i 0 + 1)) 0) (sym whole)
    ∙ be-raised i (8 - length prefix) key (omega arith)
    ∙ ap₂ (λ (w : ℕ) (s : List ℕ). be w s 0 + 256 ^ (8 - length prefix)) whole filled
