-- A sheet's bounds are those of its prefix (docs/RULES.md, "Reading through an index"): a key is at or above the prefix filled with zeros and below
-- the prefix with its last byte raised, filled with zeros, exactly when its 8 bytes begin with the prefix.
--     low-is, high_is                  the bounds as numbers
--     high-raised                      the upper bound is the prefix with its last byte raised, filled with zeros
--     begins-within, within-begins     a key begins with the prefix exactly within the bounds
--     points-small                     keys of a tray of bytes have 8 bytes
--     sheet-begins                     so sheet lists the records whose keys begin with the prefix
use Rattle.std.specs.Prelude.{◌≡◌, refl, ◌↔◌, ℕ, zero, suc, ◌+◌, ◌-◌, ◌*◌, ◌/◌, ◌%◌, ◌^◌, ◌≤◌, ◌<◌, List, [], ◌∷◌, ◌++◌, leb, length, get_or, take, drop}
use Rattle.std.proofs.Common.{sym, ◌∙◌, zero-add, add-zero, add_assoc, mod-lt, div-add-mod', div-lt_iff_lt-mul, pow-suc, mul-one, mul_assoc, add-suc, suc-mul, arith, add-one, leb-true, le-leb, ltb-true, lt-ltb, length-append, take_at}
use Rattle.std.proofs.Math.Path.{ap, subst}
use Rattle.std.proofs.Math.Nat.{one-le-pow, div-eq_of_lt-le}
use mathlib.Core.List.Memᴰ
use Rattle.std.proofs.Math.ListN.{replicate}
use Rattle.std.proofs.lemmas.List.{get_or-replicate, get_or_at}
use Rattle.number.specs.Big.{be, bytes_of, Bytes}
use Rattle.number.proofs.Big.Laws.{be-add, be-append-left, be-append-right, be-bytes_of, bytes_of-add, bytes_of-whole, length-bytes_of, be-bound, bytes_take, bytes_drop}
use Rattle.theory.specs.Records.{Record}
use Rattle.theory.specs.Rising.{Mem, All, keep}
use Rattle.theory.proofs.Rising.Kept.{keep-mem, mem-keep}
use Rattle.theory.specs.Tests.{and-true, and_left, and_right}
use Rattle.tray.specs.Frame.{start_of, run_bytes}
use Rattle.tray.specs.Run.{record_from}
use Rattle.index.specs.Rules.{key_of}
use Rattle.walk.specs.Walk.Spots.{Reading}
use Rattle.walk.specs.Reads.Shown.{point_of, shown, shown-merged}
use Rattle.walk.specs.Reads.Seek.{points, shown-shows}
use Rattle.walk.specs.Reads.Sheet.{within}
use Rattle.walk.specs.Reads.{low_key, high_key}

-- zeros spell zero
be-zeros : (m n p : ℕ) → p + m ≤ n → be m (replicate n 0) p ≡ 0
unfolding be
be-zeros zero n p l = refl
be-zeros (suc m) n p l =
    let zero-there : ◌≡◌ {A = ℕ} (get_or (replicate n 0) (p + m) 0) 0 = get_or-replicate {A = ℕ} n (p + m) 0 0 (omega arith) in
    rw (be-zeros m n p (omega arith), zero-there)

-- powers of a sum
pow-split : (n m : ℕ) → 256 ^ (n + m) ≡ 256 ^ n * 256 ^ m
pow-split n zero = simp (add-zero, mul-one)
pow-split n (suc m) = rw (add-suc, pow-suc 256 (n + m), pow-suc 256 m, pow-split n m) (mul_assoc (256 ^ n) (256 ^ m) 256)

-- a prefix of n bytes, and m that follow
module _ (n m : ℕ) (eight : n + m ≡ 8) (prefix : List ℕ) (long : length prefix ≡ n) where
  -- the prefix as a number
  abbrev number : ℕ
  number = be n prefix 0

  rest-long : 8 - length prefix ≡ m
  rest-long = omega arith

  pub low-is : low_key prefix ≡ number * 256 ^ m
  unfolding low_key
  low-is =
      rw rest-long
      (ap (λ k. be k (prefix ++ replicate m 0) 0) (sym eight)
      ∙ be-add n m (prefix ++ replicate m 0) 0
      ∙ rw (be-append-left n prefix (replicate m 0) 0 (omega arith), zero-add)
      (let tail : be m (prefix ++ replicate m 0) n ≡ 0 =
      ap (λ k. be m (prefix ++ replicate m 0) k) (sym (add-zero (length prefix) ∙ long))
      ∙ be-append-right m prefix (replicate m 0) 0 ∙ be-zeros m m 0 (omega arith) in
      rw tail (add-zero (number * 256 ^ m))))

  pub high_is : high_key prefix ≡ number * 256 ^ m + 256 ^ m
  unfolding high_key
  high_is = rw (low-is, rest-long)

  -- the first n bytes of a key are those of a quotient
  front-is : (key : ℕ) → take n (bytes_of 8 key) ≡ bytes_of n (key / 256 ^ m)
  front-is key =
      let low : key % 256 ^ m < 256 ^ m = mod-lt key (one-le-pow m 256 (omega arith)) in
      let all : bytes_of (n + m) key ≡ bytes_of n (key / 256 ^ m) ++ bytes_of m (key % 256 ^ m) =
      ap (bytes_of (n + m)) (sym (div-add-mod' key (256 ^ m))) ∙ bytes_of-add n m (key / 256 ^ m) (key % 256 ^ m) low in
      ap (take n) (ap (λ k. bytes_of k key) (sym eight) ∙ all)
      ∙ take_at (bytes_of n (key / 256 ^ m)) (bytes_of m (key % 256 ^ m)) n (length-bytes_of n (key / 256 ^ m))

  module _ (key : ℕ) (small : key < 256 ^ 8) (bytes : Bytes prefix) where
    -- the quotient has n bytes
    quotient-small : key / 256 ^ m < 256 ^ n
    quotient-small = (div-lt_iff_lt-mul (one-le-pow m 256 (omega arith))).1 (rw (← pow-split n m, eight) small)

    pub begins-within : take n (bytes_of 8 key) ≡ prefix → (low_key prefix ≤ key) × (key < high_key prefix)
    begins-within e =
        let same : key / 256 ^ m ≡ number = sym (be-bytes_of n (key / 256 ^ m) quotient-small) ∙ ap (λ l. be n l 0) (sym (front-is key) ∙ e) in
        let low : key % 256 ^ m < 256 ^ m = mod-lt key (one-le-pow m 256 (omega arith)) in
        let whole : number * 256 ^ m + key % 256 ^ m ≡ key = ap (λ k. k * 256 ^ m + key % 256 ^ m) (sym same) ∙ div-add-mod' key (256 ^ m) in
        rw (low-is, high_is) (omega arith, omega arith)

    pub within-begins : low_key prefix ≤ key → key < high_key prefix → take n (bytes_of 8 key) ≡ prefix
    within-begins l h =
        let low : number * 256 ^ m ≤ key = rw low-is at l in
        let high : key < number * 256 ^ m + 256 ^ m = rw high_is at h in
        let up : key < (number + 1) * 256 ^ m = rw (add-one, suc-mul) high in
        front-is key ∙ ap (bytes_of n) (div-eq_of_lt-le (256 ^ m) low up) ∙ bytes_of-whole n bytes long

-- a prefix and one byte more, as a number
number-snoc : (k b : ℕ) (ps : List ℕ) → length ps ≡ k → be (suc k) (ps ++ (b ∷ [])) 0 ≡ be k ps 0 * 256 + b
unfolding be
number-snoc k b ps long =
    rw (be-append-left k ps (b ∷ []) 0 (omega arith), zero-add, get_or_at ps b [] 0 k long)

pub high-raised : (k m b : ℕ) (ps : List ℕ) → length ps ≡ k → suc k + m ≡ 8 → high_key (ps ++ (b ∷ [])) ≡ low_key (ps ++ ((b + 1) ∷ []))
high-raised k m b ps long eight =
    high_is (suc k) m eight (ps ++ (b ∷ [])) (more b)
    ∙ ap (λ n. n * 256 ^ m + 256 ^ m) (number-snoc k b ps long)
    ∙ sum (be k ps 0 * 256 + b) (256 ^ m) ∙ ap (λ n. n * 256 ^ m) (add_assoc (be k ps 0 * 256) b 1)
    ∙ ap (λ n. n * 256 ^ m) (sym (number-snoc k (b + 1) ps long))
    ∙ sym (low-is (suc k) m eight (ps ++ ((b + 1) ∷ [])) (more (b + 1)))
  where
    more : (c : ℕ) → length (ps ++ (c ∷ [])) ≡ suc k
    more c = simp length-append (omega arith)

    sum : (a c : ℕ) → a * c + c ≡ (a + 1) * c
    sum a c = rw (add-one, suc-mul) refl

-- a run of bytes is bytes
bytes_run : (t : List ℕ) (r : ℕ) → Bytes t → Bytes (run_bytes t r)
unfolding run_bytes
bytes_run t r b = bytes_take (start_of t (suc r) - start_of t r) (drop (start_of t r) t) (bytes_drop (start_of t r) t b)

module _ {t x : List ℕ} (r : Reading t x) (bytes : Bytes t) where
  -- keys of a tray of bytes have 8 bytes
  pub points-small : All (λ e. e.key < 256 ^ 8) (points t)
  unfolding record_from
  points-small e m =
      let w = Memᴰ.of_map point_of (shown t x) (subst (Mem e) (sym (shown-merged r)) m) in
      let reads = ap key_of (shown-shows r w.0 w.1).reads ∙ ap key_of w.2 in
      subst (λ n. n < 256 ^ 8) reads
      (be-bound 8 (run_bytes t w.0.entry.run) (25 * w.0.entry.place) (bytes_run t w.0.entry.run bytes))

  -- what sheet lists: the live records of the merge whose keys begin with the prefix
  pub sheet-begins : (prefix : List ℕ) → length prefix ≤ 8 → Bytes prefix → (e : Record)
      → Mem e (keep (within (low_key prefix) (high_key prefix)) (points t)) ↔ (Mem e (points t) × (take (length prefix) (bytes_of 8 e.key) ≡ prefix))
  sheet-begins prefix l small e = (
    λ m. (let k = keep-mem (within (low_key prefix) (high_key prefix)) (points t) m in (
      k.0,
      within-begins n rest eight prefix refl e.key (points-small e k.0) small
          (leb-true _ _ (and_left _ _ k.1)) (ltb-true _ _ (and_right (leb (low_key prefix) e.key) _ k.1)),
    )),
    λ w. (let b = begins-within n rest eight prefix refl e.key (points-small e w.0) small w.1 in
        mem-keep (within (low_key prefix) (high_key prefix)) (points t) w.0 (and-true (le-leb _ _ b.0) (lt-ltb _ _ b.1))),
  )
    where
      n : ℕ
      n = length prefix

      rest : ℕ
      rest = 8 - length prefix

      eight : length prefix + (8 - length prefix) ≡ 8
      eight = omega arith
