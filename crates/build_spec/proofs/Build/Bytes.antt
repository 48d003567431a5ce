-- What the builder writes: how many bytes, that they are bytes, and that each number fits into its own.
--     length-offsets_bytes, length-filled, length-segment_bytes, length-segments_bytes, length-index_bytes     how many
--     selector-low, selector-real               a selector is a byte and no placeholder
--     cuts-low                                  the records of a tray are of runs below 63
--     bytes-segments_bytes, bytes-index_bytes     they are bytes
--     run_at-has, total-short                    what all runs have, and how many records they have at most
--     cuts-anchor, cuts-count, cuts-few         anchors, offsets and the segment count fit into their bytes
use Rattle.std.specs.Prelude.{◌≡◌, refl, ℕ, zero, suc, ◌+◌, ◌-◌, ◌*◌, ◌^◌, ◌≤◌, ◌<◌, Bool, true, false, cond, replicate}
use Rattle.std.proofs.Common.{sym, ◌∙◌, suc-mul, div-le_self, length-append}
use Rattle.std.proofs.Math.Nat.{zero-mul}
use native.Mathlib.Omega.{arith}
use mathlib.Core.List.Memᴰ
use mathlib.Core.List.{List, [], ◌∷◌, ◌++◌, map, append-nil}
use Rattle.std.proofs.Math.ListN.{length, length-map}
use Rattle.std.proofs.lemmas.List.{length-replicate}
use Rattle.number.specs.Big.{bytes_of, Bytes}
use Rattle.number.proofs.Big.Laws.{length-bytes_of, bytes-bytes_of, bytes-cons, bytes-append}
use Rattle.theory.specs.Records.{Record, live}
use Rattle.theory.specs.Rising.{All}
use Rattle.theory.specs.Lists.{all_tail}
use Rattle.theory.specs.Hiding.{same_key}
use Rattle.theory.specs.View.{run_at, view, old}
use Rattle.theory.proofs.View.Entries.{at-run, at_mem}
use Rattle.theory.specs.Places.{count}
use Rattle.theory.specs.Pack.{joined}
use Rattle.theory.proofs.Pack.Groups.{joined-mem}
use Rattle.tray.specs.Meaning.{total, FitsRecord, Fits}
use Rattle.theory.specs.Listed.{listed}
use Rattle.index.specs.Layout.{head_size, segment_at}
use Rattle.index.specs.Rules.{Item, key_of, placeholder, selector_of}
use Rattle.build_spec.specs.Build.{cuts, anchor_of, offsets_bytes, segment_bytes, segments_bytes, index_bytes, index_size}
use Rattle.build_spec.specs.Build.Laws.{Ready}
use Rattle.build_spec.proofs.Build.Laws.{cuts-joined, cuts-most, cuts_fit, cuts-stand, count-before, length-view}
use Rattle.build_spec.specs.Build.Bytes.{filled, Low}

-- n numbers of 2 bytes have 2 n,
length-numbers : (n i : ℕ) (f : ℕ → ℕ) → length (joined (listed n i (λ r. bytes_of 2 (f r)))) ≡ 2 * n
unfolding joined listed
length-numbers zero i f = refl
length-numbers (suc n) i f = simp (length-append, length-bytes_of, length-numbers n (suc i) f) (omega arith)

-- and so have the offsets
pub length-offsets_bytes : (h : ℕ) (before : List Item) → length (offsets_bytes h before) ≡ 2 * h
unfolding offsets_bytes
length-offsets_bytes h before = length-numbers h 0 (λ r. count r before)

-- they are bytes,
bytes-numbers : (n i : ℕ) (f : ℕ → ℕ) → Bytes (joined (listed n i (λ r. bytes_of 2 (f r))))
unfolding joined listed
bytes-numbers zero i f = λ j. omega arith
bytes-numbers (suc n) i f = bytes-append (bytes_of 2 (f i)) _ (bytes-bytes_of 2 (f i)) (bytes-numbers n (suc i) f)

-- and so is a list whose members are below 256,
bytes-map : {A : Type 0} (f : A → ℕ) (xs : List A) → All (λ a. f a < 256) xs → Bytes (map f xs)
bytes-map f [] h = λ j. omega arith
bytes-map f (a ∷ xs) h = bytes-cons (f a) (map f xs) (h a (Memᴰ.head refl)) (bytes-map f xs (all_tail h))

-- or one such member over and over
bytes-replicate : (n a : ℕ) → a < 256 → Bytes (replicate n a)
bytes-replicate zero a h = λ j. omega arith
bytes-replicate (suc n) a h = bytes-cons a (replicate n a) h (bytes-replicate n a h)

-- a run below 63 with any marks is a byte, and not the placeholder
marked : (r : ℕ) → r < 63 → (b c : Bool) → let v = r + (cond b 128 0 + cond c 0 64) in (v < 256) × (v ≡ placeholder → ⊥)
marked r l true true = omega arith
marked r l true false = omega arith
marked r l false true = omega arith
marked r l false false = omega arith

module _ (t : List (List Record)) (e : Item) (l : e.run < 63) where
  -- a selector is a byte,
  pub selector-low : selector_of t e < 256
  unfolding selector_of
  selector-low = (marked e.run l (old (same_key key_of) t e) (live e.item)).0

  -- and that of a record is no placeholder
  pub selector-real : selector_of t e ≡ placeholder → ⊥
  unfolding selector_of
  selector-real = (marked e.run l (old (same_key key_of) t e) (live e.item)).1

module _ (d : ℕ) (t : List (List Record)) where
  -- the selectors of a segment are d,
  pub length-filled : (own : List Item) → length own ≤ d → length (filled t own (d - length own)) ≡ d
  length-filled own l = simp (length-append, length-map, length-replicate) (omega arith)

  -- so each segment is as long,
  pub length-segment_bytes : (before own : List Item) → length own ≤ d → length (segment_bytes d t before own) ≡ head_size (length t) + d
  unfolding segment_bytes head_size
  length-segment_bytes before own l =
      simp (length-append, length-bytes_of, length-offsets_bytes, length-map, length-replicate) (omega arith)

  -- and n of them n times as long
  pub length-segments_bytes : (before : List Item) (ss : List (List Item)) → All (λ s. length s ≤ d) ss
      → length (segments_bytes d t before ss) ≡ length ss * (head_size (length t) + d)
  unfolding segments_bytes
  length-segments_bytes before [] l = simp zero-mul
  length-segments_bytes before (own ∷ ss) l =
      let first = length-segment_bytes before own (l own (Memᴰ.head refl)) in
      let others = length-segments_bytes (before ++ own) ss (all_tail l) in
      simp (length-append, suc-mul) (omega arith)

  -- a segment is bytes,
  bytes-segment_bytes : (before own : List Item) → Low own → Bytes (segment_bytes d t before own)
  unfolding segment_bytes offsets_bytes
  bytes-segment_bytes before own low =
      bytes-append (bytes_of 8 (anchor_of own)) _ (bytes-bytes_of 8 (anchor_of own))
      (bytes-append (offsets_bytes (length t) before) _ (bytes-numbers (length t) 0 (λ r. count r before))
      (bytes-append (map (selector_of t) own) _ (bytes-map (selector_of t) own (λ e m. selector-low t e (low e m)))
      (bytes-replicate (d - length own) placeholder (omega arith))))

  -- and so are segments
  pub bytes-segments_bytes : (before : List Item) (ss : List (List Item)) → Low (joined ss) → Bytes (segments_bytes d t before ss)
  unfolding segments_bytes joined
  bytes-segments_bytes before [] low = λ j. omega arith
  bytes-segments_bytes before (own ∷ ss) low =
      bytes-append (segment_bytes d t before own) _ (bytes-segment_bytes before own (λ e m. low e (Memᴰ.append_left (joined ss) m)))
      (bytes-segments_bytes (before ++ own) ss (λ e m. low e (Memᴰ.append_right own m)))

module _ {d : ℕ} {t : List (List Record)} (ready : Ready d t) where
  -- how many bytes are written
  pub length-index_bytes : length (index_bytes d t) ≡ index_size d t
  unfolding index_bytes index_size segment_at
  length-index_bytes =
      simp (length-append, length-bytes_of, length-segments_bytes d t [] (cuts d t) (cuts_fit ready)) (omega arith)

  -- the records of a tray are of runs below 63,
  pub cuts-low : Low (joined (cuts d t))
  cuts-low e m = omega (arith, at-run t e (cuts-stand d t m), ready.few)

  -- so what is written are bytes
  pub bytes-index_bytes : Bytes (index_bytes d t)
  unfolding index_bytes
  bytes-index_bytes =
      let body = segments_bytes d t [] (cuts d t) in
      let number = bytes_of 4 (length (cuts d t)) in
      bytes-append (length t ∷ d ∷ 0 ∷ 0 ∷ []) (number ++ body) header
      (bytes-append number body (bytes-bytes_of 4 (length (cuts d t))) (bytes-segments_bytes d t [] (cuts d t) cuts-low))
    where
      header : Bytes (length t ∷ d ∷ 0 ∷ 0 ∷ [])
      header =
          bytes-cons (length t) (d ∷ 0 ∷ 0 ∷ []) (omega (arith, ready.few))
          (bytes-cons d (0 ∷ 0 ∷ []) (omega (arith, ready.most)) (bytes-replicate 2 0 (omega arith)))

-- what all runs have and no records have, run i has
pub run_at-has : (P : List Record → Type 0) → P [] → (t : List (List Record)) → All P t → (i : ℕ) → P (run_at t i)
unfolding run_at
run_at-has P nil [] h i = nil
run_at-has P nil (r ∷ t) h zero = h r (Memᴰ.head refl)
run_at-has P nil (r ∷ t) h (suc i) = run_at-has P nil t (all_tail h) i

-- runs of at most 4,096 records
pub total-short : (t : List (List Record)) → All (λ r. length r ≤ 4096) t → total t ≤ 4096 * length t
unfolding total
total-short [] h = omega arith
total-short (r ∷ t) h = omega (arith, h r (Memᴰ.head refl), total-short t (all_tail h))

module _ {d : ℕ} {t : List (List Record)} (ready : Ready d t) (fits : Fits t) where
  -- keys fit into 8 bytes,
  pub cuts-anchor : All (λ s. anchor_of s < 256 ^ 8) (cuts d t)
  unfolding anchor_of
  cuts-anchor [] m = omega arith
  cuts-anchor (e ∷ es) m =
      let stands = at_mem t e (cuts-stand d t (joined-mem (Memᴰ.head refl) m)) in
      (run_at-has (λ r. All FitsRecord r) (λ a n. absurd (Memᴰ.not-nil n)) t fits.records e.run e.item stands).key

  -- counts into 2,
  pub cuts-count : (r : ℕ) → count r (joined (cuts d t)) < 65536
  cuts-count r =
      let whole : view key_of t ≡ joined (cuts d t) ++ [] = sym (cuts-joined d t) ∙ sym (append-nil (joined (cuts d t))) in
      let few = run_at-has (λ q. length q ≤ 4096) (omega arith) t fits.counts r in
      omega (arith, count-before ready r (joined (cuts d t)) [] whole)

  -- and the segment count into 4
  pub cuts-few : length (cuts d t) < 256 ^ 4
  cuts-few =
      let most = div-le_self (length (view key_of t)) (d + 1) in
      omega (arith, cuts-most d t, length-view ready, total-short t fits.counts, fits.most-runs)
