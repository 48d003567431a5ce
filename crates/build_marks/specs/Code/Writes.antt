-- What the code of a segment needs of what it writes: each law is a way out of a function, or a turn of its loop.
--     put-before                                   what stands before something that was written
--     offsets-end, offsets-next                    the offsets, run by run
use Rattle.std.specs.Prelude.{◌≡◌, List, ◌++◌, get_or, take, drop, replicate}
use Rattle.std.proofs.Common.{ap, ap₂, ◌∙◌, subst, zero-add, append_assoc, length-append, drop_at, length-take-le}
use Prim.Native.Nat.{ℕ, suc, ◌+◌, ◌-◌, ◌*◌, ◌≤◌, ◌<◌}
use Rattle.std.proofs.Math.Nat.{sub-zero}
use Rattle.std.proofs.Math.Numerals.{add-one}
use native.Mathlib.Omega.{arith}
use Rattle.std.proofs.Math.ListN.{length}
use Rattle.number.specs.Big.{bytes_of, put}
use Rattle.number.proofs.Big.Laws.{length-bytes_of}
use Rattle.number.proofs.Big.Writes.{put-put, put-nil}
use Rattle.theory.specs.Pack.{joined}
use Rattle.theory.specs.Listed.{listed}
use Rattle.merge_lead.specs.Heads.Leads.{LeastKey}
use Rattle.build_marks.specs.Code.{offsets_from, other_key, Fills, Segmented}

-- what stands before something that was written
pub put-before : (s : List ℕ) (p : ℕ) (xs ys : List ℕ) → p ≤ length s → length xs ≡ p → put (put s p ys) 0 xs ≡ put s 0 (xs ++ ys)
unfolding put
put-before s p xs ys l e =
    rw (zero-add, e, drop_at (take p s) (ys ++ drop (p + length ys) s) p (length-take-le p s l), zero-add, length-append, e, append_assoc)

module _ (places : List ℕ) where
  pub offsets-end : {h r : ℕ} (s : List ℕ) (p : ℕ) → h ≤ r → put s p (offsets_from places (h - r) r) ≡ s
  unfolding offsets_from listed joined
  offsets-end {h} {r} s p l = let z : h - r ≡ 0 = omega arith in rw z (put-nil s p)

  pub offsets-start : (h : ℕ) (s : List ℕ) → put s (8 + 2 * 0) (offsets_from places (h - 0) 0) ≡ put s 8 (offsets_from places h 0)
  offsets-start h s = rw sub-zero

  pub offsets-next : {h r : ℕ} (s : List ℕ) {s' : List ℕ} → s' ≡ put s (8 + 2 * r) (bytes_of 2 (get_or places r 0)) → r < h → 8 + 2 * r ≤ length s
      → put s' (8 + 2 * (r + 1)) (offsets_from places (h - (r + 1)) (r + 1)) ≡ put s (8 + 2 * r) (offsets_from places (h - r) r)
  unfolding offsets_from listed joined
  offsets-next {h} {r} s e l k =
      let z : h - r ≡ suc (h - suc r) = omega arith in
      let two : 8 + 2 * suc r ≡ 8 + 2 * r + length (bytes_of 2 (get_or places r 0)) = omega (arith, length-bytes_of 2 (get_or places r 0)) in
      rw (e, add-one, two, z) (put-put s (8 + 2 * r) (bytes_of 2 (get_or places r 0)) _ k)

-- a segment as the code writes it, part by part
pub segmented : {t places seg places' s₁ s₂ s₃ s₄ : List ℕ} {h d m from to e : ℕ} → LeastKey t h places m
    → s₁ ≡ put seg 0 (bytes_of 8 m) → s₂ ≡ put s₁ 8 (offsets_from places h 0) → from ≡ 8 + 2 * h → to ≡ 8 + 2 * h + d
    → Fills t h places s₂ from (other_key m) to places' s₃ e → from ≤ e → e ≤ to → s₄ ≡ put s₃ e (replicate (to - e) 63)
    → Segmented t h d places seg places' s₄ (e - from)
segmented {t} {places} {seg} {places'} {s₁} {s₂} {s₃} {s₄} {h} {d} {m} {from} {to} {e} low p q a b f l k w =
    let end : e ≡ 8 + 2 * h + (e - from) = omega arith in
    let left : to - e ≡ d - (e - from) = omega arith in
    let front : s₂ ≡ put (put seg 0 (bytes_of 8 m)) 8 (offsets_from places h 0) = q ∙ ap (λ (s : List ℕ). put s 8 (offsets_from places h 0)) p in
    let f₁ = subst (λ (n : ℕ). Fills t h places s₂ from (other_key m) n places' s₃ e) b f in
    let f₂ = subst (λ (s : List ℕ). Fills t h places s from (other_key m) (8 + 2 * h + d) places' s₃ e) front f₁ in
    let f₃ = subst (λ (n : ℕ). Fills t h places (put (put seg 0 (bytes_of 8 m)) 8 (offsets_from places h 0)) n (other_key m) (8 + 2 * h + d) places' s₃ e) a f₂ in
    record {
      anchor = m;
      selectors = s₃;
      least = low;
      filled = subst (λ (n : ℕ). Fills t h places (put (put seg 0 (bytes_of 8 m)) 8 (offsets_from places h 0)) (8 + 2 * h) (other_key m) (8 + 2 * h + d) places' s₃ n) end f₃;
      short = omega arith;
      whole = w ∙ ap₂ (λ (n k : ℕ). put s₃ n (replicate k 63)) end left;
    }
