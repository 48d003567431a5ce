-- Laws of `pack` (docs/RULES.md, "The index": our builder's segments). Beside the worked cases only this file looks inside
-- `pack` and `pack_on`. Not here: `joined` and `groups`, in `Groups.antt`.
--     pack-joined    the segments put together are the groups put together
--     pack-fits      no segment is too long, if no group is
--     pack-full      no segment is empty, if no group is
--     Parts, pack-parts     segments are made of whole groups
--     Cut, pack-cut  no key goes on from a segment to the next
--     pack-pairs     two neighbouring segments hold more than d members
--     pack-bound     half of the segments rounded down, times d + 1, is at most the members
--     pack-most      how many segments there are at most
use Rattle.std.specs.Prelude.{◌≡◌, length}
use Rattle.std.proofs.Math.Path.{refl, ap}
use Rattle.std.proofs.Common.{◌∙◌, le-div_iff_mul-le, leb-true, leb-false}
use mathlib.Core.List.Memᴰ
use mathlib.Core.List.IsChain
use mathlib.Core.List.{List, [], ◌∷◌, ◌++◌, map, append-nil, append_assoc, IsChain, rel_of_IsChain-cons-cons, IsChain-of_IsChain-cons}
use Prim.Native.Nat.{ℕ, suc, ◌+◌, ◌*◌, ◌/◌, ◌≤◌, ◌<◌, zero-le}
use Rattle.std.proofs.Math.Nat.{zero-mul, suc-mul}
use native.Mathlib.Omega.{arith}
use Rattle.std.proofs.Math.ListN.{length-append}
use Rattle.theory.specs.Tests.{split}
use Rattle.theory.specs.Lists.{here, all_nil, all_cons, all_tail, chain-at, first-before, last-after}
use Rattle.theory.specs.Rising.{All}
use Rattle.theory.specs.Pack.{joined, groups, pack_on, pack}
use Rattle.theory.proofs.Pack.Groups.{joined-append, Apart, groups-full, groups-apart}

module _ {A : Type 0} where
  -- the lists ss are made of whole groups of gs, each of one or more
  pub record Parts (gs ss : List (List A)) : Type 0 where
    pub parts : List (List (List A))
    pub whole : joined parts ≡ gs
    pub made : map joined parts ≡ ss
    pub full : All (λ p. 0 < length p) parts

  -- the last member of the first list has another number than the first member of the second
  abbrev pub Cut : (A → ℕ) → List A → List A → Type 0
  Cut f s s' = (s₁ s₂ : List A) (a b : A) → s ≡ s₁ ++ (a ∷ []) → s' ≡ b ∷ s₂ → f a ≡ f b → ⊥

  module _ (f : A → ℕ) where
    -- lists that stand apart are cut
    apart-cut : (g g' : List A) → Apart f g g' → Cut f g g'
    apart-cut g g' apart s₁ s₂ a b p q = apart a (rw p (Memᴰ.append_right s₁ here)) b (rw q here)

    -- what stands before a group that is not empty does not matter
    cut-after : (s : List A) {g g' : List A} → 0 < length g → Cut f g g' → Cut f (s ++ g) g'
    cut-after s {g} full cut s₁ s₂ a b p = let g₁ = last-after s g s₁ a full p in cut g₁.0 s₂ a b g₁.1

    -- nor what stands after one
    cut-before : {s g : List A} (r : List A) → 0 < length g → Cut f s g → Cut f s (g ++ r)
    cut-before {s} {g} r full cut s₁ s₂ a b p q = let g₂ = first-before g r s₂ b full q in cut s₁ g₂.0 a b p g₂.1

  module _ (d : ℕ) where
    -- how the segment s and the groups gs become the segments ss: the cases of `pack_on`, with what its test found
    data Packs : List A → List (List A) → List (List A) → Type 0 where
      ends : {s : List A} → Packs s [] (s ∷ [])
      fits : {s g : List A} {gs ss : List (List A)} → length s + length g ≤ d
          → Packs (s ++ g) gs ss → Packs s (g ∷ gs) ss
      opens : {s g : List A} {gs ss : List (List A)} → d < length s + length g
          → Packs g gs ss → Packs s (g ∷ gs) (s ∷ ss)

    -- `pack_on` packs so
    packs : (s : List A) (gs : List (List A)) → Packs s gs (pack_on d s gs)
    unfolding pack_on
    packs s [] = ends
    packs s (g ∷ gs) =
        split (Packs s (g ∷ gs)) _
        (λ e. fits (leb-true _ _ e) (packs (s ++ g) gs))
        (λ e. opens (leb-false _ _ e) (packs g gs))

    -- what was in the segment stays in front
    packs-joined : {s : List A} {gs ss : List (List A)} → Packs s gs ss → joined ss ≡ s ++ joined gs
    unfolding joined
    packs-joined ends = refl
    packs-joined (fits {s = s} {g = g} l p) = packs-joined p ∙ append_assoc s g _
    packs-joined (opens {s = s} l p) = ap (λ xs. s ++ xs) (packs-joined p)

    -- the segments put together are the groups put together
    pub pack-joined : (gs : List (List A)) → joined (pack d gs) ≡ joined gs
    unfolding pack joined
    pack-joined [] = refl
    pack-joined (g ∷ gs) = packs-joined (packs g gs)

    module _ {P : List A → Type 0} (keeps : (s g : List A) → P s → P g → length s + length g ≤ d → P (s ++ g)) where
      -- what all groups have, and two that fit together keep, all segments have
      packs-all : {s : List A} {gs ss : List (List A)} → Packs s gs ss → P s → All P gs → All P ss
      packs-all ends p ps = all_cons p (all_nil _)
      packs-all (fits {s = s} {g = g} l q) p ps = packs-all q (keeps s g p (ps g here) l) (all_tail ps)
      packs-all (opens l q) p ps = all_cons p (packs-all q (ps _ here) (all_tail ps))

      -- the same from the first group on
      pack-all : (gs : List (List A)) → All P gs → All P (pack d gs)
      unfolding pack
      pack-all [] ps = ps
      pack-all (g ∷ gs) ps = packs-all (packs g gs) (ps g here) (all_tail ps)

    -- no segment is too long, if no group is
    pub pack-fits : (gs : List (List A)) → All (λ g. length g ≤ d) gs → All (λ s. length s ≤ d) (pack d gs)
    pack-fits = pack-all (λ s g p q l. simp length-append l)

    -- no segment is empty, if no group is
    pub pack-full : (gs : List (List A)) → All (λ g. 0 < length g) gs → All (λ s. 0 < length s) (pack d gs)
    pack-full = pack-all (λ s g p q l. simp length-append (omega arith))

    -- the groups of the current segment are the first part, and grow with it
    packs-parts : {s : List A} {gs ss : List (List A)} → Packs s gs ss
        → (p : List (List A)) → joined p ≡ s → 0 < length p → Parts (p ++ gs) ss
    unfolding joined
    packs-parts ends p e n =
        record { parts = p ∷ []; whole = refl; made = ap (λ s. s ∷ []) e; full = all_cons n (all_nil _) }
    packs-parts (fits {s = s} {g = g} l q) p e n =
        let more : joined (p ++ (g ∷ [])) ≡ s ++ g = rw joined-append (simp (e, append-nil)) in
        rw append_assoc at (packs-parts q (p ++ (g ∷ [])) more (simp length-append (omega arith)))
    packs-parts (opens {g = g} {gs = gs} {ss = ss} l q) p e n =
        let later : Parts (g ∷ gs) ss = packs-parts q (g ∷ []) (append-nil g) (omega arith) in
        record {
          parts = p ∷ later.parts;
          whole = ap (λ hs. p ++ hs) later.whole;
          made = cc later.made;
          full = all_cons n later.full;
        }

    -- segments are made of whole groups
    pub pack-parts : (gs : List (List A)) → Parts gs (pack d gs)
    unfolding pack joined
    pack-parts [] = record { parts = []; whole = refl; made = refl; full = all_nil _ }
    pack-parts (g ∷ gs) = packs-parts (packs g gs) (g ∷ []) (append-nil g) (omega arith)

    -- a segment before the others: the first of them begins with the group that opened it
    chain-opens : {R : List A → List A → Type 0} (s : List A) {g : List A} {gs ss : List (List A)}
        → ((r : List A) → R s (g ++ r)) → Packs g gs ss → IsChain R ss → IsChain R (s ∷ ss)
    chain-opens s h ends c = IsChain.cons-cons (rw append-nil at (h [])) c
    chain-opens s h (fits l p) c = chain-opens s (λ r. rw append_assoc (h _)) p c
    chain-opens s h (opens l p) c = IsChain.cons-cons (rw append-nil at (h [])) c

    module _ (f : A → ℕ) where
      -- the last group that went into a segment decides how it ends
      packs-cut : {s : List A} {gs ss : List (List A)} → Packs s gs ss
          → All (λ g. 0 < length g) gs → IsChain (Cut f) (s ∷ gs) → IsChain (Cut f) ss
      packs-cut ends full c = c
      packs-cut (fits {s = s} l p) full c =
          let later = IsChain-of_IsChain-cons c in
          packs-cut p (all_tail full) (IsChain.cons_of_imp (λ g'. cut-after f s (full _ here)) later)
      packs-cut (opens l p) full c =
          let later = packs-cut p (all_tail full) (IsChain-of_IsChain-cons c) in
          chain-opens _ (λ r. cut-before f r (full _ here) (rel_of_IsChain-cons-cons c)) p later

      -- groups that are cut from each other make segments that are
      pack-cuts : (gs : List (List A)) → All (λ g. 0 < length g) gs → IsChain (Cut f) gs → IsChain (Cut f) (pack d gs)
      unfolding pack
      pack-cuts [] full c = c
      pack-cuts (g ∷ gs) full c = packs-cut (packs g gs) (all_tail full) c

      -- no key goes on from a segment to the next
      pub pack-cut : (xs : List A) (us : List (List A)) {s s' : List A} (vs : List (List A))
          (s₁ : List A) {s₂ : List A} (a : A) {b : A}
          → pack d (groups f xs) ≡ us ++ (s ∷ s' ∷ vs) → s ≡ s₁ ++ (a ∷ []) → s' ≡ b ∷ s₂ → f a ≡ f b → ⊥
      pack-cut xs us vs s₁ a e =
          let c = pack-cuts (groups f xs) (groups-full f xs) (IsChain.imp (apart-cut f) (groups-apart f xs)) in
          chain-at us vs (rw e at c) s₁ _ a _

    -- two lists hold more than d members together
    abbrev Pair : List A → List A → Type 0
    Pair s s' = d < length s + length s'

    -- where a segment is left, it and the group that opens the next hold more than d
    packs-pairs : {s : List A} {gs ss : List (List A)} → Packs s gs ss → IsChain Pair ss
    packs-pairs ends = IsChain.singleton _
    packs-pairs (fits l p) = packs-pairs p
    packs-pairs (opens l p) = chain-opens _ (λ r. simp length-append (omega arith)) p (packs-pairs p)

    -- the segments as a chain of such pairs
    pack-chain : (gs : List (List A)) → IsChain Pair (pack d gs)
    unfolding pack
    pack-chain [] = IsChain.nil
    pack-chain (g ∷ gs) = packs-pairs (packs g gs)

    -- two neighbouring segments hold more than d members
    pub pack-pairs : (gs us : List (List A)) (s s' : List A) (vs : List (List A))
        → pack d gs ≡ us ++ (s ∷ s' ∷ vs) → d < length s + length s'
    pack-pairs gs us s s' vs e = chain-at us vs (rw e at (pack-chain gs))

    -- so each two of them hold d + 1, and one may be left over
    pairs-bound : (ss : List (List A)) → IsChain Pair ss → length ss / 2 * (d + 1) ≤ length (joined ss)
    unfolding joined
    pairs-bound [] c = simp zero-mul zero-le
    pairs-bound (s ∷ []) c = simp zero-mul zero-le
    pairs-bound (s ∷ s' ∷ ss) c =
        let two : Pair s s' = rel_of_IsChain-cons-cons c in
        let later = pairs-bound ss (IsChain-of_IsChain-cons (IsChain-of_IsChain-cons c)) in
        let half : suc (suc (length ss)) / 2 ≡ suc (length ss / 2) = omega arith in
        simp (half, suc-mul, length-append) (omega arith)

    -- half of the segments rounded down, times d + 1, is at most the members
    pub pack-bound : (gs : List (List A)) → length (pack d gs) / 2 * (d + 1) ≤ length (joined gs)
    pack-bound gs = rw pack-joined at (pairs-bound (pack d gs) (pack-chain gs))

    -- how many segments there are at most
    pub pack-most : (gs : List (List A)) → length (pack d gs) ≤ 2 * (length (joined gs) / (d + 1)) + 1
    pack-most gs =
        let above : 0 < d + 1 = omega arith in
        let half : length (pack d gs) / 2 ≤ length (joined gs) / (d + 1) = (le-div_iff_mul-le above).1 (pack-bound gs) in
        omega arith
