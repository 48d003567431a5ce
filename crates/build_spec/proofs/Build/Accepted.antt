-- The builder's segments are right by the five rules, and no record is left over.
--     spelled-built     a segment's selectors spell its records
--     last_built        after a placeholder come only placeholders
--     keys-built        all versions of a key share a segment
--     right-built       a segment is right
--     accepted-built    the index is accepted
use Rattle.std.specs.Prelude.{◌≡◌, get_or, replicate}
use Rattle.std.proofs.Math.Path.{refl, sym, ap, subst}
use Rattle.std.proofs.Common.{◌∙◌, add-zero, add-suc, suc-add, zero-add, arith}
use Prim.Native.Nat.{ℕ, zero, suc, ◌+◌, ◌-◌, ◌≤◌, ◌<◌}
use mathlib.Core.List.Memᴰ
use mathlib.Core.List.{List, [], ◌∷◌, ◌++◌, map, append_assoc, append-nil, head-eq_of_cons-eq}
use Rattle.std.proofs.Math.ListN.{length}
use Rattle.std.proofs.lemmas.List.{length-replicate, get_or-replicate}
use Rattle.std.proofs.Math.Seq.{append_snoc}
use borrow.Author.Tests.{ne_eqb}
use Rattle.theory.specs.Records.{Record}
use Rattle.theory.specs.Rising.{Mem}
use Rattle.theory.specs.Tests.{never}
use Rattle.theory.specs.Lists.{all_tail}
use Rattle.theory.specs.View.{view}
use Rattle.theory.specs.Places.{count}
use Rattle.theory.specs.Pack.{joined}
use Rattle.theory.proofs.Pack.Groups.{joined-mem}
use Rattle.theory.specs.Listed.{listed}
use Rattle.index.specs.Rules.{Item, key_of, placeholder, spelled, PlaceholdersLast, selector_of, KeysWhole, Right, Follows, here, next, Accepted}
use Rattle.build_spec.specs.Build.{item_key, cuts, anchor_of}
use Rattle.build_spec.specs.Build.Laws.{Ready}
use Rattle.build_spec.proofs.Build.Laws.{cuts-joined, cuts-full, cuts-apart}
use Rattle.build_spec.specs.Build.Bytes.{filled, Low}
use Rattle.build_spec.proofs.Build.Bytes.{selector-real, cuts-low}
use Rattle.build_spec.specs.Build.Read.{built_segment, built_segments}

-- the member at a place
get_or-listed : (n i : ℕ) (f : ℕ → ℕ) (r : ℕ) → r < n → get_or (listed n i f) r 0 ≡ f (i + r)
unfolding listed
get_or-listed zero i f r l = absurd (omega arith)
get_or-listed (suc n) i f zero l = rw add-zero
get_or-listed (suc n) i f (suc r) l = rw (get_or-listed n (suc i) f r (omega arith), add-suc, suc-add)

module _ (t : List (List Record)) (n : ℕ) where
  -- the selectors before the placeholders are the records'
  pub spelled-built : (own : List Item) → Low own → spelled (filled t own n) ≡ map (selector_of t) own
  unfolding spelled
  spelled-built [] low = none n
    where
      none : (m : ℕ) → spelled (replicate m placeholder) ≡ []
      none zero = refl
      none (suc m) = refl
  spelled-built (e ∷ es) low =
      let real = ne_eqb (selector_of t e) placeholder (selector-real t e (low e (Memᴰ.head refl))) in
      simp (real, spelled-built es (all_tail low))

  -- and after a placeholder come only placeholders
  pub last_built : (own : List Item) → Low own → (i j : ℕ) → i ≤ j → j < length (filled t own n)
      → get_or (filled t own n) i 0 ≡ placeholder → get_or (filled t own n) j 0 ≡ placeholder
  last_built [] low i j l u e = get_or-replicate n j placeholder 0 (rw length-replicate at u)
  last_built (a ∷ es) low zero j l u e = absurd (selector-real t a (low a (Memᴰ.head refl)) e)
  last_built (a ∷ es) low (suc i) zero l u e = absurd (omega arith)
  last_built (a ∷ es) low (suc i) (suc j) l u e = last_built es (all_tail low) i j (omega arith) (omega arith) e

module _ (d : ℕ) (t : List (List Record)) where
  -- the first selector is a record's
  placeholders-built : (before own : List Item) → Low own → 0 < length own → PlaceholdersLast (built_segment d t before own)
  unfolding built_segment
  placeholders-built before [] low full = absurd (omega arith)
  placeholders-built before (e ∷ es) low full =
      record { first = selector-real t e (low e (Memᴰ.head refl)); after = last_built t (d - suc (length es)) (e ∷ es) low }

  -- the anchor is the key of the first record
  anchor-built : (own : List Item) (e : Item) (es : List Item) → own ≡ e ∷ es → anchor_of own ≡ item_key e
  unfolding anchor_of
  anchor-built own e es p = ap anchor_of p

  -- a segment whose last key does not go on is right
  pub right-built : (before own after : List Item) → Low own → 0 < length own → KeysWhole t own after
      → Right t (built_segment d t before own) before own after
  unfolding built_segment
  right-built before own after low full keys =
      record {
        offsets = λ r l. get_or-listed (length t) 0 (λ q. count q before) r l ∙ rw zero-add;
        placeholders = placeholders-built before own low full;
        spells = spelled-built t (d - length own) own low;
        anchor = anchor-built own;
        keys = keys;
      }

  -- the key of a segment's last record does not go on
  pub keys-built : (us : List (List Item)) (own : List Item) (ss : List (List Item)) → cuts d t ≡ us ++ (own ∷ ss)
      → KeysWhole t own (joined ss)
  unfolding joined
  keys-built us own [] is es e e' w p q = never (cc)
  keys-built us own ([] ∷ ss) is es e e' w p q =
      absurd (omega (arith, cuts-full d t [] (rw is (Memᴰ.append_right us (Memᴰ.tail (Memᴰ.head refl))))))
  keys-built us own ((a ∷ s) ∷ ss) is es e e' w p q =
      cuts-apart d t us ss is es s e e' p (ap (λ y. y ∷ s) (head-eq_of_cons-eq q))

module _ {d : ℕ} {t : List (List Record)} (ready : Ready d t) where
  -- the segments from one on
  accepted-from : (us ss : List (List Item)) (before : List Item) → cuts d t ≡ us ++ ss → before ++ joined ss ≡ view key_of t
      → Follows t (built_segments d t before ss) before (joined ss) (view key_of t) []
  unfolding built_segments joined
  accepted-from us [] before is whole = subst (λ v. Follows t [] before [] v []) (sym (append-nil before) ∙ whole) here
  accepted-from us (own ∷ ss) before is whole =
      let stands : Mem own (cuts d t) = rw is (Memᴰ.append_right us (Memᴰ.head refl)) in
      let low : Low own = λ e m. cuts-low ready e (joined-mem m stands) in
      next refl (right-built d t before own (joined ss) low (cuts-full d t own stands) (keys-built d t us own ss is))
      (accepted-from (us ++ (own ∷ [])) ss (before ++ own) (is ∙ sym (append_snoc us own ss)) (append_assoc before own (joined ss) ∙ whole))

  -- every segment is right, and no record is left over
  pub accepted-built : Accepted t (built_segments d t [] (cuts d t))
  accepted-built =
      subst (λ v. Follows t (built_segments d t [] (cuts d t)) [] v (view key_of t) []) (cuts-joined d t)
      (accepted-from [] (cuts d t) [] refl (cuts-joined d t))
