-- Where the view is cut between two segments: what stands before and after, and that no key stands on both sides.
--     last_of, last_mem, last_snoc, snoc-last        the last of some records
--     rank-key, first-least, last-most              the first and the last of rising records
--     Above, above-whole, whole_above               a key is whole exactly when all that is left has higher keys
--     Cut, cut-start, cut-next                      a cut, the first one, and the next one
--     cut-rest, cut_low, cut-rises                  what is left after it
use Rattle.std.specs.Prelude.{◌≡◌, refl, ◌≤◌, ◌<◌, List, [], ◌∷◌, ◌++◌, length}
use Rattle.std.proofs.Common.{sym, ap, ◌∙◌, ⊎_elim, arith, append_assoc}
use mathlib.Core.List.Memᴰ
use Rattle.theory.specs.Records.{Record, SoundRecord}
use Rattle.theory.specs.Rising.{Mem, All, Rises, more}
use Rattle.theory.proofs.Rising.Laws.{rises-across, rises-left, rises-right}
use Rattle.theory.specs.Tests.{never}
use Rattle.theory.specs.Merge.{Good}
use Rattle.theory.specs.View.{rank, view}
use Rattle.theory.proofs.View.Entries.{at_low}
use Rattle.theory.proofs.View.Laws.{view-at, view-rises}
use Rattle.theory.specs.Places.{rest, passed}
use Rattle.theory.proofs.Places.Rest.{rest-zero}
use Rattle.theory.proofs.Places.Laws.{stretch-back}
use Rattle.index.specs.Rules.{key_of, Item, KeysWhole}

-- the last of the records c and then es
unfoldable pub last_of : Item → List Item → Item
last_of c [] = c
last_of c (e ∷ es) = last_of e es

pub last_mem : (c : Item) (es : List Item) → Mem (last_of c es) (c ∷ es)
unfolding last_of
last_mem c [] = Memᴰ.head refl
last_mem c (e ∷ es) = Memᴰ.tail (last_mem e es)

pub last_snoc : (c : Item) (es us : List Item) (e : Item) → c ∷ es ≡ us ++ (e ∷ []) → last_of c es ≡ e
unfolding last_of
last_snoc c [] [] e p = cc
last_snoc c [] (u ∷ []) e p = never (cc)
last_snoc c [] (u ∷ u' ∷ us) e p = never (cc)
last_snoc c (d ∷ es) [] e p = never (cc)
last_snoc c (d ∷ es) (u ∷ us) e p = last_snoc d es us e (cc)

pub snoc-last : (c : Item) (es : List Item) → (us : List Item) × (c ∷ es ≡ us ++ (last_of c es ∷ []))
unfolding last_of
snoc-last c [] = ([], refl)
snoc-last c (d ∷ es) = let w = snoc-last d es in (c ∷ w.0, ap {B = List Item} (λ l. c ∷ l) w.1)

-- up to 64 runs a higher rank has no lower key
pub rank-key : (x e : Item) → e.run < 64 → rank key_of x ≤ rank key_of e → key_of x.item ≤ key_of e.item
rank-key x e l h = omega arith

pub last-most : (c : Item) (es : List Item) → Rises (rank key_of) (c ∷ es)
    → (x : Item) → Mem x (c ∷ es) → rank key_of x ≤ rank key_of (last_of c es)
unfolding last_of
last-most c [] r x m = ⊎_elim (λ e. omega (arith, ap (rank key_of) e)) (λ k. absurd (Memᴰ.not-nil k)) (Memᴰ.cases_cons m)
last-most c (e ∷ es) (more h r) x m =
    let l : rank key_of c < rank key_of e = h e (Memᴰ.head refl) in
    let u : rank key_of e ≤ rank key_of (last_of e es) = last-most e es r e (Memᴰ.head refl) in
    ⊎_elim (λ q. omega (arith, ap (rank key_of) q)) (λ k. last-most e es r x k) (Memᴰ.cases_cons m)

-- the first of rising records has the lowest rank
pub first-least : {f x : Item} {w : List Item} → Rises (rank key_of) (f ∷ w) → Mem x (f ∷ w) → rank key_of f ≤ rank key_of x
first-least {x = x} (more h r) m =
    ⊎_elim (λ e. omega (arith, ap (rank key_of) e)) (λ k. omega (arith, h x k)) (Memᴰ.cases_cons m)

-- all of v has higher keys than the record
abbrev pub Above : Item → List Item → Type 0
Above l v = (e : Item) → Mem e v → key_of l.item < key_of e.item

module _ (t : List (List Record)) (c : Item) (es v : List Item) where
  pub above-whole : Above (last_of c es) v → KeysWhole t (c ∷ es) v
  above-whole h us e e' w p q k =
      let last : key_of (last_of c es).item ≡ key_of e.item = ap (λ y. key_of y.item) (last_snoc c es us e p) in
      omega (arith, h e' (rw q (Memᴰ.head refl)))

  -- else the first of them has the key, since the records rise
  pub whole_above : KeysWhole t (c ∷ es) v → Rises (rank key_of) ((c ∷ es) ++ v) → All (λ e. e.run < 64) v → Above (last_of c es) v
  whole_above k up low e m = go v refl m
    where
      go : (u : List Item) → v ≡ u → Mem e u → key_of (last_of c es).item < key_of e.item
      go [] q n = absurd (Memᴰ.not-nil n)
      go (f ∷ w) q n =
          let s = snoc-last c es in
          let apart : key_of (last_of c es).item ≡ key_of f.item → ⊥ = k s.0 (last_of c es) f w s.1 q in
          let first : Mem f v = rw q (Memᴰ.head refl) in
          let l = rises-across (rank key_of) (c ∷ es) v up (last_of c es) (last_mem c es) f first in
          let right : Rises (rank key_of) (f ∷ w) = rw q at (rises-right (rank key_of) (c ∷ es) v up) in
          let u : rank key_of f ≤ rank key_of e = first-least right n in
          omega (arith, low f first, low e m)

-- what is before, and what is left, where the view is cut between two keys
pub record Cut (t : List (List Record)) (b w : List Item) : Type 0 where
  pub whole : view key_of t ≡ b ++ w
  pub apart : (x e : Item) → Mem x b → Mem e w → key_of x.item ≡ key_of e.item → ⊥

pub cut-start : (t : List (List Record)) → Cut t [] (view key_of t)
cut-start t = record { whole = refl; apart = λ x e m n k. Memᴰ.not-nil m }

module _ {t : List (List Record)} (good : Good SoundRecord key_of t) (few : length t ≤ 64) {b w : List Item} where
  -- what is left is what the places of b leave
  pub cut-rest : Cut t b w → w ≡ rest key_of t (passed (λ _. 0) b)
  cut-rest cut = (stretch-back good few (λ _. 0) b w (rest-zero key_of t ∙ cut.whole)).1

  pub cut_low : Cut t b w → All (λ e. e.run < 64) w
  cut_low cut e m = at_low t e few (view-at key_of t e (rw cut.whole (Memᴰ.append_right b m)))

  pub cut-rises : Cut t b w → Rises (rank key_of) w
  cut-rises cut = rises-right (rank key_of) b w (rw cut.whole at (view-rises good few))

  pub cut-next : (c : Item) (es v : List Item) → Cut t b w → w ≡ (c ∷ es) ++ v → Above (last_of c es) v → Cut t (b ++ (c ∷ es)) v
  cut-next c es v cut parts above =
      record { whole = cut.whole ∙ ap (λ l. b ++ l) parts ∙ sym (append_assoc b (c ∷ es) v); apart = apart }
    where
      low : (x : Item) → Mem x (c ∷ es) → key_of x.item ≤ key_of (last_of c es).item
      low x m =
          let up = rises-left (rank key_of) (c ∷ es) v (rw parts at (cut-rises cut)) in
          let last = cut_low cut (last_of c es) (rw parts (Memᴰ.append_left v (last_mem c es))) in
          rank-key x (last_of c es) last (last-most c es up x m)

      apart : (x e : Item) → Mem x (b ++ (c ∷ es)) → Mem e v → key_of x.item ≡ key_of e.item → ⊥
      apart x e m n k =
          ⊎_elim (λ i. cut.apart x e i (rw parts (Memᴰ.append_right (c ∷ es) n)) k) (λ i. omega (arith, low x i, above e n))
          (Memᴰ.append_cases b m)
