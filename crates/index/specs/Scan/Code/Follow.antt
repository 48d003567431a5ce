-- What the code of the loop over selectors, and of what calls it, needs of the definitions.
--     Following, following-on               the loop over selectors goes on after a selector
--     following-end, following-ended, following-lost    how it ends
--     following-slice                       a slice of selectors is judged in place of the index
--     segment-offsets, segment-first, segment-follow, segment-heads     a segment
use Rattle.std.specs.Prelude.{◌≡◌, Bool, ◌&&◌, List, length, get_or, take, drop, slice_range, All, IsTrue, ◌↔◌, Option, Some, None}
use Rattle.std.specs.Bool.{then_some}
use Rattle.std.proofs.Math.Path.{refl, sym, ap, ap₂}
use Rattle.std.proofs.Common.{◌∙◌}
use Prim.Native.Nat.{ℕ, zero, suc, ◌+◌, ◌-◌, ◌*◌, ◌%◌, ◌≤◌, ◌<◌}
use native.Mathlib.Omega.{arith}
use Rattle.std.proofs.Math.Bool.{true, false, cond}
use Rattle.std.proofs.Math.Dec.{eqb}
use borrow.Author.Tests.{eq-eqb, ne_eqb}
use Rattle.number.specs.Big.{be}
use Rattle.index.specs.Layout.{head_size}
use Rattle.index.specs.Scan.{Trail, lost, kept, Outcome, wrong, right, next_in, names, raise, begins, joins, heads_above, offsets_hold, only_placeholders, following, closed, selectors_scan, segment_scan}
use Rattle.index.specs.Scan.Code.{step_of, begin_of, trailed, told, only-all, only-each}
use Rattle.theory.specs.Tests.{cases, clash}
use Rattle.std.proofs.lemmas.List.{get_or-take, get_or-drop, length-take-le, length-drop}

-- what a selector came to, and those after it
after-step : List ℕ → ℕ → List ℕ → ℕ → ℕ → ℕ → Trail → Trail
after-step t h x n i v lost = lost
after-step t h x n i v (kept places last) = following t h x n (i + 1) places last (v % 64)

module _ (t : List ℕ) (h : ℕ) (x : List ℕ) where
  -- one selector, and those after it
  one_more : (i to : ℕ) (places : List ℕ) (last before : ℕ) → i < to → (get_or x i 0 ≡ 63 → ⊥)
      → following t h x (to - i) i places last before ≡ after-step t h x (to - (i + 1)) i (get_or x i 0) (step_of t h places (get_or x i 0) last before)
  unfolding following step_of after-step
  one_more i to places last before l n =
      let z : to - i ≡ suc (to - (i + 1)) = omega arith in
      rw (z, ne_eqb (get_or x i 0) 63 n)
      (go (names t h places (get_or x i 0)) (joins last before (get_or x i 0) (next_in t places (get_or x i 0 % 64))))
    where
      go : (a b : Bool)
          → cond a (cond b (following t h x (to - (i + 1)) (i + 1) (raise places (get_or x i 0 % 64)) (next_in t places (get_or x i 0 % 64)).key (get_or x i 0 % 64)) lost) lost
          ≡ after-step t h x (to - (i + 1)) i (get_or x i 0)
          (cond a (cond b (kept (raise places (get_or x i 0 % 64)) (next_in t places (get_or x i 0 % 64)).key) lost) lost)
      go true true = refl
      go true false = refl
      go false b = refl

-- the selectors from i on answer for all of them
pub record Following (t selectors : List ℕ) (h : ℕ) (places₀ : List ℕ) (first first_run : ℕ) (places : List ℕ) (last before i : ℕ) : Type 0 where
  pub run : before < 64
  pub same : following t h selectors (length selectors - i) i places last before ≡ following t h selectors (length selectors) 0 places₀ first first_run

module _ {t x : List ℕ} {h : ℕ} {places₀ : List ℕ} {first first_run : ℕ} {places : List ℕ} {last before i : ℕ}
    (f : Following t x h places₀ first first_run places last before i) where
  pub following-end : length x ≤ i → trailed (Some last) places ≡ following t h x (length x) 0 places₀ first first_run
  unfolding following trailed
  following-end l = let z : length x - i ≡ 0 = omega arith in rw z at f.same

  module _ (l : i < length x) where
    module _ (e : get_or x i 0 ≡ 63) {b : Bool} (only : IsTrue b ↔ All (λ v. v ≡ 63) (slice_range x (i + 1) (length x))) where
      at-end : cond (only_placeholders x (length x - (i + 1)) (i + 1)) (kept places last) lost ≡ following t h x (length x) 0 places₀ first first_run
      unfolding following
      at-end = let z : length x - i ≡ suc (length x - (i + 1)) = omega arith in sym (rw (z, eq-eqb (get_or x i 0) 63 e)) ∙ f.same

      pub following-ended : trailed (then_some b last) places ≡ following t h x (length x) 0 places₀ first first_run
      unfolding trailed
      following-ended =
          cases b
          (λ y. rw y (rw (only-all x (length x - (i + 1)) (i + 1) (omega arith) (only.0 y)) at at-end))
          (λ n. rw n
          (cases (only_placeholders x (length x - (i + 1)) (i + 1))
          (λ y. clash (only.1 (only-each x (length x - (i + 1)) (i + 1) (omega arith) y)) n)
          (λ y. rw y at at-end)))

    module _ (n : get_or x i 0 ≡ 63 → ⊥) (o : Option ℕ) (places' : List ℕ) (s : trailed o places' ≡ step_of t h places (get_or x i 0) last before) where
      stepped : after-step t h x (length x - (i + 1)) i (get_or x i 0) (trailed o places') ≡ following t h x (length x) 0 places₀ first first_run
      stepped = ap (after-step t h x (length x - (i + 1)) i (get_or x i 0)) s ∙ sym (one_more t h x i (length x) places last before l n) ∙ f.same

      pub following-lost : o ≡ None → lost ≡ following t h x (length x) 0 places₀ first first_run
      unfolding after-step trailed
      following-lost e = rw e at stepped

      pub following-on : {key : ℕ} → o ≡ Some key → Following t x h places₀ first first_run places' key (get_or x i 0 % 64) (i + 1)
      unfolding after-step trailed
      following-on e = record { run = omega arith; same = rw e at stepped }

-- selectors count by what stands in their stretch alone, so that a slice of them is judged in place of the index
module _ (x y : List ℕ) where
  -- the n numbers of x from i on are those of y from j on
  abbrev alike : ℕ → ℕ → ℕ → Type 0
  alike n i j = (a b : ℕ) → i ≤ a → a < i + n → a + j ≡ b + i → get_or x a 0 ≡ get_or y b 0

  only-alike : (n i j : ℕ) → alike n i j → only_placeholders x n i ≡ only_placeholders y n j
  unfolding only_placeholders
  only-alike zero i j h = refl
  only-alike (suc n) i j h =
      rw (h i j (omega arith) (omega arith) (omega arith), only-alike n (i + 1) (j + 1) (λ a b l m e. h a b (omega arith) (omega arith) (omega arith)))

  following-alike : (t : List ℕ) (h n i j : ℕ) (places : List ℕ) (last before : ℕ) → alike n i j
      → following t h x n i places last before ≡ following t h y n j places last before
  unfolding following
  following-alike t h zero i j places last before s = refl
  following-alike t h (suc n) i j places last before s =
      let v = get_or y j 0 in
      let rest : alike n (i + 1) (j + 1) = λ a b l m e. s a b (omega arith) (omega arith) (omega arith) in
      rw (
        s i j (omega arith) (omega arith) (omega arith),
        only-alike n (i + 1) (j + 1) rest,
        following-alike t h n (i + 1) (j + 1) (raise places (v % 64)) (next_in t places (v % 64)).key (v % 64) rest,
      )

following-slice : (t : List ℕ) (h : ℕ) (x : List ℕ) (n i : ℕ) (places : List ℕ) (last before : ℕ) → i + n ≤ length x
    → following t h (take n (drop i x)) n 0 places last before ≡ following t h x n i places last before
following-slice t h x n i places last before l =
    sym (following-alike x (take n (drop i x)) t h n i 0 places last before
    (λ a b low high e. let z : a ≡ i + b = omega arith in rw (get_or-take n (drop i x) b 0 (omega arith), get_or-drop i x b 0, z)))

-- what the first selector came to, and those after it
after-begin : List ℕ → ℕ → List ℕ → ℕ → ℕ → ℕ → Trail → Outcome
after-begin t h x n i v lost = wrong
after-begin t h x n i v (kept places last) = closed t h (following t h x n (i + 1) places last (v % 64))

module _ (t : List ℕ) (h : ℕ) (x : List ℕ) where
  first_more : (d anchor i : ℕ) (places : List ℕ)
      → selectors_scan t h x d anchor i places ≡ after-begin t h x (d - 1) i (get_or x i 0) (begin_of t h places (get_or x i 0) anchor)
  unfolding selectors_scan begin_of after-begin
  first_more d anchor i places =
      go (names t h places (get_or x i 0))
      (begins (get_or x i 0) (next_in t places (get_or x i 0 % 64)) && eqb anchor (next_in t places (get_or x i 0 % 64)).key)
    where
      go : (a b : Bool)
          → cond a
          (cond b
          (closed t h (following t h x (d - 1) (i + 1) (raise places (get_or x i 0 % 64)) (next_in t places (get_or x i 0 % 64)).key (get_or x i 0 % 64))) wrong)
          wrong
          ≡ after-begin t h x (d - 1) i (get_or x i 0)
          (cond a (cond b (kept (raise places (get_or x i 0 % 64)) (next_in t places (get_or x i 0 % 64)).key) lost) lost)
      go true true = refl
      go true false = refl
      go false b = refl

  -- a segment whose offsets do not hold
  pub segment-offsets : (d at : ℕ) (places : List ℕ) {b : Bool} → b ≡ offsets_hold x at places h → b ≡ false → wrong ≡ segment_scan t h x d at places
  unfolding segment_scan
  segment-offsets d at places p e = rw (sym p ∙ e)

  -- and one whose offsets do: its first selector, those that follow, and the next keys decide in turn
  module _ (d at : ℕ) {from anchor : ℕ} (places : List ℕ) {b : Bool} (p : b ≡ offsets_hold x at places h) (holds : b ≡ true)
      (start : from ≡ at + 8 + 2 * h) (anchored : anchor ≡ be 8 x at)
      (o : Option ℕ) (places' : List ℕ) (first : trailed o places' ≡ begin_of t h places (get_or x from 0) anchor) where
    scanned : selectors_scan t h x d anchor from places ≡ segment_scan t h x d at places
    unfolding segment_scan head_size
    scanned =
        let f : from ≡ at + (8 + 2 * h) = omega arith in
        rw (sym p ∙ holds) (ap₂ (λ (k i : ℕ). selectors_scan t h x d k i places) anchored f)

    begun : after-begin t h x (d - 1) from (get_or x from 0) (trailed o places') ≡ segment_scan t h x d at places
    begun = ap (after-begin t h x (d - 1) from (get_or x from 0)) first ∙ sym (first_more d anchor from places) ∙ scanned

    pub segment-first : o ≡ None → wrong ≡ segment_scan t h x d at places
    unfolding after-begin trailed
    segment-first e = rw e at begun

    module _ {to key : ℕ} (y : o ≡ Some key) (ends : to ≡ from + d) (least : 0 < d) (inside : to ≤ length x) (o₂ : Option ℕ) (places'' : List ℕ)
        (rest : trailed o₂ places'' ≡ following t h (slice_range x (from + 1) to) (length (slice_range x (from + 1) to)) 0 places' key (get_or x from 0 % 64)) where
      rest-is : trailed o₂ places'' ≡ following t h x (d - 1) (from + 1) places' key (get_or x from 0 % 64)
      rest-is =
          let z : to - (from + 1) ≡ d - 1 = omega arith in
          let k : length (slice_range x (from + 1) to) ≡ d - 1 =
          let fits : to - (from + 1) ≤ length (drop (from + 1) x) = rw length-drop (omega arith) in length-take-le (to - (from + 1)) (drop (from + 1) x) fits ∙ z in
          rw (k, z) at rest ∙ following-slice t h x (d - 1) (from + 1) places' key (get_or x from 0 % 64) (omega arith)

      gone-on : closed t h (trailed o₂ places'') ≡ segment_scan t h x d at places
      unfolding after-begin trailed
      gone-on = ap (closed t h) rest-is ∙ rw y at begun

      pub segment-follow : o₂ ≡ None → wrong ≡ segment_scan t h x d at places
      unfolding closed trailed
      segment-follow e = rw e at gone-on

      pub segment-heads : {a : Bool} {last : ℕ} → o₂ ≡ Some last → a ≡ heads_above t places'' last h → told a places'' ≡ segment_scan t h x d at places
      unfolding closed trailed told
      segment-heads {a} e q = told_is a ∙ ap (λ (c : Bool). cond c (right places'') wrong) q ∙ rw e at gone-on
        where
          told_is : (c : Bool) → told c places'' ≡ cond c (right places'') wrong
          told_is true = refl
          told_is false = refl
