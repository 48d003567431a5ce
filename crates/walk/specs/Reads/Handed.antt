-- Every cursor that a walk hands back belongs, whatever the index says (docs/RULES.md, "Reading through an index": each place is the offset plus
-- that run's selectors earlier in the segment).
--     places-first, places-gap, places-raised     the places of a walk are those of a cursor that belongs
--     Stands                                      a spot is a selector of a segment, with these places
--     selectors-stand, segments-stand, from-stands     where a walk stays, it stands
--     stands-belongs, end-belongs                 what stands belongs, and so does the end
--     belongs-stands                              what belongs and is not the end stands
use Rattle.std.specs.Prelude.{◌≡◌, ◌⊎◌, true, ◌&&◌, length, set, replicate, ltb}
use Rattle.std.proofs.Math.Path.{refl, sym, ap}
use Rattle.std.proofs.Common.{◌∙◌, subst, arith, add-zero, inl, inr, length-set}
use Prim.Native.Nat.{ℕ, zero, suc, ◌+◌, ◌-◌, ◌%◌, ◌≤◌, ◌<◌}
use Rattle.std.proofs.Math.Nat.{zero-add}
use Rattle.std.proofs.Math.Numerals.{add-one}
use Rattle.std.proofs.Math.Bool.{false, cond}
use mathlib.Core.List.{List}
use Rattle.std.proofs.Math.ListN.{get_or}
use Rattle.std.proofs.Math.Seq.{ext_get_or, get_or-set_same, get_or-set_other}
use Rattle.std.proofs.Math.Dec.{eqb}
use borrow.Author.Tests.{eq-eqb, ne_eqb, eqb-true, eqb-false, lt-ltb, ltb-true}
use Rattle.theory.specs.Tests.{cases, never, and_left, and_right, and-true}
use Rattle.theory.proofs.Listed.Laws.{length-listed, listed_same}
use Rattle.tray.specs.Frame.{run_count}
use Rattle.index.specs.Layout.{size_of, segment_count, segment_at, offset_from}
use Rattle.index.specs.Layout.Laws.{get_or-listed}
use Rattle.index.specs.Scan.{run_in, raise}
use Rattle.index.specs.Scan.Laws.{or_left, or_right, or_cases}
use Rattle.walk.specs.Walk.{Spot, Visit, stay, go, Walked, stayed, lost, selector_at, loaded, named, walk_selectors, walk_segments, walk_from}
use Rattle.walk.specs.Code.{after-visit, one-selector}
use Rattle.walk.specs.Code.Stayed.{same-stay}
use Rattle.walk.specs.Reads.{end_spot, selectors_of, places_at, same_places, belongs}
use Rattle.walk.specs.Reads.Belongs.{same-itself, same-places}

module _ (h : ℕ) (few : h ≤ 63) (x : List ℕ) (g : ℕ) where
  at-run : (s r : ℕ) → r < 63 → get_or (places_at h x g s) r 0 ≡ cond (ltb r h) (offset_from x (segment_at h (size_of x) g) r + selectors_of h x g r s) 0
  unfolding places_at
  at-run s r l = rw (get_or-listed 63 0 (λ i. cond (ltb i h) (offset_from x (segment_at h (size_of x) g) i + selectors_of h x g i s) 0) r 0 l, zero-add)

  pub length-places : (s : ℕ) → length (places_at h x g s) ≡ 63
  unfolding places_at
  length-places s = length-listed 63 0 _

  one_more : (s r : ℕ) → selectors_of h x g r (s + 1) ≡ selectors_of h x g r s + cond (eqb (run_in (selector_at h x g s)) r) 1 0
  unfolding selectors_of
  one_more s r = rw add-one

  -- on entering a segment,
  pub places-first : loaded h x g ≡ places_at h x g 0
  unfolding loaded places_at selectors_of
  places-first = listed_same 63 0 0 _ _ (λ r l. rw (zero-add, add-zero))

  -- past a placeholder,
  pub places-gap : (s : ℕ) → selector_at h x g s ≡ 63 → places_at h x g (s + 1) ≡ places_at h x g s
  unfolding places_at
  places-gap s e =
      listed_same 63 0 0 _ _ (λ r l.
      rw zero-add
      (cases (ltb r h)
      (λ y.
      let low : r < h = ltb-true r h y in
      let none : eqb (run_in (selector_at h x g s)) r ≡ false = ne_eqb _ r (λ z. let k : 63 % 64 ≡ r = ap (λ (v : ℕ). v % 64) (sym e) ∙ z in omega arith) in
      rw y (ap (λ (n : ℕ). offset_from x (segment_at h (size_of x) g) r + n) (one_more s r ∙ rw none (add-zero (selectors_of h x g r s)))))
      (λ n. rw n)))

  -- and past a record
  pub places-raised : (s : ℕ) → run_in (selector_at h x g s) < h → raise (places_at h x g s) (run_in (selector_at h x g s)) ≡ places_at h x g (s + 1)
  unfolding raise
  places-raised s l =
      ext_get_or 0 (set (places_at h x g s) q (get_or (places_at h x g s) q 0 + 1)) (places_at h x g (s + 1)) long
      (λ r k. let low : r < 63 = omega (arith, long, length-places (s + 1)) in
      cases (eqb q r)
      (λ y.
      let z : q ≡ r = eqb-true q r y in
      ap (λ (j : ℕ). get_or (set (places_at h x g s) q (get_or (places_at h x g s) q 0 + 1)) j 0) (sym z)
      ∙ get_or-set_same (places_at h x g s) q (get_or (places_at h x g s) q 0 + 1) 0 (omega (arith, length-places s))
      ∙ ap (λ (n : ℕ). n + 1) (at-run s q (omega arith) ∙ rw (lt-ltb q h l))
      ∙ plus (offset_from x (segment_at h (size_of x) g) q) (selectors_of h x g q s)
      ∙ sym (ap (λ (n : ℕ). offset_from x (segment_at h (size_of x) g) q + n) (one_more s q ∙ rw (eq-eqb q q refl)))
      ∙ sym (at-run (s + 1) q (omega arith) ∙ rw (lt-ltb q h l))
      ∙ ap (λ (j : ℕ). get_or (places_at h x g (s + 1)) j 0) z)
      (λ n.
      let off : q ≡ r → ⊥ = eqb-false q r n in
      get_or-set_other (places_at h x g s) q r (get_or (places_at h x g s) q 0 + 1) 0 (λ z. off (sym z))
      ∙ at-run s r low
      ∙ ap (λ (m : ℕ). cond (ltb r h) (offset_from x (segment_at h (size_of x) g) r + m) 0) (sym (one_more s r ∙ rw n (add-zero (selectors_of h x g r s))))
      ∙ sym (at-run (s + 1) r low)))
    where
      q : ℕ
      q = run_in (selector_at h x g s)

      long : length (set (places_at h x g s) q (get_or (places_at h x g s) q 0 + 1)) ≡ length (places_at h x g (s + 1))
      long = length-set (places_at h x g s) q (get_or (places_at h x g s) q 0 + 1) ∙ length-places s ∙ sym (length-places (s + 1))

      plus : (a b : ℕ) → a + b + 1 ≡ a + (b + 1)
      plus a b = omega arith

-- a spot is a selector of a segment, with the places that a cursor there must have
pub record Stands (h : ℕ) (x : List ℕ) (c : Spot) : Type 0 where
  pub inside : c.segment < segment_count x
  pub low : c.selector < size_of x
  pub places-are : c.places ≡ places_at h x c.segment c.selector

module _ {S R : Type 0} (t x : List ℕ) (few : run_count t ≤ 63) (visit : ℕ → Spot → S → Visit S R) (P : R → Type 0)
    (stays : (v : ℕ) (c : Spot) (st : S) (r : R) → Stands (run_count t) x c → named t c.places v ≡ true → visit v c st ≡ stay r → P r) where
  -- where a walk stays, it stands
  pub selectors-stand : (k g s : ℕ) (places : List ℕ) (st : S) (rest : S → Walked S R) → g < segment_count x → s + k ≡ size_of x
      → places ≡ places_at (run_count t) x g s → ((st' : S) (r : R) → rest st' ≡ stayed r → P r)
      → (r : R) → walk_selectors t x visit k g s places st rest ≡ stayed r → P r
  unfolding walk_selectors after-visit named
  selectors-stand zero g s places st rest in-x full are later r e = later st r e
  selectors-stand (suc k) g s places st rest in-x full are later r e =
      let turn = sym (one-selector t x visit k g s places st rest) ∙ e in
      cases (eqb v 63)
      (λ y.
      selectors-stand k g (s + 1) places st rest in-x (omega arith) (are ∙ sym (places-gap (run_count t) few x g s (eqb-true v 63 y))) later r (rw y at turn))
      (λ n. cases (named t places v)
      (λ there.
      let run-low : run_in v < run_count t = ltb-true (run_in v) (run_count t) (and_left _ _ there) in
      seen there
      (λ st' z. selectors-stand k g (s + 1) (raise places (run_in v)) st' rest in-x (omega arith)
      (ap (λ (ps : List ℕ). raise ps (run_in v)) are ∙ places-raised (run_count t) few x g s run-low) later r z)
      (visit v spot st) refl (rw (n, there) at turn))
      (λ off. never (off-stay (rw (n, off) at turn))))
    where
      v : ℕ
      v = selector_at (run_count t) x g s

      spot : Spot
      spot = record { segment = g; selector = s; places = places }

      off-stay : {g s : ℕ} {st : S} {r : R} → ◌≡◌ {A = Walked S R} (lost g s st) (stayed r) → ◌≡◌ {A = ℕ} 0 1
      off-stay z = cc

      seen : named t places v ≡ true → ((st' : S) → walk_selectors t x visit k g (s + 1) (raise places (run_in v)) st' rest ≡ stayed r → P r) → (w : Visit S R)
          → visit v spot st ≡ w → after-visit w (λ (st' : S). walk_selectors t x visit k g (s + 1) (raise places (run_in v)) st' rest) ≡ stayed r → P r
      seen there on (stay a) w z =
          stays v spot st r (record { inside = in-x; low = omega arith; places-are = are }) there (w ∙ ap stay (same-stay z))
      seen there on (go st') w z = on st' z

  pub segments-stand : (k g : ℕ) (st : S) → g + k ≤ segment_count x → (r : R) → walk_segments t x visit k g st ≡ stayed r → P r
  unfolding walk_segments
  segments-stand zero g st l r e = never (cc)
  segments-stand (suc k) g st l r e =
      selectors-stand (size_of x) g 0 (loaded (run_count t) x g) st (walk_segments t x visit k (g + 1)) (omega arith) (zero-add (size_of x))
      (places-first (run_count t) few x g) (λ st' a z. segments-stand k (g + 1) st' (omega arith) a z) r e

  -- from a cursor that stands
  pub from-stands : (c : Spot) (st : S) → Stands (run_count t) x c → (r : R) → walk_from t x visit c st ≡ stayed r → P r
  unfolding walk_from
  from-stands c st i r e =
      let inside : c.segment < segment_count x = i.inside in
      let low : c.selector < size_of x = i.low in
      selectors-stand (size_of x - c.selector) c.segment c.selector c.places st (walk_segments t x visit (segment_count x - (c.segment + 1)) (c.segment + 1))
      inside (omega arith) i.places-are (λ st' a z. segments-stand (segment_count x - (c.segment + 1)) (c.segment + 1) st' (omega arith) a z) r
      (rw (lt-ltb c.segment (segment_count x) inside) at e)

-- what stands belongs,
pub stands-belongs : {h : ℕ} {x : List ℕ} {c : Spot} → Stands h x c → belongs h x c ≡ true
unfolding belongs same_places
stands-belongs {h} {x} {c} i =
    or_right (eqb c.segment (segment_count x) && (eqb c.selector 0 && same_places c.places (replicate 63 0))) _
    (and-true (lt-ltb _ _ i.inside)
    (and-true (lt-ltb _ _ i.low) (subst (λ ps. same_places ps (places_at h x c.segment c.selector) ≡ true) (sym i.places-are) (same-itself (places_at h x c.segment c.selector) 63))))

-- and so does the end;
pub end-belongs : (h : ℕ) (x : List ℕ) → belongs h x (end_spot x) ≡ true
unfolding belongs same_places end_spot
end-belongs h x = or_left _ _ (and-true (eq-eqb (segment_count x) (segment_count x) refl) (same-itself (replicate 63 0) 63))

-- what belongs and is not the end stands
pub belongs-stands : {h : ℕ} {x : List ℕ} (c : Spot) → h ≤ 63 → length c.places ≡ 63 → belongs h x c ≡ true → c.segment < segment_count x → Stands h x c
unfolding belongs
belongs-stands {h} {x} c few room b l = side (or_cases _ _ b)
  where
    side : ((eqb c.segment (segment_count x) && (eqb c.selector 0 && same_places c.places (replicate 63 0))) ≡ true)
        ⊎ ((ltb c.segment (segment_count x) && (ltb c.selector (size_of x) && same_places c.places (places_at h x c.segment c.selector))) ≡ true)
        → Stands h x c
    side (inl y) = absurd (omega (arith, eqb-true c.segment (segment_count x) (and_left _ _ y)))
    side (inr y) =
        let rest = and_right (ltb c.segment (segment_count x)) _ y in
        record {
          inside = l;
          low = ltb-true c.selector (size_of x) (and_left _ _ rest);
          places-are =
              same-places c.places (places_at h x c.segment c.selector) room (length-places h few x c.segment c.selector)
              (and_right (ltb c.selector (size_of x)) _ rest);
        }
