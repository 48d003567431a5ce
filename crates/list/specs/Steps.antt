-- The turns of a walk from a cursor on, as a loop over segments with a loop over selectors takes them, whatever the visitor.
--     spot_at, entry_at, entry-same .. entry-segment   where a walk stands, and where it enters a segment
--     Entering, entering-first                         a loop over segments begins
--     here-entered, here-left, here-over               a segment is entered and left, and the end
--     here-pass, here-no-run, here-no-place, here-stay, here-go     one selector
use Rattle.std.specs.Prelude.{◌≡◌, refl, ℕ, ◌+◌, ◌%◌, ◌≤◌, ◌<◌, cond, List, length, get_or, set, eqb, ltb}
use Rattle.std.proofs.Math.Path.{sym, ap}
use Rattle.std.proofs.Common.{◌∙◌, subst, arith, length-set, eq-eqb, ne_eqb, eqb-true, le-ltb, ltb-true, ltb-false}
use Rattle.std.proofs.lemmas.Bool.{eqb-false}
use Rattle.theory.specs.Tests.{cases}
use Rattle.tray.specs.declared.Place.{Place}
use Rattle.tray.specs.Frame.{run_count}
use Rattle.index.specs.Layout.{segment_count, segment_at}
use Rattle.walk.specs.Walk.{Spot, Visit, stay, go, Walked, stayed, ended, lost, selector_at, walk_from}
use Rattle.walk.specs.Code.{placed, numbers, places_of, numbers-back, raise-numbers, Walking, selectors-pass, selectors-lost, selectors-stay, selectors-go}
use Rattle.walk.specs.Code.Load.{loaded_from}
use Rattle.walk.specs.Code.Turns.{Here, here-at, here-into, here-whole, here-enter, here_end, named-run, named-yes, named_past}

-- selector s of segment g, with the places as the code has them
abbrev pub spot_at : ℕ → ℕ → List Place → Spot
spot_at g s places = record { segment = g; selector = s; places = numbers places }

-- where a walk that began at a spot enters segment g: at the spot, or at the segment's first selector
unfoldable pub entry_at : ℕ → List ℕ → ℕ → Spot → ℕ → Spot
entry_at h x d c g = cond (eqb g c.segment) c (record { segment = g; selector = 0; places = loaded_from h x (segment_at h d g) })

module _ (h : ℕ) (x : List ℕ) (d : ℕ) (c : Spot) where
  pub entry-same : {g : ℕ} → g ≡ c.segment → entry_at h x d c g ≡ c
  unfolding entry_at
  entry-same {g} e = rw (eq-eqb g c.segment e)

  pub entry-other : {g : ℕ} → (g ≡ c.segment → ⊥) → entry_at h x d c g ≡ record { segment = g; selector = 0; places = loaded_from h x (segment_at h d g) }
  unfolding entry_at
  entry-other {g} a = rw (ne_eqb g c.segment a)

  -- the segment is g
  pub entry-segment : (g : ℕ) → (entry_at h x d c g).segment ≡ g
  entry-segment g =
      cases (eqb g c.segment)
      (λ y. let e = eqb-true g c.segment y in ap (λ (q : Spot). q.segment) (entry-same e) ∙ sym e)
      (λ n. ap (λ (q : Spot). q.segment) (entry-other (eqb-false g c.segment n)))

-- a loop over segments: a walk that began at a spot answers for the whole from where it enters segment g
pub record Entering {S R : Type 0} (t x : List ℕ) (visit : ℕ → Spot → S → Visit S R) (h d : ℕ) (whole : Walked S R) (c : Spot) (g : ℕ) (st : S) : Type 0 where
  pub since : c.segment ≤ g
  pub same : walk_from t x visit (entry_at h x d c g) st ≡ whole

-- it begins
pub entering-first : {S R : Type 0} (t x : List ℕ) (visit : ℕ → Spot → S → Visit S R) (h d : ℕ) (c : Spot) {g : ℕ} (st : S) → g ≡ c.segment
    → Entering t x visit h d (walk_from t x visit c st) c g st
entering-first t x visit h d c st e = record { since = omega arith; same = ap (λ (q : Spot). walk_from t x visit q st) (entry-same h x d c e) }

module _ {t x : List ℕ} {h d n : ℕ} {counts : List ℕ} (w : Walking t x h d n counts) where
  -- from the end on there is nothing to walk
  walk-over : {S R : Type 0} (visit : ℕ → Spot → S → Visit S R) (c : Spot) (st : S) → n ≤ c.segment → walk_from t x visit c st ≡ ended st
  unfolding walk_from
  walk-over visit c st l = let count : n ≡ segment_count x = w.index.count in rw (le-ltb c.segment (segment_count x) (omega arith))

  module _ {S R : Type 0} {visit : ℕ → Spot → S → Visit S R} {whole : Walked S R} {c : Spot} {g : ℕ} {st : S} where
    -- segment g is entered,
    pub here-entered : {s q : ℕ} {places : List Place} → Entering t x visit h d whole c g st → g < n → length places ≡ 63 → spot_at g s places ≡ entry_at h x d c g → q ≡ s → s ≤ d
        → Here t x visit d n whole g q places st
    here-entered {s} {places = places} i l room e y low =
        subst (λ (q : ℕ). Here t x visit d n whole g q places st) (sym y)
        (here-into w (here-at w g s places st l low room) (ap (λ (q : Spot). walk_from t x visit q st) e ∙ i.same))

    -- left,
    pub here-left : {s : ℕ} {places : List Place} → Here t x visit d n whole g s places st → d ≤ s → c.segment ≤ g → Entering t x visit h d whole c (g + 1) st
    here-left {s} {places} i l k =
        record {
          since = omega arith;
          same =
              ap (λ (q : Spot). walk_from t x visit q st) (entry-other h x d c {g = g + 1} (λ e. omega arith))
              ∙ cases (ltb (g + 1) n)
              (λ y.
              let ps = loaded_from h x (segment_at h d (g + 1)) in
              ap (λ (qs : List ℕ). walk_from t x visit (record { segment = g + 1; selector = 0; places = qs }) st) (sym (numbers-back ps))
              ∙ here-whole w (here-enter w i l {next = places_of ps} (ltb-true (g + 1) n y) refl (numbers-back ps)))
              (λ z.
              walk-over visit (record { segment = g + 1; selector = 0; places = loaded_from h x (segment_at h d (g + 1)) }) st (ltb-false (g + 1) n z)
              ∙ here_end w i l (ltb-false (g + 1) n z));
        }

    -- and after the last one comes the end
    pub here-over : Entering t x visit h d whole c g st → n ≤ g → ended st ≡ whole
    here-over i l = sym (walk-over visit (entry_at h x d c g) st (omega (arith, entry-segment h x d c g))) ∙ i.same

  module _ {S R : Type 0} {visit : ℕ → Spot → S → Visit S R} {whole : Walked S R} {g s : ℕ} {places : List Place} {st : S} (i : Here t x visit d n whole g s places st) {v : ℕ} (l : s < d) (read : v ≡ selector_at (run_count t) x g s) where
    -- a placeholder is passed
    pub here-pass : v ≡ 63 → Here t x visit d n whole g (s + 1) places st
    here-pass e = record { room = i.room; on = selectors-pass i.on l read e }

    module _ (real : v ≡ 63 → ⊥) where
      -- the loss rule
      pub here-no-run : h ≤ v % 64 → lost g s st ≡ whole
      here-no-run a = selectors-lost i.on l read real (named-run w v places a)

      module _ {k : ℕ} (below : v % 64 < h) (e : k ≡ v % 64) where
        pub here-no-place : get_or counts k 0 ≤ (get_or places k (placed 0)).0 → lost g s st ≡ whole
        here-no-place a = selectors-lost i.on l read real (named_past w v places below e a)

        module _ (there : (get_or places k (placed 0)).0 < get_or counts k 0) where
          -- the walk stays,
          pub here-stay : {r : R} → visit v (spot_at g s places) st ≡ stay r → stayed r ≡ whole
          here-stay a = selectors-stay i.on l read real (named-yes w v places below e there) a

          -- or goes on past the record
          pub here-go : {st' : S} → visit v (spot_at g s places) st ≡ go st'
              → Here t x visit d n whole g (s + 1) (set places k (placed ((get_or places k (placed 0)).0 + 1))) st'
          here-go a =
              record {
                room = length-set places k (placed ((get_or places k (placed 0)).0 + 1)) ∙ i.room;
                on = selectors-go i.on l read real (named-yes w v places below e there) a (raise-numbers places e);
              }
