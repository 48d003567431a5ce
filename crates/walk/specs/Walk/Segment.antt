-- The walk over the selectors of one segment: where they spell the next records of the view, it visits these records one by one, each at its
-- stop, and is not lost.
--     selectors_at                  where a segment's selectors start
--     seen                         the visitor at a stop
--     walk-passed, walk-visits     one selector: a placeholder, and one that names a record
--     walk-filled                  only placeholders
--     walk-segment                 the records that are spelled, and then placeholders
use Rattle.std.specs.Prelude.{◌≡◌, true, eqb}
use Rattle.std.proofs.Math.Path.{refl, sym}
use Rattle.std.proofs.Common.{ap, ◌∙◌, arith}
use Prim.Native.Nat.{ℕ, zero, suc, ◌+◌, ◌%◌}
use mathlib.Core.List.{List, [], ◌∷◌, ◌++◌, map}
use Rattle.std.proofs.Math.ListN.{get_or}
use Rattle.std.proofs.Math.Seq.{append_snoc}
use borrow.Author.Tests.{eqb-true, eqb-false, eq-eqb, ne_eqb}
use Rattle.theory.specs.Listed.{listed}
use Rattle.theory.specs.Tests.{cases, never}
use Rattle.theory.specs.View.{view}
use Rattle.tray.specs.Frame.{run_count}
use Rattle.tray.specs.Check.{Sound}
use Rattle.tray.specs.Meaning.{runs_of}
use Rattle.index.specs.Layout.{size_of, head_size, segment_at}
use Rattle.index.specs.Rules.{key_of, Item, spelled, selector_of}
use Rattle.index.specs.Rules.Laws.{Ended, Filled, ended-tail, ended-filled, spelled-end, spelled-more}
use Rattle.index.specs.Scan.{raise}
use Rattle.index.specs.Scan.Laws.{bytes_from}
use Rattle.index.specs.Scan.Places.{places_of, raise-places_of}
use Rattle.walk.specs.Walk.{Spot, Visit, stay, go, Walked, stayed, selector_at, named, walk_selectors}
use Rattle.walk.specs.Walk.Spots.{Stop, spot_at, spots_in}
use Rattle.walk.specs.Walk.Tours.{after, after-ext, tour_then}
use Rattle.walk.specs.Walk.Named.{selector-run, selector-spells, selector-named}

-- where the selectors of segment g start
abbrev pub selectors_at : List ℕ → List ℕ → ℕ → ℕ
selectors_at t x g = segment_at (run_count t) (size_of x) g + head_size (run_count t)

-- the visitor at a stop
abbrev pub seen : {S R : Type 0} → List ℕ → (ℕ → Spot → S → Visit S R) → Stop → S → Visit S R
seen t visit p st = visit (selector_of (runs_of t) p.entry) p.spot st

module _ {S R : Type 0} (t x : List ℕ) (visit : ℕ → Spot → S → Visit S R) where
  module _ (k g s : ℕ) (places : List ℕ) (st : S) (rest : S → Walked S R) where
    -- the selector that comes first
    abbrev first : ℕ
    first = selector_at (run_count t) x g s

    pub walk-passed : first ≡ 63 → walk_selectors t x visit (suc k) g s places st rest ≡ walk_selectors t x visit k g (s + 1) places st rest
    unfolding walk_selectors
    walk-passed e = rw (eq-eqb first 63 e)

    pub walk-visits : (first ≡ 63 → ⊥) → named t places first ≡ true
        → walk_selectors t x visit (suc k) g s places st rest
        ≡ after (visit first (record { segment = g; selector = s; places = places }) st)
        (λ st'. walk_selectors t x visit k g (s + 1) (raise places (first % 64)) st' rest)
    unfolding walk_selectors after
    walk-visits d n = rw (ne_eqb first 63 d, n) (go_on (visit first (record { segment = g; selector = s; places = places }) st))
      where
        on : S → Walked S R
        on st' = walk_selectors t x visit k g (s + 1) (raise places (first % 64)) st' rest

        go_on : (v : Visit S R) → elim v as (λ _. Walked S R) [ stay r ↦ stayed r | go st' ↦ on st' ] ≡ after v on
        go_on (stay r) = refl
        go_on (go st') = refl

  pub walk-filled : (n g s i : ℕ) (places : List ℕ) (st : S) (rest : S → Walked S R) → i ≡ selectors_at t x g + s
      → Filled (bytes_from x n i) → walk_selectors t x visit n g s places st rest ≡ rest st
  unfolding walk_selectors listed
  walk-filled zero g s i places st rest e f = refl
  walk-filled (suc n) g s i places st rest e f =
      walk-passed n g s places st rest (ap (λ j. get_or x j 0) (sym e) ∙ f 0 (omega arith))
      ∙ walk-filled n g (s + 1) (suc i) places st rest (omega arith) (λ j l. f (suc j) (omega arith))

module _ {S R : Type 0} {t : List ℕ} (sound : Sound t) (x : List ℕ) (visit : ℕ → Spot → S → Visit S R) (g : ℕ) (rest : S → Walked S R) where
  -- a selector that spells a record: the visit there, and then the others
  walk-one : (n s i : ℕ) (b : List Item) (e : Item) (w : List Item) (st : S) → i ≡ selectors_at t x g + s
      → view key_of (runs_of t) ≡ b ++ (e ∷ w) → get_or x i 0 ≡ selector_of (runs_of t) e
      → walk_selectors t x visit (suc n) g s (places_of b) st rest
      ≡ after (visit (selector_of (runs_of t) e) (spot_at g s b) st)
      (λ st'. walk_selectors t x visit n g (s + 1) (places_of (b ++ (e ∷ []))) st' rest)
  walk-one n s i b e w st at is v-is =
      let v : selector_at (run_count t) x g s ≡ selector_of (runs_of t) e = ap (λ j. get_or x j 0) (sym at) ∙ v-is in
      let places : raise (places_of b) (selector_at (run_count t) x g s % 64) ≡ places_of (b ++ (e ∷ [])) =
      ap (λ u. raise (places_of b) (u % 64)) v ∙ ap (raise (places_of b)) (selector-run sound b e w is) ∙ raise-places_of b e in
      walk-visits t x visit n g s (places_of b) st rest (λ p. selector-spells sound b e w is (sym v ∙ p))
      (ap (named t (places_of b)) v ∙ selector-named sound b e w is)
      ∙ rw places (ap (λ u. after (visit u (spot_at g s b) st) (λ st'. walk_selectors t x visit n g (s + 1) (places_of (b ++ (e ∷ []))) st' rest)) v)

  pub walk-segment : (n s i : ℕ) (b es w : List Item) (st : S) → i ≡ selectors_at t x g + s
      → view key_of (runs_of t) ≡ b ++ (es ++ w)
      → Ended (bytes_from x n i) → spelled (bytes_from x n i) ≡ map (selector_of (runs_of t)) es
      → walk_selectors t x visit n g s (places_of b) st rest ≡ tour_then (seen t visit) (spots_in g s b es) st rest
  unfolding walk_selectors listed spots_in tour_then spelled
  walk-segment zero s i b [] w st at is ended spells = refl
  walk-segment zero s i b (e ∷ es) w st at is ended spells = never (cc)
  walk-segment (suc n) s i b [] w st at is ended spells =
      cases (eqb (get_or x i 0) 63)
      (λ y. let v = eqb-true (get_or x i 0) 63 y in
      walk-passed t x visit n g s (places_of b) st rest (ap (λ j. get_or x j 0) (sym at) ∙ v)
      ∙ walk-filled t x visit n g (s + 1) (suc i) (places_of b) st rest (omega arith) (ended-filled _ (bytes_from x n (suc i)) v ended))
      (λ y. let z = sym (spelled-more _ (bytes_from x n (suc i)) (eqb-false (get_or x i 0) 63 y)) ∙ spells in never (cc))
  walk-segment (suc n) s i b (e ∷ es) w st at is ended spells =
      cases (eqb (get_or x i 0) 63)
      (λ y. let z = sym (spelled-end _ (bytes_from x n (suc i)) (eqb-true (get_or x i 0) 63 y)) ∙ spells in never (cc))
      (λ y. let z = sym (spelled-more _ (bytes_from x n (suc i)) (eqb-false (get_or x i 0) 63 y)) ∙ spells in
      walk-one n s i b e (es ++ w) st at is (cc)
      ∙ after-ext (visit (selector_of (runs_of t) e) (spot_at g s b) st)
      (λ st'. walk-segment n (s + 1) (suc i) (b ++ (e ∷ [])) es w st' (omega arith) (is ∙ sym (append_snoc b e (es ++ w)))
      (ended-tail _ (bytes_from x n (suc i)) ended) (cc)))
