-- The central theorem: for any visitor, the walk through an accepted index visits the records of the view one by one, each at its stop, and is
-- never lost; so it does from the start of any segment, and from any stop on.
--     spelled-drop                       what some of a segment's selectors spell
--     walk-spelt                         the walk over the last segments
--     walk_inside                        from a record inside a segment on
--     walk-behind                        from a placeholder on
--     walk-tours                         the walk over the whole index
--     piece-fits                         a segment has no more records than selectors
--     AtEach, each_in                    a property of each record of a segment at its stop
--     WalksOn, walk-spots, walk_from_lem     from any stop on
use Rattle.std.specs.Prelude.{◌≡◌, get_or, drop, eqb}
use Rattle.std.proofs.Math.Path.{refl, sym, ap}
use Rattle.std.proofs.Common.{◌∙◌, subst₂, add-zero, arith, drop_of_length-le, drop_at, lt-ltb, eqb-true}
use Prim.Native.Nat.{ℕ, zero, suc, ◌+◌, ◌-◌, ◌≤◌}
use mathlib.Core.List.{List, [], ◌∷◌, ◌++◌, map, map-append, append_assoc, append-nil}
use Rattle.std.proofs.Math.ListN.{length, length-append, length-map}
use Rattle.std.proofs.Math.Seq.{drop-nil, append_snoc}
use Rattle.std.proofs.lemmas.Bool.{eqb-false}
use Rattle.theory.specs.Listed.{listed}
use Rattle.theory.proofs.Listed.Laws.{length-listed}
use Rattle.theory.specs.Tests.{cases, split}
use Rattle.theory.specs.View.{view}
use Rattle.tray.specs.Check.{Sound}
use Rattle.tray.specs.Meaning.{runs_of}
use Rattle.index.specs.Layout.{size_of, segment_count}
use Rattle.index.specs.Rules.{key_of, Item, spelled, selector_of}
use Rattle.index.specs.Rules.Laws.{Ended, Filled, ended-tail, ended-filled, spelled-end, spelled-more}
use Rattle.index.specs.Scan.Laws.{bytes_from}
use Rattle.walk.specs.Walk.{Spot, Visit, ended, walk_selectors, walk_segments, walk_from}
use Rattle.walk.specs.Walk.Spots.{Reading, Stop, spot_at, spots_in, spots_from, spots}
use Rattle.walk.specs.Walk.Tours.{tour_then, tour, tour_then-ext, tour_then-append, Each, each_none, each_more, each_at}
use Rattle.walk.specs.Walk.Segment.{seen, selectors_at, walk-segment}
use Rattle.walk.specs.Walk.Pieces.{Spelt, Piece, spelt-piece, piece-spots, piece-places, piece-ended, piece-spelled, all-spelt, each-spots}

-- placeholders spell nothing
spelled-filled : (vs : List ℕ) → Filled vs → spelled vs ≡ []
unfolding spelled
spelled-filled [] f = refl
spelled-filled (v ∷ vs) f = spelled-end v vs (f 0 (omega arith))

-- past s selectors: what they spell, past s of it
pub spelled-drop : (x : List ℕ) (s n m i j : ℕ) → n ≡ s + m → j ≡ i + s → Ended (bytes_from x n i)
    → Ended (bytes_from x m j) × (spelled (bytes_from x m j) ≡ drop s (spelled (bytes_from x n i)))
unfolding listed
spelled-drop x zero n m i j p q f =
    let same : n ≡ m = omega arith in let at : i ≡ j = omega arith in
    (subst₂ (λ k l. Ended (bytes_from x k l)) same at f, rw (same, at))
spelled-drop x (suc s) zero m i j p q f = absurd (omega arith)
spelled-drop x (suc s) (suc n) m i j p q f =
    let vs = bytes_from x n (suc i) in
    let w = spelled-drop x s n m (suc i) j (omega arith) (omega arith) (ended-tail (get_or x i 0) vs f) in (
      w.0,
      cases (eqb (get_or x i 0) 63)
          (λ y. let v = eqb-true (get_or x i 0) 63 y in
          w.1 ∙ ap (drop s) (spelled-filled vs (ended-filled (get_or x i 0) vs v f)) ∙ drop-nil s ∙ sym (ap (drop (suc s)) (spelled-end (get_or x i 0) vs v)))
          (λ y. w.1 ∙ sym (ap (drop (suc s)) (spelled-more (get_or x i 0) vs (eqb-false (get_or x i 0) 63 y)))),
    )

module _ {S R : Type 0} {t x : List ℕ} (visit : ℕ → Spot → S → Visit S R) where
  pub walk-spelt : Sound t → (k : ℕ) {g : ℕ} {b w : List Item} → Spelt t x k g b w → (st : S)
      → walk_segments t x visit k g st ≡ tour (seen t visit) (spots_from t x k g b w) st
  unfolding walk_segments spots_from tour_then
  walk-spelt sound zero f st = refl
  walk-spelt sound (suc k) {g} {b} f st =
      let one = spelt-piece f in let piece = one.3 in
      ap (λ l. walk_selectors t x visit (size_of x) g 0 l st (walk_segments t x visit k (g + 1))) (piece-places piece)
      ∙ walk-segment sound x visit g _ (size_of x) 0 _ b one.0 one.1 st (sym (add-zero _)) piece.whole (piece-ended piece) (piece-spelled piece)
      ∙ tour_then-ext (seen t visit) (spots_in g 0 b one.0) st (walk-spelt sound k piece.later)
      ∙ sym (tour_then-append (seen t visit) (spots_in g 0 b one.0) _ st ended)
      ∙ ap (λ l. tour (seen t visit) l st) (sym (piece-spots piece))
      ∙ ap (λ l. tour (seen t visit) (spots_from t x (suc k) g b l) st) (sym one.2)

  module _ (sound : Sound t) {k g : ℕ} {b own left : List Item} (piece : Piece t x k g b own left) (s : ℕ) (fits : s ≤ size_of x) where
    -- from selector s on, where the selectors from there on spell es
    walk-past : (c es : List Item) (st : S) → view key_of (runs_of t) ≡ c ++ (es ++ left)
        → map (selector_of (runs_of t)) es ≡ drop s (map (selector_of (runs_of t)) own)
        → walk_from t x visit (spot_at g s c) st ≡ tour (seen t visit) (spots_in g s c es ++ spots_from t x k (g + 1) (b ++ own) left) st
    unfolding walk_from
    walk-past c es st whole are =
        let from = spelled-drop x s (size_of x) (size_of x - s) (selectors_at t x g) (selectors_at t x g + s) (omega arith) refl (piece-ended piece) in
        let left_over : segment_count x - (g + 1) ≡ k = omega (arith, piece.later.number) in
        rw (lt-ltb g (segment_count x) piece.inside, left_over)
        (walk-segment sound x visit g _ (size_of x - s) s _ c es left st refl whole from.0 (from.1 ∙ ap (drop s) (piece-spelled piece) ∙ sym are)
        ∙ tour_then-ext (seen t visit) (spots_in g s c es) st (walk-spelt sound k piece.later)
        ∙ sym (tour_then-append (seen t visit) (spots_in g s c es) _ st ended))

    pub walk_inside : (us es : List Item) → own ≡ us ++ es → s ≡ length us → (st : S)
        → walk_from t x visit (spot_at g s (b ++ us)) st
        ≡ tour (seen t visit) (spots_in g s (b ++ us) es ++ spots_from t x k (g + 1) (b ++ own) left) st
    walk_inside us es parts long st =
        walk-past (b ++ us) es st
        (piece.whole ∙ ap (λ l. b ++ (l ++ left)) parts ∙ simp append_assoc)
        (sym (drop_at (map (selector_of (runs_of t)) us) (map (selector_of (runs_of t)) es) s (length-map us (selector_of (runs_of t)) ∙ sym long))
        ∙ ap (drop s) (sym (ap (map (selector_of (runs_of t))) parts ∙ map-append (selector_of (runs_of t)) us es)))

    pub walk-behind : length own ≤ s → (st : S)
        → walk_from t x visit (spot_at g s (b ++ own)) st ≡ tour (seen t visit) (spots_from t x k (g + 1) (b ++ own) left) st
    unfolding spots_in
    walk-behind l st =
        walk-past (b ++ own) [] st piece.later.whole
        (sym (drop_of_length-le (map (selector_of (runs_of t)) own) {i = s} (omega (arith, length-map own (selector_of (runs_of t))))))

-- no more are spelled than there are selectors
spelled-length : (vs : List ℕ) → length (spelled vs) ≤ length vs
unfolding spelled
spelled-length [] = omega arith
spelled-length (v ∷ vs) =
    let l = spelled-length vs in
    split (λ us. length us ≤ suc (length vs)) (eqb v 63) {x = []} {y = v ∷ spelled vs} (λ _. omega arith) (λ _. omega arith)

-- a segment has no more records than selectors
pub piece-fits : {t x : List ℕ} {k g : ℕ} {b own left : List Item} → Piece t x k g b own left → length own ≤ size_of x
piece-fits {t} {x} {g = g} {own = own} piece =
    omega (
      arith,
      spelled-length (bytes_from x (size_of x) (selectors_at t x g)),
      ap length (piece-spelled piece),
      length-map own (selector_of (runs_of t)),
      length-listed (size_of x) (selectors_at t x g) (λ j. get_or x j 0),
    )

-- a property of each record of a segment at its stop
module _ (P : Stop → List Stop → Type 0) (g : ℕ) (b own : List Item) where
  -- at selector s, after the segment's records us
  abbrev pub AtEach : Type 0
  AtEach = (s : ℕ) (us : List Item) (e : Item) (es : List Item) → own ≡ us ++ (e ∷ es) → s ≡ length us
      → P (record { entry = e; spot = spot_at g s (b ++ us) }) (spots_in g (s + 1) (b ++ us ++ (e ∷ [])) es)

  each-rest : AtEach → (s : ℕ) (us es : List Item) → own ≡ us ++ es → s ≡ length us → Each P (spots_in g s (b ++ us) es)
  unfolding spots_in
  each-rest h s us [] p q = each_none
  each-rest h s us (e ∷ es) p q =
      each_more (h s us e es p q)
      (rw append_assoc (each-rest h (s + 1) (us ++ (e ∷ [])) es (p ∙ sym (append_snoc us e es)) (simp length-append (omega arith))))

  pub each_in : AtEach → Each P (spots_in g 0 b own)
  each_in h = rw append-nil at (each-rest h 0 [] own refl refl)

-- the walk from a stop on visits it and those that follow it, for any visitor
abbrev pub WalksOn : Type 0 → Type 0 → List ℕ → List ℕ → Stop → List Stop → Type 0
WalksOn S R t x p qs = (visit : ℕ → Spot → S → Visit S R) (st : S) → walk_from t x visit p.spot st ≡ tour (seen t visit) (p ∷ qs) st

module _ {t x : List ℕ} (r : Reading t x) where
  pub walk-tours : {S R : Type 0} (visit : ℕ → Spot → S → Visit S R) (st : S)
      → walk_segments t x visit (segment_count x) 0 st ≡ tour (seen t visit) (spots t x) st
  unfolding spots
  walk-tours visit = walk-spelt visit r.sound (segment_count x) (all-spelt r)

  pub walk-spots : (S R : Type 0) → Each (WalksOn S R t x) (spots t x)
  unfolding spots_in
  walk-spots S R = each-spots r (λ k g b own left piece. each_in _ g b own (at k g b own left piece))
    where
      at : (k g : ℕ) (b own left : List Item) → Piece t x k g b own left
          → (s : ℕ) (us : List Item) (e : Item) (es : List Item) → own ≡ us ++ (e ∷ es) → s ≡ length us
          → WalksOn S R t x (record { entry = e; spot = spot_at g s (b ++ us) })
          (spots_in g (s + 1) (b ++ us ++ (e ∷ [])) es ++ spots_from t x k (g + 1) (b ++ own) left)
      at k g b own left piece s us e es p q visit st =
          let long : s ≤ length own = omega (arith, ap length p ∙ length-append us (e ∷ es)) in
          walk_inside visit r.sound piece s (omega (arith, piece-fits piece)) us (e ∷ es) p q st

  pub walk_from_lem : {S R : Type 0} (visit : ℕ → Spot → S → Visit S R) (us : List Stop) (p : Stop) (qs : List Stop) → spots t x ≡ us ++ (p ∷ qs)
      → (st : S) → walk_from t x visit p.spot st ≡ tour (seen t visit) (p ∷ qs) st
  walk_from_lem {S} {R} visit us p qs e st = each_at (walk-spots S R) us p qs e visit st
