-- An accepted index piece by piece: each segment with its own records, those before it and those that are left.
--     Spelt, Piece                               the last segments, and one right segment with those after it
--     spelt-piece                                of segments that spell some records the first is a piece
--     piece-long, piece-spots                    as many records as it spells; its stops come first, and then those of the others
--     past-runs                                  no record is of a run that the tray has not
--     piece-offset, piece-places                 entering a piece loads the places after the records before it
--     piece-ended, piece-spelled                 its selectors spell its records, and then come placeholders
--     OfPieces, each_from, each-spots            a property of each stop, piece by piece
--     all-spelt, entries_from, entries-spots     all segments spell the view, and the records at the stops are the view
use Rattle.std.specs.Prelude.{◌≡◌, refl, ltb}
use Rattle.std.proofs.Math.Path.{sym, ap, subst}
use Rattle.std.proofs.Common.{◌∙◌, arith, take_at, ltb-true, ltb-false, ne_eqb}
use Prim.Native.Nat.{ℕ, zero, suc, ◌+◌, ◌≤◌, ◌<◌}
use Rattle.std.proofs.Math.Nat.{zero-add}
use Rattle.std.proofs.Math.Numerals.{add-one}
use Rattle.std.proofs.Math.Bool.{cond}
use mathlib.Core.List.Memᴰ
use mathlib.Core.List.{List, [], ◌∷◌, ◌++◌, map, map-append, append_assoc}
use Rattle.std.proofs.Math.ListN.{length}
use Rattle.std.proofs.lemmas.List.{length-map}
use Rattle.std.proofs.Math.Seq.{drop_at}
use Rattle.theory.specs.Listed.{listed}
use Rattle.theory.proofs.Listed.Laws.{listed_same}
use Rattle.theory.specs.Lists.{here, all_tail}
use Rattle.theory.specs.Rising.{All}
use Rattle.theory.specs.Tests.{split}
use Rattle.theory.specs.View.{view}
use Rattle.theory.proofs.View.Entries.{at-run}
use Rattle.theory.proofs.View.Laws.{view-at}
use Rattle.theory.specs.Places.{count}
use Rattle.tray.specs.Frame.{run_count}
use Rattle.tray.specs.Meaning.{runs_of}
use Rattle.tray.specs.Meaning.Laws.{length-runs_of}
use Rattle.index.specs.Layout.{size_of, segment_count, segment_at, segment_of, segments_of, offset_from}
use Rattle.index.specs.Layout.Laws.{offset_at, selectors-listed}
use Rattle.index.specs.Rules.{key_of, Item, spelled, selector_of, Right, Follows}
use Rattle.index.specs.Rules.Laws.{Ended}
use Rattle.index.specs.Scan.All.{follows-none, follows-cons}
use Rattle.index.specs.Scan.Laws.{bytes_from}
use Rattle.index.specs.Scan.Places.{places_of}
use Rattle.walk.specs.Walk.{loaded}
use Rattle.walk.specs.Walk.Spots.{Reading, Stop, spots_in, spells, spots_from, spots, entries_of, entries-in}
use Rattle.walk.specs.Walk.Tours.{Each, each_none, each_append}
use Rattle.walk.specs.Walk.Segment.{selectors_at}

-- k segments from segment g on are the last ones and right one after the other, after the records b: they spell w
pub record Spelt (t x : List ℕ) (k g : ℕ) (b w : List Item) : Type 0 where
  pub number : g + k ≡ segment_count x
  pub whole : view key_of (runs_of t) ≡ b ++ w
  pub follows : Follows (runs_of t) (listed k g (segment_of (run_count t) x)) b w (view key_of (runs_of t)) []

-- segment g is right with its own records, after the records b, and k segments after it spell what is left
pub record Piece (t x : List ℕ) (k g : ℕ) (b own left : List Item) : Type 0 where
  pub inside : g < segment_count x
  pub whole : view key_of (runs_of t) ≡ b ++ (own ++ left)
  pub right : Right (runs_of t) (segment_of (run_count t) x g) b own left
  pub later : Spelt t x k (g + 1) (b ++ own) left

-- no record of the run
count_none : (r : ℕ) (b : List Item) → All (λ e. e.run ≡ r → ⊥) b → count r b ≡ 0
unfolding count
count_none r [] h = refl
count_none r (e ∷ b) h = rw (ne_eqb e.run r (h e here)) (count_none r b (all_tail h))

-- no record of the view is of a run that the tray has not
pub past-runs : (t : List ℕ) (r : ℕ) → run_count t ≤ r → (c w : List Item) → view key_of (runs_of t) ≡ c ++ w → count r c ≡ 0
past-runs t r l c w is =
    count_none r c (λ e m p. omega (
      arith,
      length-runs_of t,
      at-run (runs_of t) e (view-at key_of (runs_of t) e (rw is (Memᴰ.append_left w m))),
    ))

-- of each piece, the stops, and then those of the pieces after it, have the property
abbrev pub OfPieces : List ℕ → List ℕ → (Stop → List Stop → Type 0) → Type 0
OfPieces t x P = (k g : ℕ) (b own left : List Item) → Piece t x k g b own left
    → Each (λ p qs. P p (qs ++ spots_from t x k (g + 1) (b ++ own) left)) (spots_in g 0 b own)

module _ {t x : List ℕ} where
  -- of segments that spell w the first one is a piece
  pub spelt-piece : {k g : ℕ} {b w : List Item} → Spelt t x (suc k) g b w
      → (own : List Item) × (left : List Item) × (w ≡ own ++ left) × Piece t x k g b own left
  unfolding listed
  spelt-piece {k} {g} {b} f =
      let one = follows-cons f.follows in let whole = f.whole ∙ ap (λ l. b ++ l) one.0.parts in
      let after : Spelt t x k (g + 1) (b ++ one.0.own) one.0.left =
      record { number = omega (arith, f.number); whole = whole ∙ sym (append_assoc b one.0.own one.0.left); follows = rw add-one one.1 } in (
        one.0.own,
        one.0.left,
        one.0.parts,
        record { inside = omega (arith, f.number); whole = whole; right = one.0.is_right; later = after },
      )

  module _ {k g : ℕ} {b own left : List Item} (piece : Piece t x k g b own left) where
    -- as many records as it spells
    pub piece-long : spells t x g ≡ length own
    piece-long = ap length piece.right.spells ∙ length-map own (selector_of (runs_of t))

    pub piece-spots : spots_from t x (suc k) g b (own ++ left) ≡ spots_in g 0 b own ++ spots_from t x k (g + 1) (b ++ own) left
    unfolding spots_from
    piece-spots =
        let long : length own ≡ spells t x g = sym piece-long in
        rw (take_at own left (spells t x g) long, drop_at own left (spells t x g) long)

    -- the offset of a run is the number of its records before
    pub piece-offset : (r : ℕ) → r < run_count t → offset_from x (segment_at (run_count t) (size_of x) g) r ≡ count r b
    piece-offset r l =
        sym (offset_at (run_count t) (size_of x) x (segment_at (run_count t) (size_of x) g) r l)
        ∙ piece.right.offsets r (omega (arith, length-runs_of t))

    pub piece-places : loaded (run_count t) x g ≡ places_of b
    unfolding loaded places_of
    piece-places = listed_same 63 0 0 _ _ (λ r l. rw zero-add (at r))
      where
        at : (r : ℕ) → cond (ltb r (run_count t)) (offset_from x (segment_at (run_count t) (size_of x) g) r) 0 ≡ count r b
        at r =
            split (λ n. n ≡ count r b) (ltb r (run_count t)) (λ y. piece-offset r (ltb-true r (run_count t) y))
            (λ n. sym (past-runs t r (ltb-false r (run_count t) n) b (own ++ left) piece.whole))

    selectors-are : (segment_of (run_count t) x g).selectors ≡ bytes_from x (size_of x) (selectors_at t x g)
    selectors-are = selectors-listed (run_count t) (size_of x) x (segment_at (run_count t) (size_of x) g)

    pub piece-ended : Ended (bytes_from x (size_of x) (selectors_at t x g))
    piece-ended = subst Ended selectors-are piece.right.placeholders.after

    pub piece-spelled : spelled (bytes_from x (size_of x) (selectors_at t x g)) ≡ map (selector_of (runs_of t)) own
    piece-spelled = ap spelled (sym selectors-are) ∙ piece.right.spells

  pub each_from : {P : Stop → List Stop → Type 0} → OfPieces t x P → (k : ℕ) {g : ℕ} {b w : List Item} → Spelt t x k g b w
      → Each P (spots_from t x k g b w)
  unfolding spots_from
  each_from h zero f = each_none
  each_from {P} h (suc k) {g} {b} f =
      let one = spelt-piece f in let piece = one.3 in
      let those = each_append (h k g b one.0 one.1 piece) (each_from h k piece.later) in
      subst (λ l. Each P (spots_from t x (suc k) g b l)) (sym one.2) (rw (piece-spots piece) those)

  pub entries_from : (k : ℕ) {g : ℕ} {b w : List Item} → Spelt t x k g b w → entries_of (spots_from t x k g b w) ≡ w
  unfolding spots_from listed
  entries_from zero f = sym (follows-none f.follows).1
  entries_from (suc k) {g} {b} f =
      let one = spelt-piece f in let piece = one.3 in
      ap (λ l. entries_of (spots_from t x (suc k) g b l)) one.2 ∙ ap entries_of (piece-spots piece)
      ∙ map-append (λ p. p.entry) (spots_in g 0 b one.0) _ ∙ rw (entries-in, entries_from k piece.later) (sym one.2)

  module _ (r : Reading t x) where
    -- all segments spell the view
    pub all-spelt : Spelt t x (segment_count x) 0 [] (view key_of (runs_of t))
    unfolding segments_of
    all-spelt = record { number = zero-add (segment_count x); whole = refl; follows = r.accepted }

    pub each-spots : {P : Stop → List Stop → Type 0} → OfPieces t x P → Each P (spots t x)
    unfolding spots
    each-spots h = each_from h (segment_count x) all-spelt

    pub entries-spots : entries_of (spots t x) ≡ view key_of (runs_of t)
    unfolding spots
    entries-spots = entries_from (segment_count x) all-spelt
