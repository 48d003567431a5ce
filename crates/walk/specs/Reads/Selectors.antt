-- The selectors of a right segment one by one, and the places that a cursor at one of them must have.
--     selector-there, selector-gap     a selector that spells a record, and one after them all
--     record-at                        the record at a selector
--     selectors_of-count                the selectors of a run before one are its records before it
--     places_at-are                     so the places are those after the records before it
use Rattle.std.specs.Prelude.{◌≡◌, drop, ltb}
use Rattle.std.proofs.Math.Path.{refl, sym, ap, ap₂}
use Rattle.std.proofs.Common.{◌∙◌, add-zero, arith, drop_of_length-le, take-append-drop, drop_at, length-take-le}
use Prim.Native.Nat.{ℕ, zero, suc, ◌+◌, ◌-◌, ◌%◌, ◌≤◌, ◌<◌}
use Rattle.std.proofs.Math.Nat.{zero-add}
use Rattle.std.proofs.Math.Bool.{false, cond}
use mathlib.Core.List.{List, [], ◌∷◌, ◌++◌, map, map-append, append_assoc}
use Rattle.std.proofs.Math.ListN.{length, take}
use Rattle.std.proofs.lemmas.List.{length-map}
use Rattle.std.proofs.Math.Seq.{take_all}
use Rattle.std.proofs.Math.Dec.{eqb}
use borrow.Author.Tests.{eqb-true, eqb-false, ne_eqb, ltb-true, ltb-false}
use Rattle.theory.specs.Listed.{listed}
use Rattle.theory.proofs.Listed.Laws.{listed_same}
use Rattle.theory.specs.Tests.{cases, never, split}
use Rattle.theory.specs.View.{view}
use Rattle.theory.specs.Places.{count}
use Rattle.theory.proofs.Places.Passed.{count-append}
use Rattle.tray.specs.Frame.{run_count}
use Rattle.tray.specs.Check.{Sound}
use Rattle.tray.specs.Meaning.{runs_of}
use Rattle.index.specs.Layout.{size_of, segment_at, offset_from}
use Rattle.index.specs.Rules.{key_of, Item, spelled, selector_of}
use Rattle.index.specs.Rules.Laws.{spelled-end, spelled-more}
use Rattle.index.specs.Scan.Laws.{bytes_from}
use Rattle.index.specs.Scan.Places.{places_of}
use Rattle.walk.specs.Walk.{selector_at}
use Rattle.walk.specs.Walk.Segment.{selectors_at}
use Rattle.walk.specs.Walk.Pieces.{Piece, piece-ended, piece-spelled, piece-offset, past-runs}
use Rattle.walk.specs.Walk.Named.{selector-run}
use Rattle.walk.specs.Walk.Laws.{spelled-drop}
use Rattle.walk.specs.Reads.{selectors_of, places_at}

-- what the first selector is, from what it and those after it spell
first-spelled : (v : ℕ) (vs : List ℕ) {u : ℕ} {us : List ℕ} → spelled (v ∷ vs) ≡ u ∷ us → v ≡ u
first-spelled v vs e =
    cases (eqb v 63) (λ y. let z = sym (spelled-end v vs (eqb-true v 63 y)) ∙ e in never (cc))
    (λ n. let z = sym (spelled-more v vs (eqb-false v 63 n)) ∙ e in cc)

first-gap : (v : ℕ) (vs : List ℕ) → spelled (v ∷ vs) ≡ [] → v ≡ 63
first-gap v vs e =
    cases (eqb v 63) (λ y. eqb-true v 63 y)
    (λ n. let z = sym (spelled-more v vs (eqb-false v 63 n)) ∙ e in never (cc))

-- the record at selector s, if the segment has so many
pub record-at : (s : ℕ) (us : List Item) → s < length us
    → (e : Item) × (es : List Item) × (us ≡ take s us ++ (e ∷ es)) × (take (suc s) us ≡ take s us ++ (e ∷ []))
record-at s [] l = absurd (omega arith)
record-at zero (e ∷ us) l = (e, us, refl, refl)
record-at (suc s) (a ∷ us) l =
    let w = record-at s us (omega arith) in
    (w.0, w.1, ap {B = List Item} (λ l. a ∷ l) w.2, ap {B = List Item} (λ l. a ∷ l) w.3)

module _ {t x : List ℕ} {k g : ℕ} {b own left : List Item} (piece : Piece t x k g b own left) where
  module _ (s : ℕ) (inside : s < size_of x) where
    -- what the selectors from it on spell
    spelled-from : spelled (selector_at (run_count t) x g s ∷ bytes_from x (size_of x - suc s) (suc (selectors_at t x g + s)))
        ≡ drop s (map (selector_of (runs_of t)) own)
    unfolding listed
    spelled-from =
        (spelled-drop x s (size_of x) (suc (size_of x - suc s)) (selectors_at t x g) (selectors_at t x g + s) (omega arith) refl (piece-ended piece)).1
        ∙ ap (drop s) (piece-spelled piece)

    pub selector-there : (us : List Item) (e : Item) (es : List Item) → own ≡ us ++ (e ∷ es) → s ≡ length us
        → selector_at (run_count t) x g s ≡ selector_of (runs_of t) e
    selector-there us e es p q =
        let f = selector_of (runs_of t) in
        first-spelled _ _ (spelled-from ∙ ap (λ l. drop s (map f l)) p ∙ ap (drop s) (map-append f us (e ∷ es))
        ∙ drop_at (map f us) (map f (e ∷ es)) s (length-map us f ∙ sym q))

    pub selector-gap : length own ≤ s → selector_at (run_count t) x g s ≡ 63
    selector-gap l =
        first-gap _ _ (spelled-from ∙ drop_of_length-le (map (selector_of (runs_of t)) own) {i = s} (omega (arith, length-map own (selector_of (runs_of t)))))

  module _ (sound : Sound t) (r : ℕ) (low : r < run_count t) where
    -- one selector more counts for the run of its record
    count-more : (s : ℕ) → s < size_of x
        → count r (take s own) + cond (eqb (selector_at (run_count t) x g s % 64) r) 1 0 ≡ count r (take (suc s) own)
    unfolding count
    count-more s l =
        cases (ltb s (length own))
        (λ y. let w = record-at s own (ltb-true s (length own) y) in let us = take s own in
        let long : s ≡ length us = sym (length-take-le s own (omega (arith, ltb-true s (length own) y))) in
        let whole : view key_of (runs_of t) ≡ (b ++ us) ++ (w.0 ∷ (w.1 ++ left)) =
        piece.whole ∙ ap (λ l. b ++ (l ++ left)) w.2 ∙ simp append_assoc in
        let run : selector_at (run_count t) x g s % 64 ≡ w.0.run =
        ap (λ (v : ℕ). v % 64) (selector-there s l us w.0 w.1 w.2 long) ∙ selector-run sound (b ++ us) w.0 (w.1 ++ left) whole in
        rw (run, w.3, count-append r us (w.0 ∷ [])) refl)
        (λ n. let past = ltb-false s (length own) n in
        let off : eqb (selector_at (run_count t) x g s % 64) r ≡ false =
        ne_eqb _ r (λ q. omega (arith, q, ap (λ (v : ℕ). v % 64) (selector-gap s l past), sound.frame.most-runs)) in
        rw (off, take_all (suc s) own (omega arith), take_all s own past) (add-zero _))

    pub selectors_of-count : (s : ℕ) → s ≤ size_of x → selectors_of (run_count t) x g r s ≡ count r (take s own)
    unfolding selectors_of count
    selectors_of-count zero l = refl
    selectors_of-count (suc s) l = rw (selectors_of-count s (omega arith)) (count-more s l)

  pub places_at-are : Sound t → (s : ℕ) → s ≤ size_of x → places_at (run_count t) x g s ≡ places_of (b ++ take s own)
  unfolding places_at places_of
  places_at-are sound s l = listed_same 63 0 0 _ _ (λ r _. rw zero-add (at r))
    where
      at : (r : ℕ) → cond (ltb r (run_count t)) (offset_from x (segment_at (run_count t) (size_of x) g) r + selectors_of (run_count t) x g r s) 0
          ≡ count r (b ++ take s own)
      at r =
          split (λ n. n ≡ count r (b ++ take s own)) (ltb r (run_count t))
          (λ y. let low = ltb-true r (run_count t) y in
          ap₂ (λ m n. m + n) (piece-offset piece r low) (selectors_of-count sound r low s l) ∙ sym (count-append r b (take s own)))
          (λ n. sym (past-runs t r (ltb-false r (run_count t) n) (b ++ take s own) (drop s own ++ left)
          (piece.whole ∙ ap (λ l. b ++ (l ++ left)) (sym (take-append-drop s own)) ∙ simp append_assoc)))
