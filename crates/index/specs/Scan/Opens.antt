-- How a segment opens: its offsets, and its first selector, whose record is not marked old.
--     held-right, right-held          the offsets hold exactly where they are right
--     Opens                           the first selector and those after it spell the segment's records
--     begins-opens, opens-begins      the first selector passes the scan exactly where they do
use Rattle.std.specs.Prelude.{◌≡◌, ℕ, ◌%◌, ◌<◌, true, false, List, [], ◌∷◌, ◌++◌}
use Rattle.std.proofs.Common.{sym, ◌∙◌, arith}
use Rattle.std.proofs.Math.Path.{ap}
use borrow.Author.Tests.{eqb-true, eq-eqb}
use Rattle.theory.specs.Records.{Record}
use Rattle.theory.specs.Places.{Head}
use Rattle.tray.specs.Frame.{run_count}
use Rattle.tray.specs.Check.{Sound}
use Rattle.tray.specs.Meaning.{runs_of}
use Rattle.tray.specs.Meaning.Laws.{length-runs_of}
use Rattle.index.specs.Layout.{segment_from}
use Rattle.index.specs.Layout.Laws.{offset_at}
use Rattle.index.specs.Rules.{placeholder, Item, OffsetsRight}
use Rattle.index.specs.Scan.{marked, begins, offsets_hold, names}
use Rattle.index.specs.Scan.Laws.{offsets_hold-all, all-offsets_hold, marked-spells}
use Rattle.index.specs.Scan.Places.{places_of, get_or-places_of}
use Rattle.index.specs.Scan.Entry.{read, next_entry, head-low, names-head}
use Rattle.index.specs.Scan.Trails.{Trails}
use Rattle.index.specs.Scan.Following.{mark-names, mark-entry}

-- the selectors v and then vs spell the records c and then es, read after b; c is not marked old
pub record Opens (t : List (List Record)) (b : List Item) (v : ℕ) (vs : List ℕ) (c : Item) (es : List Item) : Type 0 where
  pub spells : v ≡ placeholder → ⊥
  pub head : Head t (read b) c
  pub mark : v ≡ marked c.run c.item false
  pub later : Trails t (b ++ (c ∷ [])) c vs es

module _ {t : List ℕ} (sound : Sound t) (b : List Item) where
  module _ (d : ℕ) (x : List ℕ) (at : ℕ) where
    pub held-right : offsets_hold x at (places_of b) (run_count t) ≡ true → OffsetsRight (runs_of t) (segment_from (run_count t) d x at) b
    held-right h r l =
        let run : r < run_count t = omega (arith, length-runs_of t) in
        offset_at (run_count t) d x at r run ∙ offsets_hold-all x at (places_of b) (run_count t) h r run
        ∙ get_or-places_of b r (omega (arith, sound.frame.most-runs))

    pub right-held : OffsetsRight (runs_of t) (segment_from (run_count t) d x at) b → offsets_hold x at (places_of b) (run_count t) ≡ true
    right-held h =
        all-offsets_hold x at (places_of b) (run_count t)
        (λ r l. sym (offset_at (run_count t) d x at r l) ∙ h r (omega (arith, length-runs_of t))
        ∙ sym (get_or-places_of b r (omega (arith, sound.frame.most-runs))))

  module _ (v : ℕ) where
    -- the record that the first selector names
    abbrev pub opener : Item
    opener = next_entry t b (v % 64)

    -- and that it is not marked old
    begins-mark : begins v opener.item ≡ true → v ≡ marked opener.run opener.item false
    unfolding begins
    begins-mark h = eqb-true _ _ h

    mark-begins : (c : Item) → opener ≡ c → v ≡ marked c.run c.item false → begins v opener.item ≡ true
    unfolding begins
    mark-begins c is mark = eq-eqb _ _ (mark ∙ ap (λ y. marked y.run y.item false) (sym is))

    pub begins-opens : {vs : List ℕ} {es : List Item} → names t (run_count t) (places_of b) v ≡ true → begins v opener.item ≡ true
        → Trails (runs_of t) (b ++ (opener ∷ [])) opener vs es → Opens (runs_of t) b v vs opener es
    begins-opens named begun later =
        let head = names-head sound b v named in let mark = begins-mark begun in
        record {
          spells = λ p. marked-spells opener.run opener.item false (head-low sound b opener head) (sym mark ∙ p);
          head = head;
          mark = mark;
          later = later;
        }

    pub opens-begins : {vs : List ℕ} {c : Item} {es : List Item} → Opens (runs_of t) b v vs c es
        → (opener ≡ c) × (names t (run_count t) (places_of b) v ≡ true) × (begins v opener.item ≡ true)
    opens-begins {c = c} o =
        let is = mark-entry sound b c false v o.head o.mark in
        (is, mark-names sound b c false v o.head o.mark, mark-begins c is o.mark)
