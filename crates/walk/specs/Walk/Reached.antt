-- The start of any segment of an accepted index: what stands before it, and the walk from there on.
--     Reached, reach     the records and stops before segment g, and those from it on
--     walk-reached       the walk from there on visits the stops from there on
--     before-anchor      every key before a segment is below its anchor
use Rattle.std.specs.Prelude.{◌≡◌, refl, ℕ, zero, suc, ◌+◌, ◌≤◌, ◌<◌}
use Rattle.std.proofs.Common.{sym, ap, ◌∙◌, subst, ⊎_elim, arith, add-one}
use mathlib.Core.List.Memᴰ
use mathlib.Core.List.{List, [], ◌∷◌, ◌++◌, map-append, append_assoc}
use Rattle.theory.specs.Lists.{here, all_nil}
use Rattle.theory.specs.Rising.{Mem, All}
use Rattle.theory.proofs.Rising.Laws.{rises-across}
use Rattle.theory.specs.View.{rank, view}
use Rattle.theory.proofs.View.Laws.{view-rises}
use Rattle.tray.specs.Frame.{run_count}
use Rattle.tray.specs.Meaning.{runs_of}
use Rattle.index.specs.Layout.{size_of, segment_count, segment_at, anchor_from, segment_from, segment_of}
use Rattle.index.specs.Rules.{key_of, Item, Right}
use Rattle.index.specs.Rules.Cuts.{Cut, cut-start, cut_low, rank-key}
use Rattle.index.specs.Scan.All.{right-segment}
use Rattle.index.specs.Scan.Entry.{few, good}
use Rattle.index.specs.Scan.Right.{right-none}
use Rattle.walk.specs.Walk.{Spot, Visit, walk_segments}
use Rattle.walk.specs.Walk.Spots.{Reading, Stop, spots_in, spots_from, spots, entries_of, entries-in}
use Rattle.walk.specs.Walk.Tours.{tour}
use Rattle.walk.specs.Walk.Segment.{seen}
use Rattle.walk.specs.Walk.Pieces.{Spelt, Piece, spelt-piece, piece-spots, all-spelt}
use Rattle.walk.specs.Walk.Laws.{walk-spelt}
use Rattle.walk.specs.Walk.Order.{in-segment}

-- k segments from segment g on are the last ones: the records and stops before them, and the records that they spell
pub record Reached (t x : List ℕ) (k g : ℕ) : Type 0 where
  pub before : List Item
  pub left : List Item
  pub passed : List Stop
  pub spelt : Spelt t x k g before left
  pub parts : spots t x ≡ passed ++ spots_from t x k g before left
  pub entries : entries_of passed ≡ before
  pub early : All (λ p. p.spot.segment < g) passed
  pub cut : Cut (runs_of t) before left

module _ {t x : List ℕ} (r : Reading t x) where
  some-selector : 1 ≤ size_of x
  some-selector = omega (arith, r.frame.least, r.sound.frame.some-run)

  -- past one segment more
  reach-piece : {k g : ℕ} {b own left : List Item} → Piece t x k g b own left → (passed : List Stop)
      → spots t x ≡ passed ++ spots_from t x (suc k) g b (own ++ left) → entries_of passed ≡ b → All (λ p. p.spot.segment < g) passed
      → Cut (runs_of t) b (own ++ left) → Reached t x k (g + 1)
  reach-piece {k} {g} {b} {own} {left} piece passed parts entries early cut =
      record {
        before = b ++ own;
        left = left;
        passed = passed ++ spots_in g 0 b own;
        spelt = piece.later;
        parts = parts ∙ ap (λ l. passed ++ l) (piece-spots piece) ∙ sym (append_assoc passed (spots_in g 0 b own) _);
        entries = map-append (λ p. p.entry) passed (spots_in g 0 b own) ∙ rw (entries, entries-in) refl;
        early = λ p m. ⊎_elim (λ n. omega (arith, early p n)) (λ n. omega (arith, in-segment g 0 b own p n)) (Memᴰ.append_cases passed m);
        cut = (right-segment r.sound x cut _ (size_of x) some-selector
            (record { own = own; left = left; parts = refl; is_right = piece.right })).1;
      }

  reach-next : {k g : ℕ} → Reached t x (suc k) g → Reached t x k (g + 1)
  reach-next {k} {g} at =
      let one = spelt-piece at.spelt in
      reach-piece one.3 at.passed (at.parts ∙ ap (λ l. at.passed ++ spots_from t x (suc k) g at.before l) one.2)
      at.entries at.early (subst (Cut (runs_of t) at.before) one.2 at.cut)

  -- at the start nothing has been passed
  reach-start : Reached t x (segment_count x) 0
  unfolding spots
  reach-start =
      record {
        before = [];
        left = view key_of (runs_of t);
        passed = [];
        spelt = all-spelt r;
        parts = refl;
        entries = refl;
        early = all_nil _;
        cut = cut-start (runs_of t);
      }

  pub reach : (g k : ℕ) → g + k ≡ segment_count x → Reached t x k g
  reach zero k e = let all : segment_count x ≡ k = omega arith in subst (λ n. Reached t x n 0) all reach-start
  reach (suc g) k e = subst (Reached t x k) (add-one g) (reach-next (reach g (suc k) (omega arith)))

  module _ {k g : ℕ} (at : Reached t x k g) where
    pub walk-reached : {S R : Type 0} (visit : ℕ → Spot → S → Visit S R) (st : S)
        → walk_segments t x visit k g st ≡ tour (seen t visit) (spots_from t x k g at.before at.left) st
    walk-reached visit = walk-spelt visit r.sound k at.spelt

    -- what is before is lower than what is left
    below : (e f : Item) → Mem e at.before → Mem f at.left → key_of e.item < key_of f.item
    below e f m n =
        let up = rises-across (rank key_of) at.before at.left (rw at.cut.whole at (view-rises (good r.sound) (few r.sound))) e m f n in
        let le = rank-key e f (cut_low (good r.sound) (few r.sound) at.cut f n) (omega arith) in
        let apart = at.cut.apart e f m n in omega arith

    -- the first record of a segment has its anchor for a key
    anchor-first : (own left : List Item) → at.left ≡ own ++ left → Right (runs_of t) (segment_of (run_count t) x g) at.before own left
        → (e : Item) → Mem e at.before → key_of e.item < anchor_from x (segment_at (run_count t) (size_of x) g)
    unfolding segment_from
    anchor-first [] left p right e m = right-none right
    anchor-first (f ∷ own) left p right e m = omega (arith, below e f m (rw p here), right.anchor f own refl)

  pub before-anchor : {k g : ℕ} (at : Reached t x (suc k) g) (e : Item) → Mem e at.before
      → key_of e.item < anchor_from x (segment_at (run_count t) (size_of x) g)
  before-anchor at = let one = spelt-piece at.spelt in anchor-first at one.0 one.1 one.2 one.3.right
