-- Where a cursor can stand in an accepted index: at a record of the view, after a segment's records at a placeholder, or at the end; and what
-- a walk from there on visits.
--     Standing          where a cursor stands, with the stops from there on
--     walk-standing     the walk from there on visits these
--     standing_on       they are the last ones of the index
--     standing-kept     of the visible ones, any is where its cursor stands
use Rattle.std.specs.Prelude.{◌≡◌, ℕ, ◌+◌, ◌≤◌, ◌<◌, Bool, List, [], ◌∷◌, ◌++◌, length}
use Rattle.std.proofs.Common.{sym, ◌∙◌, arith, append_assoc, append-nil, le-ltb}
use Rattle.std.proofs.Math.Path.{ap}
use Rattle.theory.specs.Rising.{keep}
use Rattle.index.specs.Layout.{size_of, segment_count}
use Rattle.index.specs.Rules.{Item}
use Rattle.walk.specs.Walk.{Spot, Visit, walk_from}
use Rattle.walk.specs.Walk.Spots.{Reading, Stop, spot_at, spots_from, spots}
use Rattle.walk.specs.Walk.Tours.{tour, tour_then, each_at}
use Rattle.walk.specs.Walk.Segment.{seen}
use Rattle.walk.specs.Walk.Pieces.{Piece}
use Rattle.walk.specs.Walk.Laws.{walk-spots, walk-behind}
use Rattle.walk.specs.Reads.Kept.{keep-split}
use Rattle.walk.specs.Reads.{end_spot}

-- where a cursor stands, and the stops from there on
pub data Standing (t x : List ℕ) : Spot → List Stop → Type 0 where
  at-stop : (us : List Stop) {p : Stop} {qs : List Stop} → spots t x ≡ us ++ (p ∷ qs) → Standing t x p.spot (p ∷ qs)
  at_gap : {k g s : ℕ} {b own left : List Item} (us : List Stop) {qs : List Stop} → Piece t x k g b own left → length own ≤ s → s < size_of x
      → qs ≡ spots_from t x k (g + 1) (b ++ own) left → spots t x ≡ us ++ qs → Standing t x (spot_at g s (b ++ own)) qs
  at-end : Standing t x (end_spot x) []

module _ {t x : List ℕ} (r : Reading t x) where
  pub walk-standing : {S R : Type 0} {c : Spot} {ps : List Stop} → Standing t x c ps → (visit : ℕ → Spot → S → Visit S R) (st : S)
      → walk_from t x visit c st ≡ tour (seen t visit) ps st
  unfolding walk_from end_spot tour_then
  walk-standing {S} {R} (at-stop us {p} {qs} e) visit st = each_at (walk-spots r S R) us p qs e visit st
  walk-standing (at_gap {s = s} us piece l u is e) visit st =
      walk-behind visit r.sound piece s (omega arith) l st ∙ ap (λ l. tour (seen t visit) l st) (sym is)
  walk-standing at-end visit st = rw (le-ltb (segment_count x) (segment_count x) (omega arith))

pub standing_on : {t x : List ℕ} {c : Spot} {ps : List Stop} → Standing t x c ps → (us : List Stop) × (spots t x ≡ us ++ ps)
standing_on (at-stop us e) = (us, e)
standing_on (at_gap us piece l u is e) = (us, e)
standing_on {t} {x} at-end = (spots t x, sym (append-nil (spots t x)))

pub standing-kept : {t x : List ℕ} {c : Spot} {ps : List Stop} (test : Stop → Bool) → Standing t x c ps
    → (us : List Stop) (p : Stop) (qs : List Stop) → keep test ps ≡ us ++ (p ∷ qs)
    → (zs : List Stop) × Standing t x p.spot (p ∷ zs) × (keep test (p ∷ zs) ≡ p ∷ qs)
standing-kept {ps = ps} test at us p qs e =
    let on = standing_on at in let w = keep-split test ps us p qs e in
    (w.1, at-stop (on.0 ++ w.0) (on.1 ∙ ap (λ l. on.0 ++ l) w.2 ∙ sym (append_assoc on.0 w.0 (p ∷ w.1))), w.3)
