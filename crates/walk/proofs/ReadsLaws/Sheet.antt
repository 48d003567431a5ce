-- Sheet through an accepted index (docs/RULES.md, "Reading through an index"): the live records of the merge from the lower bound on and below the
-- upper one, in order.
--     within       a record within bounds
--     Lists        a walk that came through, and what it has listed
--     sheet-is     what sheet lists
-- Not here: that the bounds are those of a prefix, which is in `Prefix.antt`.
use Rattle.std.specs.Prelude.{◌≡◌, ℕ, ◌≤◌, Bool, false, cond, leb, ltb}
use Rattle.std.proofs.Math.Path.{refl, sym, ap, subst}
use Rattle.std.proofs.Common.{◌∙◌, arith}
use mathlib.Core.List.Memᴰ
use mathlib.Core.List.{List, [], ◌∷◌, ◌++◌, map, append-nil}
use Rattle.std.proofs.Math.Seq.{append_snoc}
use borrow.Author.Tests.{leb-true, leb-false, lt-ltb, le-ltb}
use Rattle.theory.specs.Records.{Record}
use Rattle.theory.specs.Rising.{Mem, All, Rises, none, more, keep}
use Rattle.theory.proofs.Rising.Kept.{rises-keep}
use Rattle.theory.specs.Tests.{cases}
use Rattle.index.specs.Rules.{key_of}
use Rattle.walk.specs.Walk.{Visit, stay, go, ended, walk_from}
use Rattle.walk.specs.Walk.Spots.{Reading, Stop, spots}
use Rattle.walk.specs.Walk.Tours.{after, tour_then, tour, first_of, tour-same, tour-kept}
use Rattle.walk.specs.Walk.Segment.{seen}
use Rattle.walk.specs.Reads.Kept.{keep-map, keep-none, keep-both, keep-split}
use Rattle.walk.specs.Reads.Shown.{found_at, point_of, is_shown, shown, Shows, stop-shows, shown-merged}
use Rattle.walk.specs.Reads.Seek.{is_from, from, seek_is, points}
use Rattle.walk.specs.Reads.From.{key_at, shown-rises, from_on}
use Rattle.walk.specs.Reads.Standing.{at-stop, walk-standing}
use Rattle.walk.specs.Reads.{sheet_visit, low_key, high_key, sheet_from, sheet}
use Rattle.walk.specs.Reads.Sheet.{Lists, within, to-bound, to_end}

-- nothing is listed of nothing
lists-none : (test : Record → Bool) → Lists (ended []) (keep test [])
unfolding keep
lists-none test = to_end

module _ (high : ℕ) where
  -- the visitor of a sheet at a visible stop
  abbrev sheet_step : Stop → List Record → Visit (List Record) (List Record)
  sheet_step p es = cond (leb high (key_at p)) (stay es) (go (es ++ (point_of p ∷ [])))

  -- a record is below the bound
  abbrev is_below : Record → Bool
  is_below e = ltb e.key high

  -- of rising stops those below the bound are listed
  sheet-tour : {ps : List Stop} → Rises key_at ps → (es : List Record) → Lists (tour sheet_step ps es) (es ++ keep is_below (map point_of ps))
  unfolding tour_then after keep
  sheet-tour none es = rw append-nil to_end
  sheet-tour (more {a = p} {xs = ps} above up) es =
      cases (leb high (key_at p))
      (λ y. let l = leb-true high (key_at p) y in
      rw (y, le-ltb (key_at p) high l, keep-none is_below (map point_of ps) (beyond l), append-nil) to-bound)
      (λ n. let l = leb-false high (key_at p) n in
      rw (n, lt-ltb (key_at p) high l, ← append_snoc es (point_of p) (keep is_below (map point_of ps))) (sheet-tour up (es ++ (point_of p ∷ []))))
    where
      beyond : high ≤ key_at p → All (λ e. is_below e ≡ false) (map point_of ps)
      beyond l e m = let w = Memᴰ.of_map point_of ps m in le-ltb e.key high (omega (arith, above w.0 w.1, ap key_of w.2))

module _ {t x : List ℕ} (r : Reading t x) where
  from-rises : (key : ℕ) → Rises key_at (from t x key)
  from-rises key = rises-keep (is_from key) key_at (shown-rises r)

  module _ (low high : ℕ) where
    sheet-visit : (p : Stop) → Shows t p → (es : List Record)
        → seen t (sheet_visit t high) p es ≡ cond (is_shown t p) (sheet_step high p es) (go es)
    unfolding sheet_visit
    sheet-visit p s es = rw (s.marks, s.names)

    -- from the first visible stop from the lower bound on
    sheet-walk : (p : Stop) (ps : List Stop) → from t x low ≡ p ∷ ps
        → walk_from t x (sheet_visit t high) p.spot [] ≡ tour (sheet_step high) (from t x low) []
    unfolding shown
    sheet-walk p ps e =
        let on = from_on r low in
        let w = keep-split (is_shown t) (spots t x) on.0 p ps (on.1 ∙ ap (λ l. on.0 ++ l) e) in
        walk-standing r (at-stop w.0 w.2) (sheet_visit t high) []
        ∙ tour-same (seen t (sheet_visit t high)) _ (p ∷ w.1)
        (λ q m. sheet-visit q (stop-shows r q (subst (Mem q) (sym w.2) (Memᴰ.append_right w.0 m)))) []
        ∙ tour-kept (is_shown t) (sheet_step high) (p ∷ w.1) []
        ∙ ap (λ l. tour (sheet_step high) l []) (w.3 ∙ sym e)

    sheet-lists : Lists (sheet_from t x high (first_of found_at (from t x low) 0)) (keep (is_below high) (map point_of (from t x low)))
    unfolding sheet_from first_of found_at
    sheet-lists = go (from t x low) refl (sheet-tour high (from-rises low) [])
      where
        go : (ps : List Stop) → from t x low ≡ ps → Lists (tour (sheet_step high) (from t x low) []) (keep (is_below high) (map point_of (from t x low)))
            → Lists (sheet_from t x high (first_of found_at ps 0)) (keep (is_below high) (map point_of (from t x low)))
        go [] e h = subst (λ l. Lists (ended []) (keep (is_below high) (map point_of l))) (sym e) (lists-none (is_below high))
        go (p ∷ ps) e h = subst (λ a. Lists a (keep (is_below high) (map point_of (from t x low)))) (sym (sheet-walk p ps e)) h

    -- the records within the bounds
    within-are : keep (is_below high) (map point_of (from t x low)) ≡ keep (within low high) (points t)
    within-are =
        ap (keep (is_below high)) (keep-map point_of (λ e. leb low e.key) (shown t x) ∙ ap (keep (λ e. leb low e.key)) (shown-merged r))
        ∙ sym (keep-both (λ e. leb low e.key) (is_below high) (points t))

  pub sheet-is : (prefix : List ℕ) → Lists (sheet t x prefix) (keep (within (low_key prefix) (high_key prefix)) (points t))
  unfolding sheet
  sheet-is prefix =
      subst (Lists (sheet t x prefix)) (within-are (low_key prefix) (high_key prefix))
      (rw (seek_is r (low_key prefix)) (sheet-lists (low_key prefix) (high_key prefix)))
