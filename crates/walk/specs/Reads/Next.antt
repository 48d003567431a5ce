-- Next through an accepted index: from a record on to the next visible one (docs/RULES.md, "Reading through an index").
--     next-spots              from any stop
--     next-gap                from a placeholder
--     next-shown, next-is     from a visible record to the next one, or the end
--     next-end                from the end, the end
--     Goes, all-by-next       from the first on by next: exactly the visible records, and then the end
--     from-by-next            the same from any key on
use Rattle.std.specs.Prelude.{◌≡◌, Bool, ◌&&◌, List, [], ◌∷◌, ◌++◌, length, eqb, ltb}
use Rattle.std.proofs.Math.Path.{refl}
use Rattle.std.proofs.Common.{sym, ap, ◌∙◌, subst, arith}
use Prim.Native.Nat.{ℕ, ◌+◌, ◌<◌, ◌≤◌}
use Rattle.std.proofs.Math.Bool.{true, false, cond}
use mathlib.Core.List.Memᴰ
use borrow.Author.Tests.{eq-eqb, eqb-true, lt-ltb, le-ltb, le-leb}
use Rattle.theory.specs.Rising.{Mem, All, keep}
use Rattle.theory.proofs.Rising.Kept.{keep_all}
use Rattle.theory.specs.Tests.{cases}
use Rattle.tray.specs.Meaning.{runs_of}
use Rattle.index.specs.Layout.{size_of, segment_count}
use Rattle.index.specs.Rules.{Item, selector_of}
use Rattle.walk.specs.Walk.{Spot, Visit, stay, go, Walked, stayed, ended, walk_from}
use Rattle.walk.specs.Walk.Spots.{Reading, Stop, spot_at, spots_from, spots}
use Rattle.walk.specs.Walk.Tours.{after, tour_then, first_of, tour-same, tour-first, Each, each_none, each_more, each_at, each_keep, each_on, each_both, all-each}
use Rattle.walk.specs.Walk.Segment.{seen}
use Rattle.walk.specs.Walk.Pieces.{Piece}
use Rattle.walk.specs.Walk.Laws.{WalksOn, walk-spots}
use Rattle.walk.specs.Walk.Order.{After, from-segment, stop-order}
use Rattle.walk.specs.Reads.Shown.{found_at, point_of, is_shown, shown, Shows, stop-shows}
use Rattle.walk.specs.Reads.Seek.{is_from, from, seek_is}
use Rattle.walk.specs.Reads.From.{from_on}
use Rattle.walk.specs.Reads.Standing.{at_gap, walk-standing}
use Rattle.walk.specs.Reads.{Found, unmarked, found_by, end_spot, seek, next_visit, next}

-- going on by next from an answer of seek or next: it stays at each stop in turn, and then the end comes
pub data Goes (t x : List ℕ) : Walked ℕ Found → List Stop → Type 0 where
  goes_end : Goes t x (ended 0) []
  goes_on : {p : Stop} {ps : List Stop} → Goes t x (next t x p.spot) ps → Goes t x (stayed (found_at p)) (p ∷ ps)

pub next-end : (t x : List ℕ) → next t x (end_spot x) ≡ ended 0
unfolding next walk_from end_spot
next-end t x = rw (le-ltb (segment_count x) (segment_count x) (omega arith))

module _ {t x : List ℕ} (r : Reading t x) where
  -- the stop itself is passed
  next_here : (p : Stop) → seen t (next_visit p.spot) p 0 ≡ go 0
  unfolding next_visit
  next_here p =
      rw (eq-eqb p.spot.segment p.spot.segment refl, le-ltb p.spot.selector p.spot.selector (omega arith))
      (off (unmarked (selector_of (runs_of t) p.entry)))
    where
      off : (b : Bool) → cond {A = Visit ℕ Found} (b && false) (stay (found_by (selector_of (runs_of t) p.entry) p.spot)) (go 0) ≡ go 0
      off true = refl
      off false = refl

  -- a later stop is stayed at where its record is visible
  next-later : (c : Spot) (q : Stop) → After c q.spot → Shows t q → (st : ℕ)
      → seen t (next_visit c) q st ≡ cond (is_shown t q) (stay (found_at q)) (go st)
  unfolding next_visit
  next-later c q after s st =
      let late : cond (eqb q.spot.segment c.segment) (ltb c.selector q.spot.selector) true ≡ true =
      cases (eqb q.spot.segment c.segment) (λ y. rw y (lt-ltb _ _ (after (eqb-true _ _ y)))) (λ n. rw n) in
      rw (late, s.marks, s.finds) (on (is_shown t q))
    where
      on : (b : Bool) → cond (b && true) (stay (found_at q)) (go st) ≡ cond b (stay (found_at q)) (go st)
      on true = refl
      on false = refl

  -- from a stop to the first visible one that follows it
  next-stop : (p : Stop) (qs : List Stop) → WalksOn ℕ Found t x p qs → All (λ q. After p.spot q.spot) qs → All (Shows t) qs
      → next t x p.spot ≡ first_of found_at (keep (is_shown t) qs) 0
  unfolding next tour_then after
  next-stop p qs walks late shows =
      walks (next_visit p.spot) 0 ∙ rw (next_here p)
      (tour-same (seen t (next_visit p.spot)) _ qs (λ q m. next-later p.spot q (late q m) (shows q m)) 0
      ∙ tour-first (is_shown t) found_at qs 0)

  pub next-spots : Each (λ p qs. next t x p.spot ≡ first_of found_at (keep (is_shown t) qs) 0) (spots t x)
  next-spots =
      let both : Each (λ p qs. All (λ q. After p.spot q.spot) qs × All (Shows t) qs) (spots t x) =
      each_both (stop-order r) (all-each (spots t x) (stop-shows r)) (λ p qs late shows. (late, shows.1)) in
      each_both (walk-spots r ℕ Found) both (λ p qs walks b. next-stop p qs walks b.0 b.1)

  -- from a placeholder after a segment's records
  pub next-gap : {k g s : ℕ} {b own left : List Item} (us : List Stop) {qs : List Stop} → Piece t x k g b own left → length own ≤ s → s < size_of x
      → qs ≡ spots_from t x k (g + 1) (b ++ own) left → spots t x ≡ us ++ qs → next t x (spot_at g s (b ++ own)) ≡ first_of found_at (keep (is_shown t) qs) 0
  unfolding next
  next-gap {k} {g} {s} {b} {own} {left} us {qs} piece l u is e =
      walk-standing r (at_gap us piece l u is e) (next_visit (spot_at g s (b ++ own))) 0
      ∙ tour-same (seen t (next_visit (spot_at g s (b ++ own)))) _ qs (λ q m. next-later (spot_at g s (b ++ own)) q (late q m)
      (stop-shows r q (subst (Mem q) (sym e) (Memᴰ.append_right us m)))) 0
      ∙ tour-first (is_shown t) found_at qs 0
    where
      late : (q : Stop) → Mem q qs → q.spot.segment ≡ g → s < q.spot.selector
      late q m same = absurd (omega (arith, from-segment t x k (g + 1) (b ++ own) left q (subst (Mem q) is m)))

  pub next-shown : Each (λ p qs. next t x p.spot ≡ first_of found_at qs 0) (shown t x)
  unfolding shown
  next-shown = each_keep (is_shown t) next-spots

  pub next-is : (us : List Stop) (p : Stop) (qs : List Stop) → shown t x ≡ us ++ (p ∷ qs) → next t x p.spot ≡ first_of found_at qs 0
  next-is = each_at next-shown

  -- from the first of some stops on
  goes : {ps : List Stop} → Each (λ p qs. next t x p.spot ≡ first_of found_at qs 0) ps → Goes t x (first_of found_at ps 0) ps
  unfolding first_of
  goes each_none = goes_end
  goes (each_more {xs = ps} e h) = goes_on (subst (λ a. Goes t x a ps) (sym e) (goes h))

  pub all-by-next : Goes t x (seek t x 0) (shown t x)
  all-by-next =
      subst (λ a. Goes t x a (shown t x))
      (sym (seek_is r 0 ∙ ap (λ l. first_of found_at l 0) (keep_all (is_from 0) (shown t x) (λ p m. le-leb 0 (point_of p).key (omega arith)))))
      (goes next-shown)

  pub from-by-next : (key : ℕ) → Goes t x (seek t x key) (from t x key)
  from-by-next key =
      let on = from_on r key in
      subst (λ a. Goes t x a (from t x key)) (sym (seek_is r key))
      (goes (each_on on.0 (subst (Each (λ p qs. next t x p.spot ≡ first_of found_at qs 0)) on.1 next-shown)))
