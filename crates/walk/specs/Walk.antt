-- The walk (docs/RULES.md, "Walk"): entering a segment loads its offsets; a placeholder is passed; a selector whose run is H or more, or whose
-- place is at or past the run's count, loses the walk; what happens at any other selector is a visitor's to say. Passing a record raises its
-- run's place by one; the one where the walk stays raises none. After segment S-1 comes the end. It reads counts, index bytes and places, and
-- no record.
pub mod Spots
pub mod Tours
pub mod Named
pub mod Segment
pub mod Pieces
pub mod Laws
pub mod Order
pub mod Reached
use Rattle.std.specs.Prelude.{ℕ, zero, suc, ◌+◌, ◌-◌, Bool, cond, ◌&&◌, List, get_or, eqb, ltb}
use Rattle.theory.specs.Listed.{listed}
use Rattle.tray.specs.Frame.{run_count, count_of}
use Rattle.index.specs.Layout.{size_of, segment_count, segment_at, offset_from, selector_from}
use Rattle.index.specs.Scan.{run_in, raise}

-- where a walk stands: segment, selector, and how far each of 63 runs has been read
pub record Spot : Type 0 where
  pub segment : ℕ
  pub selector : ℕ
  pub places : List ℕ

-- what a visitor says where a selector names a record: stay with an answer, or go on with another state
pub data Visit (S R : Type 0) : Type 0 where
  stay : R → Visit S R
  go : S → Visit S R

-- how a walk ends: where it stayed, at the end, or lost at a selector of a segment
pub data Walked (S R : Type 0) : Type 0 where
  stayed : R → Walked S R
  ended : S → Walked S R
  lost : ℕ → ℕ → S → Walked S R

-- the places on entering segment g: its offsets, and 0 for runs that the tray has not
unfoldable pub loaded : ℕ → List ℕ → ℕ → List ℕ
loaded h x g = listed 63 0 (λ r. cond (ltb r h) (offset_from x (segment_at h (size_of x) g) r) 0)

-- selector s of segment g
abbrev pub selector_at : ℕ → List ℕ → ℕ → ℕ → ℕ
selector_at h x g s = selector_from h x (segment_at h (size_of x) g) s

-- the selector names a record: its run is one of the tray's and has one at that place
unfoldable pub named : List ℕ → List ℕ → ℕ → Bool
named t places v = ltb (run_in v) (run_count t) && ltb (get_or places (run_in v) 0) (count_of t (run_in v))

module _ {S R : Type 0} (t x : List ℕ) (visit : ℕ → Spot → S → Visit S R) where
  -- k selectors of segment g from selector s on; after them comes `rest`
  unfoldable pub walk_selectors : ℕ → ℕ → ℕ → List ℕ → S → (S → Walked S R) → Walked S R
  walk_selectors zero g s places st rest = rest st
  walk_selectors (suc k) g s places st rest =
      let v = selector_at (run_count t) x g s in
      let passed = walk_selectors k g (s + 1) places st rest in
      let seen : Walked S R =
      elim (visit v (record { segment = g; selector = s; places = places }) st)
      [ stay r ↦ stayed r | go st' ↦ walk_selectors k g (s + 1) (raise places (run_in v)) st' rest ] in
      let judged = cond (named t places v) seen (lost g s st) in
      cond (eqb v 63) passed judged

  -- k segments from segment g on
  unfoldable pub walk_segments : ℕ → ℕ → S → Walked S R
  walk_segments zero g st = ended st
  walk_segments (suc k) g st = walk_selectors (size_of x) g 0 (loaded (run_count t) x g) st (walk_segments k (g + 1))

  -- from a spot on
  unfoldable pub walk_from : Spot → S → Walked S R
  walk_from c st =
      let there = walk_selectors (size_of x - c.selector) c.segment c.selector c.places st (walk_segments (segment_count x - (c.segment + 1)) (c.segment + 1)) in
      cond (ltb c.segment (segment_count x)) there (ended st)
