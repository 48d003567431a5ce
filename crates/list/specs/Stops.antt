-- The unmarked records that the selectors of a segment name, in a walk's order, and the selector where it is lost or the segment ends: what the
-- code that gathers them promises.
pub mod Laws
pub mod Code
use Rattle.std.specs.Prelude.{◌≡◌, ℕ, zero, suc, ◌+◌, ◌-◌, ◌*◌, ◌≤◌, ◌<◌, cond, List, [], ◌∷◌, ◌++◌, map, length, get_or, take, eqb}
use Rattle.tray.specs.declared.Place.{Place}
use Rattle.tray.specs.Frame.{run_count, start_of}
use Rattle.index.specs.Scan.{run_in, raise}
use Rattle.walk.specs.Walk.{Spot, selector_at, named}
use Rattle.walk.specs.Reads.{unmarked}
use Rattle.walk.specs.Code.{numbers}

-- a selector, and where the walk stands at it
pub record NamedStop : Type 0 where
  pub selector : ℕ
  pub spot : Spot

module _ (t x : List ℕ) where
  -- the unmarked ones of k selectors of segment g from s on that name records, until one names none
  unfoldable pub stops_in : ℕ → ℕ → ℕ → List ℕ → List NamedStop
  stops_in zero g s places = []
  stops_in (suc k) g s places =
      let v = selector_at (run_count t) x g s in
      let later = stops_in k g (s + 1) (raise places (run_in v)) in
      let here : NamedStop = record { selector = v; spot = record { segment = g; selector = s; places = places } } in
      let read = cond (named t places v) (cond (unmarked v) (here ∷ later) later) [] in
      cond (eqb v 63) (stops_in k g (s + 1) places) read

  -- the selector that names none, or the one after them all
  unfoldable pub stop_in : ℕ → ℕ → ℕ → List ℕ → ℕ
  stop_in zero g s places = s
  stop_in (suc k) g s places =
      let v = selector_at (run_count t) x g s in
      let read = cond (named t places v) (stop_in k g (s + 1) (raise places (run_in v))) s in
      cond (eqb v 63) (stop_in k g (s + 1) places) read

-- where the record of a stop begins in the tray
unfoldable pub position_of : List ℕ → NamedStop → ℕ
position_of t p = start_of t (run_in p.selector) + 25 * get_or p.spot.places (run_in p.selector) 0

-- where the unmarked records begin that segment g of d selectors names from selector s on
abbrev pub positions : (t x : List ℕ) (d g s : ℕ) → List Place → List ℕ
positions t x d g s places = map (position_of t) (stops_in t x (d - s) g s (numbers places))

-- these records end inside the tray
pub record Within (t : List ℕ) (ats : List ℕ) : Type 0 where
  pub ends : (i : ℕ) → i < length ats → get_or ats i 0 + 25 ≤ length t

-- The unmarked records of segment g from selector s on are gathered after the first `before` of `ats₀`: k stand in `ats` now. `stop` is where
-- the walk is lost, or the segment's end.
pub record GatheredFrom (t x : List ℕ) (d g s : ℕ) (places : List Place) (before : ℕ) (ats₀ : List ℕ) (k stop : ℕ) (ats : List ℕ) : Type 0 where
  pub least : before ≤ k
  pub few : k + s ≤ before + stop
  pub high : stop ≤ d
  pub stops : stop ≡ stop_in t x (d - s) g s (numbers places)
  pub same : take k ats ≡ take before ats₀ ++ positions t x d g s places
