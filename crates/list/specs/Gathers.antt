-- What is gathered of a segment, as the code hands it over.
use Rattle.std.specs.Prelude.{◌≡◌, ℕ, ◌<◌, List, Result, Ok, Err, MatchResult}
use Rattle.tray.specs.declared.Place.{Place}
use Rattle.walk.specs.declared.cursor.Lost.{Lost}
use Rattle.list.specs.declared.stops.Gathered.{Gathered}
use Rattle.list.specs.Stops.{GatheredFrom}

-- where the segment's walk stops, by what the code says: at its end, or where it is lost
unfoldable pub stop_of : ℕ → Result Unit Lost → ℕ
stop_of d (Ok u) = d
stop_of d (Err l) = l.selector

-- The unmarked records of segment g from selector s on are gathered after the first `before` of `ats₀`, to the segment's end or to where the walk
-- is lost.
pub record Gathers (t x : List ℕ) (d g s : ℕ) (places : List Place) (before : ℕ) (ats₀ : List ℕ) (r : Gathered) (ats : List ℕ) : Type 0 where
  pub from : GatheredFrom t x d g s places before ats₀ r.count (stop_of d r.stop) ats
  pub lost : MatchResult r.stop (λ (u : Unit). Unit) (λ (l : Lost). (l.segment ≡ g) × (l.selector < d))

module _ {t x : List ℕ} {d g s : ℕ} {places : List Place} {before : ℕ} {ats₀ : List ℕ} {r : Gathered} {ats : List ℕ} (f : Gathers t x d g s places before ats₀ r ats) where
  -- to the segment's end,
  pub gathers-all : {u : Unit} → r.stop ≡ Ok u → GatheredFrom t x d g s places before ats₀ r.count d ats
  unfolding stop_of
  gathers-all e = rw e at f.from

  -- or to where the walk is lost
  pub gathers-lost : {l : Lost} → r.stop ≡ Err l → (GatheredFrom t x d g s places before ats₀ r.count l.selector ats) × ((l.segment ≡ g) × (l.selector < d))
  unfolding stop_of
  gathers-lost e = (rw e at f.from, rw e at f.lost)
