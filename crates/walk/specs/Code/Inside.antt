-- A record that a seek found stands inside the index: at an unmarked selector of one of its segments, which names it.
--     Inside, seek-inside      what the seek found
--     seek-below               so its cursor is not the end
use Rattle.std.specs.Prelude.{◌≡◌, refl, ℕ, ◌-◌, ◌<◌, true, ◌&&◌, List, leb}
use Rattle.std.proofs.Math.Path.{sym}
use Rattle.std.proofs.Common.{subst, arith}
use Rattle.theory.specs.Tests.{cases, never, and_left}
use Rattle.tray.specs.Frame.{run_bytes}
use Rattle.tray.specs.Run.{record_at}
use Rattle.walk.specs.declared.cursor.Sighting.{Sighting}
use Rattle.walk.specs.Walk.{Spot, Visit, stay, go, stayed, walk_segments}
use Rattle.walk.specs.Reads.{Found, unmarked, record_by, found_by, seek_visit}
use Rattle.walk.specs.Code.{Walking, spot_of}
use Rattle.walk.specs.Code.Stayed.{Stands, segments-stayed}

-- what is found stands at an unmarked selector of one of n segments, which names it
pub record Inside (t x : List ℕ) (n : ℕ) (f : Found) : Type 0 where
  pub selector : ℕ
  pub stands : Stands t x n selector f.spot
  pub low : unmarked selector ≡ true
  pub is : record_at (run_bytes t f.run) f.place ≡ record_by t selector f.spot

stay-inside : (t x : List ℕ) (key n v : ℕ) (c : Spot) (st : ℕ) (f : Found) → Stands t x n v c → seek_visit t key v c st ≡ stay f → Inside t x n f
unfolding seek_visit found_by record_by
stay-inside t x key n v c st f stands e =
    cases (unmarked v && leb key (record_by t v c).key)
    (λ y. subst (Inside t x n) (same (rw y at e)) (record { selector = v; stands = stands; low = and_left (unmarked v) _ y; is = refl }))
    (λ n. never (other (rw n at e)))
  where
    same : {a b : Found} → ◌≡◌ {A = Visit ℕ Found} (stay a) (stay b) → a ≡ b
    same z = cc

    other : {a : ℕ} {b : Found} → ◌≡◌ {A = Visit ℕ Found} (go a) (stay b) → ◌≡◌ {A = ℕ} 0 1
    other z = cc

-- what the code's walk hands over
module _ (t x : List ℕ) (key : ℕ) {h d n : ℕ} (g : ℕ) {counts : List ℕ} (f : Sighting) (w : Walking t x h d n counts)
    (walked : stayed (record { run = f.run.0; place = f.place.0; spot = spot_of f.cursor }) ≡ walk_segments t x (seek_visit t key) (n - g) g 0) where
  pub seek-inside : Inside t x n (record { run = f.run.0; place = f.place.0; spot = spot_of f.cursor })
  seek-inside = segments-stayed t x (seek_visit t key) (Inside t x n) n (stay-inside t x key n) (n - g) g 0 _ (omega arith) (sym walked)

  pub seek-below : (f.cursor.segment.0 < n) × (f.cursor.selector < d)
  unfolding spot_of
  seek-below =
      let at = seek-inside.stands in
      let size = w.index.size in
      let low = at.selector-below in
      (at.segment-below, omega arith)
