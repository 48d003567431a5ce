-- Where a walk through an accepted index stands at each record of the view: its stops (docs/RULES.md, "Reading through an index"). The cursor at a
-- record has its segment, its selector there, and the places after all records before it.
--     Reading                      a sound tray and an index that is accepted for it
--     check-reading                what check index accepts
--     Stop, spot_at, spots_in        a record and the cursor that stands at it; the stops of one segment
--     spells, spots_from, spots     of segments in a row, and of the whole index
--     spots_in-append               the records of a segment in two parts
--     entries_of, entries-in        the records at the stops
use Rattle.std.specs.Prelude.{◌≡◌, refl, ℕ, zero, suc, ◌+◌, List, [], ◌∷◌, ◌++◌, map, length, take, drop, Ok}
use Rattle.std.proofs.Common.{ap, add-zero, arith, append-nil}
use Rattle.std.proofs.Math.Seq.{append_snoc}
use Rattle.theory.specs.View.{view}
use Rattle.tray.specs.Frame.{run_count}
use Rattle.tray.specs.Check.{Sound}
use Rattle.tray.specs.Meaning.{runs_of}
use Rattle.index.specs.Layout.{segment_count, segment_of, segments_of, IndexFramed}
use Rattle.index.specs.Rules.{key_of, Item, spelled, Accepted}
use Rattle.index.specs.Check.{check_index_answer}
use Rattle.index.specs.Check.Theorems.{answers-segments}
use Rattle.index.specs.Scan.Places.{places_of}
use Rattle.walk.specs.Walk.{Spot}

-- a sound tray, and an index that is accepted for it
pub record Reading (t x : List ℕ) : Type 0 where
  pub sound : Sound t
  pub frame : IndexFramed (run_count t) x
  pub accepted : Accepted (runs_of t) (segments_of (run_count t) x)

-- check index accepts exactly what may be read
pub check-reading : (t x : List ℕ) (n : ℕ) → check_index_answer t x ≡ Ok n → Reading t x
check-reading t x n e =
    let w = (answers-segments t x n).0 e in record { sound = w.0; frame = w.1; accepted = w.2 }

-- a record of the view, and the cursor that stands at it
pub record Stop : Type 0 where
  pub entry : Item
  pub spot : Spot

-- the cursor at selector s of segment g, after the records b
abbrev pub spot_at : ℕ → ℕ → List Item → Spot
spot_at g s b = record { segment = g; selector = s; places = places_of b }

-- the stops of some records of segment g, from selector s on and after the records b
unfoldable pub spots_in : ℕ → ℕ → List Item → List Item → List Stop
spots_in g s b [] = []
spots_in g s b (e ∷ es) = (record { entry = e; spot = spot_at g s b }) ∷ spots_in g (s + 1) (b ++ (e ∷ [])) es

module _ (t x : List ℕ) where
  -- how many records the selectors of segment g spell
  abbrev pub spells : ℕ → ℕ
  spells g = length (spelled (segment_of (run_count t) x g).selectors)

  -- the stops of k segments from segment g on, after the records b and with w left
  unfoldable pub spots_from : ℕ → ℕ → List Item → List Item → List Stop
  spots_from zero g b w = []
  spots_from (suc k) g b w =
      spots_in g 0 b (take (spells g) w) ++ spots_from k (g + 1) (b ++ take (spells g) w) (drop (spells g) w)

  -- the stops of the whole index
  unfoldable pub spots : List Stop
  spots = spots_from (segment_count x) 0 [] (view key_of (runs_of t))

-- the records at the stops
abbrev pub entries_of : List Stop → List Item
entries_of ps = map (λ p. p.entry) ps

pub entries-in : (g s : ℕ) (b es : List Item) → entries_of (spots_in g s b es) ≡ es
unfolding spots_in
entries-in g s b [] = refl
entries-in g s b (e ∷ es) = ap (λ l. e ∷ l) (entries-in g (s + 1) (b ++ (e ∷ [])) es)

pub spots_in-append : (g s : ℕ) (b es us : List Item)
    → spots_in g s b (es ++ us) ≡ spots_in g s b es ++ spots_in g (s + length es) (b ++ es) us
unfolding spots_in
spots_in-append g s b [] us = rw (add-zero, append-nil)
spots_in-append g s b (e ∷ es) us =
    let long : s + 1 + length es ≡ s + suc (length es) = omega arith in
    ap {B = List Stop} (λ l. (record { entry = e; spot = spot_at g s b }) ∷ l)
    (rw (← long, ← append_snoc b e es) (spots_in-append g (s + 1) (b ++ (e ∷ [])) es us))
