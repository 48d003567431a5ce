-- What the code of the walk needs of the definitions: how its values stand for them, and what each turn of its loops is.
--     numbers, get_or-numbers, raise-numbers      places as numbers
--     places_of, numbers-back, places-room, get_or-places, set-places     and back
--     Walking                                   tray and index as the code has them
--     spot_of, sought_of                          cursors and answers
--     Segmenting, segments-end, segments-enter  the loop over segments
--     Selecting, selectors-end, selectors-pass, selectors-lost, selectors-stay, selectors-go    the loop over selectors
pub mod Load
pub mod Moves
pub mod Turns
pub mod Seek
pub mod Stayed
pub mod Inside
pub mod Numbers
use Rattle.std.specs.Prelude.{◌≡◌, refl, true, false, cond, length, get_or, set, eqb, Result, Ok, Err, Option, Some, None}
use Rattle.std.proofs.Math.Path.{sym, ap}
use Rattle.std.proofs.Common.{ap₂, ◌∙◌, eq-eqb, ne_eqb}
use Prim.Native.Nat.{ℕ, zero, suc, ◌+◌, ◌-◌, ◌≤◌, ◌<◌}
use native.Mathlib.Omega.{arith}
use Rattle.std.proofs.Math.Nat.{sub-zero}
use mathlib.Core.List.{List, [], ◌∷◌, map}
use Rattle.std.proofs.lemmas.List.{length-map}
use Rattle.tray.specs.declared.Place.{Place}
use Rattle.tray.specs.Frame.{run_count, count_of}
use Rattle.index.specs.Layout.{size_of}
use Rattle.index.specs.Scan.{run_in, raise}
use Rattle.walk.specs.declared.cursor.Cursor.{Cursor}
use Rattle.walk.specs.declared.cursor.Sighting.{Sighting}
use Rattle.walk.specs.declared.cursor.Lost.{Lost}
use Rattle.index.specs.Layout.Code.{Laid}
use Rattle.walk.specs.Walk.{Spot, Visit, stay, go, Walked, stayed, ended, lost, selector_at, loaded, named, walk_selectors, walk_segments}
use Rattle.walk.specs.Reads.{Found}

-- a place
abbrev pub placed : ℕ → Place
placed n = record { 0 = n }

-- places as numbers
unfoldable pub numbers : List Place → List ℕ
numbers ps = map (λ p. p.0) ps

pub get_or-numbers : (ps : List Place) (i : ℕ) → get_or (numbers ps) i 0 ≡ (get_or ps i (placed 0)).0
unfolding numbers
get_or-numbers [] i = refl
get_or-numbers (p ∷ ps) zero = refl
get_or-numbers (p ∷ ps) (suc i) = get_or-numbers ps i

pub length-numbers : (ps : List Place) → length (numbers ps) ≡ length ps
unfolding numbers
length-numbers ps = length-map ps (λ p. p.0)

set-numbers : (ps : List Place) (i n : ℕ) → set (numbers ps) i n ≡ numbers (set ps i (placed n))
unfolding numbers
set-numbers [] i n = refl
set-numbers (p ∷ ps) zero n = refl
set-numbers (p ∷ ps) (suc i) n = ap (λ l. p.0 ∷ l) (set-numbers ps i n)

-- and numbers as places
unfoldable pub places_of : List ℕ → List Place
places_of ns = map placed ns

pub numbers-back : (ns : List ℕ) → numbers (places_of ns) ≡ ns
unfolding numbers places_of
numbers-back [] = refl
numbers-back (n ∷ ns) = ap (λ (l : List ℕ). n ∷ l) (numbers-back ns)

pub length-places : (ns : List ℕ) → length (places_of ns) ≡ length ns
unfolding places_of
length-places ns = length-map ns placed

pub places-room : (ns : List ℕ) → length (places_of ns) ≡ 63 → length ns ≡ 63
places-room ns r = sym (length-places ns) ∙ r

pub get_or-places : (ns : List ℕ) (i : ℕ) → (get_or (places_of ns) i (placed 0)).0 ≡ get_or ns i 0
unfolding places_of
get_or-places [] i = refl
get_or-places (n ∷ ns) zero = refl
get_or-places (n ∷ ns) (suc i) = get_or-places ns i

pub set-places : (ns : List ℕ) (i n : ℕ) → set (places_of ns) i (placed n) ≡ places_of (set ns i n)
unfolding places_of
set-places [] i n = refl
set-places (m ∷ ns) zero n = refl
set-places (m ∷ ns) (suc i) n = ap (λ (l : List Place). placed m ∷ l) (set-places ns i n)

-- one record of run r has been read
pub raise-numbers : (ps : List Place) {r i : ℕ} → i ≡ r → numbers (set ps i (placed ((get_or ps i (placed 0)).0 + 1))) ≡ raise (numbers ps) r
unfolding raise
raise-numbers ps {r} {i} e =
    sym (set-numbers ps i ((get_or ps i (placed 0)).0 + 1))
    ∙ ap (λ (k : ℕ). set (numbers ps) i (k + 1)) (sym (get_or-numbers ps i))
    ∙ ap (λ (k : ℕ). set (numbers ps) k (get_or (numbers ps) k 0 + 1)) e

-- tray and index as the code has them
pub record Walking (t x : List ℕ) (h d n : ℕ) (counts : List ℕ) : Type 0 where
  pub runs : h ≡ run_count t
  pub few : h ≤ 63
  pub room : length counts ≡ 63
  pub counts-are : (r : ℕ) → r < run_count t → get_or counts r 0 ≡ count_of t r
  pub index : Laid x h d n

-- a cursor as the definitions have it
unfoldable pub spot_of : Cursor → Spot
spot_of c = record { segment = c.segment.0; selector = c.selector; places = numbers c.places }

-- what a walk for a record comes to
unfoldable pub sought_of : Result (Option Sighting) Lost → Walked ℕ Found
sought_of (Ok (Some f)) = stayed (record { run = f.run.0; place = f.place.0; spot = spot_of f.cursor })
sought_of (Ok None) = ended 0
sought_of (Err l) = lost l.segment l.selector 0

-- what comes after a visit
unfoldable pub after-visit : {S R : Type 0} → Visit S R → (S → Walked S R) → Walked S R
after-visit (stay r) on = stayed r
after-visit (go st) on = on st

-- one selector v of a walk with any visitor, and those after it
abbrev pub turn_of : {S R : Type 0} (t x : List ℕ) (visit : ℕ → Spot → S → Visit S R) (k g s : ℕ) (places : List ℕ) (st : S) (rest : S → Walked S R) → ℕ → Walked S R
turn_of {S} t x visit k g s places st rest v =
    cond (eqb v 63) (walk_selectors t x visit k g (s + 1) places st rest)
    (cond (named t places v)
    (after-visit (visit v (record { segment = g; selector = s; places = places }) st)
    (λ (st' : S). walk_selectors t x visit k g (s + 1) (raise places (run_in v)) st' rest))
    (lost g s st))

pub one-selector : {S R : Type 0} (t x : List ℕ) (visit : ℕ → Spot → S → Visit S R) (k g s : ℕ) (places : List ℕ) (st : S) (rest : S → Walked S R)
    → walk_selectors t x visit (suc k) g s places st rest ≡ turn_of t x visit k g s places st rest (selector_at (run_count t) x g s)
unfolding walk_selectors after-visit
one-selector {S} {R} t x visit k g s places st rest =
    ap (λ (w : Walked S R). cond (eqb v 63) (walk_selectors t x visit k g (s + 1) places st rest) (cond (named t places v) w (lost g s st)))
    (seen (visit v (record { segment = g; selector = s; places = places }) st))
  where
    v : ℕ
    v = selector_at (run_count t) x g s

    seen : (w : Visit S R)
        → elim w [ stay r ↦ stayed r | go st' ↦ walk_selectors t x visit k g (s + 1) (raise places (run_in v)) st' rest ]
        ≡ after-visit w (λ (st' : S). walk_selectors t x visit k g (s + 1) (raise places (run_in v)) st' rest)
    seen (stay r) = refl
    seen (go st') = refl

-- the walk from segment g on answers for the whole of it
pub record Segmenting {S R : Type 0} (t x : List ℕ) (visit : ℕ → Spot → S → Visit S R) (n : ℕ) (whole : Walked S R) (g : ℕ) (st : S) : Type 0 where
  pub same : walk_segments t x visit (n - g) g st ≡ whole

-- the walk from selector s of segment g on does
pub record Selecting {S R : Type 0} (t x : List ℕ) (visit : ℕ → Spot → S → Visit S R) (d n : ℕ) (whole : Walked S R) (g s : ℕ) (places : List ℕ) (st : S) : Type 0 where
  pub inside : g < n
  pub high : s ≤ d
  pub same : walk_selectors t x visit (d - s) g s places st (walk_segments t x visit (n - (g + 1)) (g + 1)) ≡ whole

module _ {S R : Type 0} {t x : List ℕ} {visit : ℕ → Spot → S → Visit S R} {n : ℕ} {whole : Walked S R} {g : ℕ} {st : S} where
  -- after the last segment comes the end
  pub segments-end : Segmenting t x visit n whole g st → n ≤ g → ended st ≡ whole
  unfolding walk_segments
  segments-end i l = let z : n - g ≡ 0 = omega arith in rw z at i.same

  -- entering a segment loads its offsets
  pub segments-enter : {d : ℕ} {places : List ℕ} → Segmenting t x visit n whole g st → d ≡ size_of x → places ≡ loaded (run_count t) x g → g < n
      → Selecting t x visit d n whole g 0 places st
  unfolding walk_segments
  segments-enter {d} {places} i size load l =
      let z : n - g ≡ suc (n - (g + 1)) = omega arith in
      record {
        inside = l;
        high = omega arith;
        same =
            rw sub-zero
            (ap₂ (λ (k : ℕ) (ps : List ℕ). walk_selectors t x visit k g 0 ps st (walk_segments t x visit (n - (g + 1)) (g + 1))) size load
            ∙ rw z at i.same);
      }

  module _ {d s : ℕ} {places : List ℕ} (i : Selecting t x visit d n whole g s places st) where
    -- after its last selector comes the next segment
    pub selectors-end : d ≤ s → Segmenting t x visit n whole (g + 1) st
    unfolding walk_selectors
    selectors-end l = let z : d - s ≡ 0 = omega arith in record { same = rw z at i.same }

    module _ {v : ℕ} (l : s < d) (read : v ≡ selector_at (run_count t) x g s) where
      left : d - s ≡ suc (d - (s + 1))
      left = omega arith

      one-turn : walk_selectors t x visit (d - s) g s places st (walk_segments t x visit (n - (g + 1)) (g + 1))
          ≡ turn_of t x visit (d - (s + 1)) g s places st (walk_segments t x visit (n - (g + 1)) (g + 1)) v
      one-turn =
          ap (λ (k : ℕ). walk_selectors t x visit k g s places st (walk_segments t x visit (n - (g + 1)) (g + 1))) left
          ∙ one-selector t x visit (d - (s + 1)) g s places st (walk_segments t x visit (n - (g + 1)) (g + 1))
          ∙ ap (turn_of t x visit (d - (s + 1)) g s places st (walk_segments t x visit (n - (g + 1)) (g + 1))) (sym read)

      pub selectors-pass : v ≡ 63 → Selecting t x visit d n whole g (s + 1) places st
      unfolding walk_selectors
      selectors-pass e =
          record {
            inside = i.inside;
            high = omega arith;
            same = sym (one-turn ∙ rw (eq-eqb v 63 e)) ∙ i.same;
          }

      module _ (real : v ≡ 63 → ⊥) where
        no-placeholder : eqb v 63 ≡ false
        no-placeholder = ne_eqb v 63 real

        pub selectors-lost : named t places v ≡ false → lost g s st ≡ whole
        unfolding after-visit
        selectors-lost e = sym (one-turn ∙ rw (no-placeholder, e)) ∙ i.same

        module _ (there : named t places v ≡ true) where
          pub selectors-stay : {r : R} → visit v (record { segment = g; selector = s; places = places }) st ≡ stay r → stayed r ≡ whole
          unfolding after-visit
          selectors-stay e = sym (one-turn ∙ rw (no-placeholder, there, e)) ∙ i.same

          pub selectors-go : {st' : S} {after : List ℕ} → visit v (record { segment = g; selector = s; places = places }) st ≡ go st'
              → after ≡ raise places (run_in v) → Selecting t x visit d n whole g (s + 1) after st'
          unfolding after-visit
          selectors-go {st'} e a =
              record {
                inside = i.inside;
                high = omega arith;
                same =
                    ap (λ (ps : List ℕ). walk_selectors t x visit (d - (s + 1)) g (s + 1) ps st' (walk_segments t x visit (n - (g + 1)) (g + 1))) a
                    ∙ sym turn
                    ∙ i.same;
              }
            where
              turn : walk_selectors t x visit (d - s) g s places st (walk_segments t x visit (n - (g + 1)) (g + 1))
                  ≡ walk_selectors t x visit (d - (s + 1)) g (s + 1) (raise places (run_in v)) st' (walk_segments t x visit (n - (g + 1)) (g + 1))
              turn = one-turn ∙ rw (no-placeholder, there, e)
