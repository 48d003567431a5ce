-- What the code that gathers needs of the definitions.
--     Gathering                                            the loop that gathers
--     gathering-pass, gathering-name                       its turns
--     gathered-no-run, gathered-no-place, gathered-all     its ends
use Rattle.std.specs.Prelude.{◌≡◌, refl, ℕ, suc, ◌+◌, ◌-◌, ◌*◌, ◌%◌, ◌≤◌, ◌<◌, true, false, cond, length, set}
use Rattle.std.proofs.Math.Path.{sym, ap, ap₂}
use Rattle.std.proofs.Common.{◌∙◌, add-zero, add-one, length-set, take-suc-set}
use native.Mathlib.Omega.{arith}
use mathlib.Core.List.{List, [], ◌∷◌, ◌++◌, map, append-nil, append_assoc}
use Rattle.std.proofs.Math.ListN.{get_or, take}
use Rattle.std.proofs.lemmas.List.{take-set-le}
use Rattle.theory.specs.Tests.{cases}
use Rattle.tray.specs.declared.Place.{Place}
use Rattle.tray.specs.Frame.{run_count, start_of, Starts}
use Rattle.index.specs.Scan.{raise}
use Rattle.walk.specs.Walk.{selector_at, named}
use Rattle.walk.specs.Reads.{unmarked}
use Rattle.walk.specs.Code.{placed, numbers, raise-numbers, Walking}
use Rattle.walk.specs.Code.Turns.{named-run, named-yes, named_past, place_is}
use Rattle.list.specs.Stops.{stops_in, stop_in, position_of, positions, GatheredFrom}
use Rattle.list.specs.Stops.Laws.{stop_at, stops-pass, stops-name, stops-marked, stops-lost, stop-pass, stop-name, stop-lost}

-- the loop that gathers: k records stand in `ats`, and with those from here on they are all; the segment ends where it does from here on
pub record Gathering (t x : List ℕ) (d g s₀ : ℕ) (places₀ : List Place) (before : ℕ) (ats₀ : List ℕ) (s : ℕ) (places : List Place) (k : ℕ) (ats : List ℕ) : Type 0 where
  pub least : before ≤ k
  pub few : k + s₀ ≤ before + s
  pub high : s ≤ d
  pub room : length places ≡ 63
  pub kept : length ats ≡ length ats₀
  pub stops : stop_in t x (d - s) g s (numbers places) ≡ stop_in t x (d - s₀) g s₀ (numbers places₀)
  pub same : take k ats ++ positions t x d g s places ≡ take before ats₀ ++ positions t x d g s₀ places₀

module _ {t x : List ℕ} {d g s₀ : ℕ} {places₀ : List Place} {before : ℕ} {ats₀ : List ℕ} {s : ℕ} {places : List Place} {k : ℕ} {ats : List ℕ} (i : Gathering t x d g s₀ places₀ before ats₀ s places k ats) where
  -- the end of the segment
  pub gathered-all : {size : ℕ} → size ≡ d → size ≤ s → GatheredFrom t x d g s₀ places₀ before ats₀ k size ats
  unfolding stops_in stop_in
  gathered-all {size} e l =
      let few = i.few in
      let high = i.high in
      let end : s ≡ d = omega arith in
      let none : d - s ≡ 0 = omega arith in
      let z : size ≡ s = omega arith in
      record {
        least = i.least;
        few = omega arith;
        high = omega arith;
        stops = z ∙ ap (λ (m : ℕ). stop_in t x m g s (numbers places)) (sym none) ∙ i.stops;
        same =
            sym (append-nil (take k ats))
            ∙ ap (λ (m : ℕ). take k ats ++ map (position_of t) (stops_in t x m g s (numbers places))) (sym none)
            ∙ i.same;
      }

  module _ {h n : ℕ} {counts : List ℕ} (w : Walking t x h d n counts) {v : ℕ} (l : s < d) (read : v ≡ selector_at (run_count t) x g s) where
    -- the selectors left are this one and those after it
    one_less : d - s ≡ suc (d - (s + 1))
    one_less = omega arith

    -- what the stops from here on are, by those of one selector more
    ends_by : (places' : List Place) → stop_in t x (suc (d - (s + 1))) g s (numbers places) ≡ stop_in t x (d - (s + 1)) g (s + 1) (numbers places')
        → stop_in t x (d - (s + 1)) g (s + 1) (numbers places') ≡ stop_in t x (d - s₀) g s₀ (numbers places₀)
    ends_by places' e = sym e ∙ ap (λ (m : ℕ). stop_in t x m g s (numbers places)) (sym one_less) ∙ i.stops

    all-by : {bs cs : List ℕ} → map (position_of t) (stops_in t x (suc (d - (s + 1))) g s (numbers places)) ≡ cs → bs ≡ take k ats ++ cs
        → bs ≡ take before ats₀ ++ positions t x d g s₀ places₀
    all-by {cs = cs} e b =
        b
        ∙ ap (λ (zs : List ℕ). take k ats ++ zs) (sym e)
        ∙ ap (λ (m : ℕ). take k ats ++ map (position_of t) (stops_in t x m g s (numbers places))) (sym one_less)
        ∙ i.same

    pub gathering-pass : v ≡ 63 → Gathering t x d g s₀ places₀ before ats₀ (s + 1) places k ats
    gathering-pass e =
        let few = i.few in
        record {
          least = i.least;
          few = omega arith;
          high = omega arith;
          room = i.room;
          kept = i.kept;
          stops = ends_by places (stop-pass t x (d - (s + 1)) g s (numbers places) read e);
          same = all-by (ap (map (position_of t)) (stops-pass t x (d - (s + 1)) g s (numbers places) read e)) refl;
        }

    module _ (real : v ≡ 63 → ⊥) where
      -- the loss rule
      gathered-lost : named t (numbers places) v ≡ false → GatheredFrom t x d g s₀ places₀ before ats₀ k s ats
      gathered-lost a =
          record {
            least = i.least;
            few = i.few;
            high = omega arith;
            stops =
                sym (stop-lost t x (d - (s + 1)) g s (numbers places) read real a)
                ∙ ap (λ (m : ℕ). stop_in t x m g s (numbers places)) (sym one_less)
                ∙ i.stops;
            same = all-by (ap (map (position_of t)) (stops-lost t x (d - (s + 1)) g s (numbers places) read real a)) (sym (append-nil (take k ats)));
          }

      pub gathered-no-run : h ≤ v % 64 → GatheredFrom t x d g s₀ places₀ before ats₀ k s ats
      gathered-no-run a = gathered-lost (named-run w v places a)

      module _ {j : ℕ} (below : v % 64 < h) (e : j ≡ v % 64) where
        pub gathered-no-place : get_or counts j 0 ≤ (get_or places j (placed 0)).0 → GatheredFrom t x d g s₀ places₀ before ats₀ k s ats
        gathered-no-place a = gathered-lost (named_past w v places below e a)

        module _ (there : (get_or places j (placed 0)).0 < get_or counts j 0) where
          -- the places after the record
          abbrev behind : List Place
          behind = set places j (placed ((get_or places j (placed 0)).0 + 1))

          raised : raise (numbers places) (v % 64) ≡ numbers behind
          raised = sym (raise-numbers places e)

          names : named t (numbers places) v ≡ true
          names = named-yes w v places below e there

          ends : stop_in t x (d - (s + 1)) g (s + 1) (numbers behind) ≡ stop_in t x (d - s₀) g s₀ (numbers places₀)
          ends =
              ends_by behind
              (stop-name t x (d - (s + 1)) g s (numbers places) read real names ∙ ap (stop_in t x (d - (s + 1)) g (s + 1)) raised)

          later : map (position_of t) (stops_in t x (d - (s + 1)) g (s + 1) (raise (numbers places) (v % 64))) ≡ positions t x d g (s + 1) behind
          later = ap (λ (ps : List ℕ). map (position_of t) (stops_in t x (d - (s + 1)) g (s + 1) ps)) raised

          -- a marked record is passed,
          marked : (a : ℕ) → unmarked v ≡ false → Gathering t x d g s₀ places₀ before ats₀ (s + 1) behind k (set ats k a)
          marked a y =
              let few = i.few in
              record {
                least = i.least;
                few = omega arith;
                high = omega arith;
                room = length-set places j (placed ((get_or places j (placed 0)).0 + 1)) ∙ i.room;
                kept = length-set ats k a ∙ i.kept;
                stops = ends;
                same =
                    all-by (ap (map (position_of t)) (stops-marked t x (d - (s + 1)) g s (numbers places) read real names y) ∙ later)
                    (ap (λ (bs : List ℕ). bs ++ positions t x d g (s + 1) behind) (take-set-le k ats k a (omega arith)));
              }

          module _ {starts : List ℕ} (o : Starts t starts) (wide : d + before ≤ s₀ + length ats) {a q : ℕ} (at : a ≡ get_or starts j 0 + 25 * q) (place : q ≡ (get_or places j (placed 0)).0) where
            -- where the record begins
            stands : a ≡ position_of t (stop_at v g s (numbers places))
            unfolding position_of
            stands =
                let runs = w.runs in
                let start : get_or starts j 0 ≡ start_of t (v % 64) = ap (λ (b : ℕ). get_or starts b 0) e ∙ o.starts-are (v % 64) (omega arith) in
                at ∙ ap₂ (λ (b c : ℕ). b + 25 * c) start (place ∙ place_is w v places below e)

            -- an unmarked one is gathered
            listed : unmarked v ≡ true → Gathering t x d g s₀ places₀ before ats₀ (s + 1) behind (k + 1) (set ats k a)
            listed y =
                let few = i.few in
                let free : k < length ats = omega arith in
                let one : take (k + 1) (set ats k a) ≡ take k ats ++ (a ∷ []) = ap (λ (b : ℕ). take b (set ats k a)) (add-one k) ∙ take-suc-set ats k a free in
                let least = i.least in
                record {
                  least = omega arith;
                  few = omega arith;
                  high = omega arith;
                  room = length-set places j (placed ((get_or places j (placed 0)).0 + 1)) ∙ i.room;
                  kept = length-set ats k a ∙ i.kept;
                  stops = ends;
                  same =
                      all-by (ap (map (position_of t)) (stops-name t x (d - (s + 1)) g s (numbers places) read real names y) ∙ ap₂ (λ (b : ℕ) (bs : List ℕ). b ∷ bs) (sym stands) later)
                      (ap (λ (bs : List ℕ). bs ++ positions t x d g (s + 1) behind) one ∙ append_assoc (take k ats) (a ∷ []) (positions t x d g (s + 1) behind));
                }

            pub gathering-name : {u : ℕ} → u ≡ cond (unmarked v) 1 0
                → Gathering t x d g s₀ places₀ before ats₀ (s + 1) (set places j (placed ((get_or places j (placed 0)).0 + 1))) (k + u) (set ats k a)
            gathering-name {u} c =
                cases (unmarked v)
                (λ y. let one : u ≡ 1 = c ∙ rw y in rw one (listed y))
                (λ y. let none : u ≡ 0 = c ∙ rw y in rw (none, add-zero) (marked a y))
