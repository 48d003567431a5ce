-- Laws of the stops of a segment.
--     stops-pass, stops-name, stops-marked, stops-lost    the stops, a selector at a time
--     stop-pass, stop-name, stop-lost                     the selector where they end, the same way
--     then_on, then-lost, then-rest                        what comes after the stops
--     walk-stops                                          a walk whose visitor passes marked records comes to these stops, and goes on or is lost
--     record-part, record-run                             a record in a part of the tray, and in its run
--     Right, stops-right                                  each stop is unmarked, and its record is the one at its position, inside the tray
--     within_none, within-take, within-append, within-stops, gathered-within     positions inside the tray
use Rattle.std.specs.Prelude.{◌≡◌, true, false, cond, List, [], ◌∷◌, ◌++◌, map, take, drop, eqb, ltb}
use Rattle.std.proofs.Math.Path.{refl, sym, ap}
use Rattle.std.proofs.Common.{◌∙◌, subst, arith, length-take, get_or-take, get_or-drop}
use Prim.Native.Nat.{ℕ, zero, suc, ◌+◌, ◌-◌, ◌*◌, ◌≤◌, ◌<◌}
use Rattle.std.proofs.Math.ListN.{length, get_or}
use borrow.Author.Tests.{eqb-true, eqb-false, eq-eqb, ne_eqb, ltb-true, lt-ltb, le-ltb}
use Rattle.number.specs.Big.{be}
use Rattle.number.proofs.Big.Laws.{be-part}
use Rattle.theory.specs.Lists.{here, all_nil, all_cons, all_tail}
use Rattle.theory.specs.Rising.{All}
use Rattle.theory.specs.Tests.{split, cases, and_left, and_right}
use Rattle.tray.specs.declared.Place.{Place}
use Rattle.tray.specs.Frame.{run_count, count_of, start_of, run_bytes, Framed}
use Rattle.tray.specs.Frame.Laws.{start_of-next, start_of-within}
use Rattle.tray.specs.Run.{record_from, record_at}
use Rattle.index.specs.Scan.{run_in, raise}
use Rattle.walk.specs.Walk.{Spot, Visit, go, Walked, lost, selector_at, named, walk_selectors}
use Rattle.walk.specs.Walk.Tours.{after, after-ext, tour_then}
use Rattle.walk.specs.Walk.Segment.{walk-passed, walk-visits}
use Rattle.walk.specs.Reads.{unmarked, record_by}
use Rattle.walk.specs.Code.{numbers}
use Rattle.list.specs.Stops.{NamedStop, stops_in, stop_in, position_of, positions, Within, GatheredFrom}

-- a selector with the walk at it
abbrev pub stop_at : ℕ → ℕ → ℕ → List ℕ → NamedStop
stop_at v g s places = record { selector = v; spot = record { segment = g; selector = s; places = places } }

module _ (t x : List ℕ) (k g s : ℕ) (places : List ℕ) {v : ℕ} (read : v ≡ selector_at (run_count t) x g s) where
  pub stops-pass : v ≡ 63 → stops_in t x (suc k) g s places ≡ stops_in t x k g (s + 1) places
  unfolding stops_in
  stops-pass e = rw (eq-eqb (selector_at (run_count t) x g s) 63 (sym read ∙ e))

  pub stop-pass : v ≡ 63 → stop_in t x (suc k) g s places ≡ stop_in t x k g (s + 1) places
  unfolding stop_in
  stop-pass e = rw (eq-eqb (selector_at (run_count t) x g s) 63 (sym read ∙ e))

  module _ (real : v ≡ 63 → ⊥) where
    module _ (n : named t places v ≡ false) where
      pub stops-lost : stops_in t x (suc k) g s places ≡ []
      unfolding stops_in
      stops-lost = rw (ne_eqb (selector_at (run_count t) x g s) 63 (λ e. real (read ∙ e)), sym read, n)

      pub stop-lost : stop_in t x (suc k) g s places ≡ s
      unfolding stop_in
      stop-lost = rw (ne_eqb (selector_at (run_count t) x g s) 63 (λ e. real (read ∙ e)), sym read, n)

    module _ (n : named t places v ≡ true) where
      pub stop-name : stop_in t x (suc k) g s places ≡ stop_in t x k g (s + 1) (raise places (run_in v))
      unfolding stop_in
      stop-name = rw (ne_eqb (selector_at (run_count t) x g s) 63 (λ e. real (read ∙ e)), sym read, n)

      pub stops-name : unmarked v ≡ true → stops_in t x (suc k) g s places ≡ stop_at v g s places ∷ stops_in t x k g (s + 1) (raise places (run_in v))
      unfolding stops_in
      stops-name u = rw (ne_eqb (selector_at (run_count t) x g s) 63 (λ e. real (read ∙ e)), sym read, n, u)

      pub stops-marked : unmarked v ≡ false → stops_in t x (suc k) g s places ≡ stops_in t x k g (s + 1) (raise places (run_in v))
      unfolding stops_in
      stops-marked u = rw (ne_eqb (selector_at (run_count t) x g s) 63 (λ e. real (read ∙ e)), sym read, n, u)

walk-lost : {S R : Type 0} (t x : List ℕ) (visit : ℕ → Spot → S → Visit S R) (k g s : ℕ) (places : List ℕ) (st : S) (rest : S → Walked S R)
    → (selector_at (run_count t) x g s ≡ 63 → ⊥) → named t places (selector_at (run_count t) x g s) ≡ false → walk_selectors t x visit (suc k) g s places st rest ≡ lost g s st
unfolding walk_selectors
walk-lost t x visit k g s places st rest real n = rw (ne_eqb (selector_at (run_count t) x g s) 63 real, n)

-- the visitor at a stop
abbrev pub seen_at : {S R : Type 0} → (ℕ → Spot → S → Visit S R) → NamedStop → S → Visit S R
seen_at visit p st = visit p.selector p.spot st

-- what comes after the stops of a segment: the walk is lost, or goes on after it
unfoldable pub then_on : {S R : Type 0} (rest : S → Walked S R) (g stop end : ℕ) → S → Walked S R
then_on rest g stop end st = cond (ltb stop end) (lost g stop st) (rest st)

module _ {S R : Type 0} (rest : S → Walked S R) (g stop end : ℕ) (st : S) where
  pub then-lost : stop < end → then_on rest g stop end st ≡ lost g stop st
  unfolding then_on
  then-lost l = rw (lt-ltb stop end l)

  pub then-rest : end ≤ stop → then_on rest g stop end st ≡ rest st
  unfolding then_on
  then-rest l = rw (le-ltb stop end l)

module _ {S R : Type 0} (t x : List ℕ) (visit : ℕ → Spot → S → Visit S R) (passes : (v : ℕ) (c : Spot) (st : S) → unmarked v ≡ false → visit v c st ≡ go st) (rest : S → Walked S R) where
  pub walk-stops : (k g s : ℕ) (places : List ℕ) (st : S) {end : ℕ} → end ≡ s + k
      → walk_selectors t x visit k g s places st rest ≡ tour_then (seen_at visit) (stops_in t x k g s places) st (then_on rest g (stop_in t x k g s places) end)
  unfolding walk_selectors stops_in stop_in tour_then then_on after
  walk-stops zero g s places st {end} e = sym (rw (le-ltb s end (omega arith)))
  walk-stops (suc k) g s places st {end} e =
      cases (eqb v 63)
      (λ y. let z = eqb-true v 63 y in
      walk-passed t x visit k g s places st rest z
      ∙ walk-stops k g (s + 1) places st {end = end} (omega arith)
      ∙ sym (rw (stops-pass t x k g s places refl z, stop-pass t x k g s places refl z)))
      (λ y. let real = eqb-false v 63 y in
      cases (named t places v)
      (λ n.
      walk-visits t x visit k g s places st rest real n
      ∙ cases (unmarked v)
      (λ u.
      after-ext (visit v spot st) (λ st'. walk-stops k g (s + 1) (raise places (run_in v)) st' {end = end} (omega arith))
      ∙ sym (rw (stops-name t x k g s places refl real n u, stop-name t x k g s places refl real n)))
      (λ u.
      ap (λ (a : Visit S R). after a (λ st'. walk_selectors t x visit k g (s + 1) (raise places (run_in v)) st' rest)) (passes v spot st u)
      ∙ walk-stops k g (s + 1) (raise places (run_in v)) st {end = end} (omega arith)
      ∙ sym (rw (stops-marked t x k g s places refl real n u, stop-name t x k g s places refl real n))))
      (λ n.
      walk-lost t x visit k g s places st rest real n
      ∙ sym (rw (stops-lost t x k g s places refl real n, stop-lost t x k g s places refl real n, lt-ltb s end (omega arith)))))
    where
      v : ℕ
      v = selector_at (run_count t) x g s

      spot : Spot
      spot = record { segment = g; selector = s; places = places }

pub record-part : (t : List ℕ) (a m p : ℕ) → p + 25 ≤ m → record_from (take m (drop a t)) p ≡ record_from t (a + p)
unfolding record_from
record-part t a m p l =
    let eight : a + (p + 8) ≡ a + p + 8 = omega arith in
    let nine : a + (p + 9) ≡ a + p + 9 = omega arith in
    let key : be 8 (take m (drop a t)) p ≡ be 8 t (a + p) = be-part 8 a m t p (omega arith) in
    let kind : get_or (take m (drop a t)) (p + 8) 0 ≡ get_or t (a + p + 8) 0 =
    get_or-take m (drop a t) (p + 8) 0 (omega arith) ∙ get_or-drop a t (p + 8) 0 ∙ ap (λ (i : ℕ). get_or t i 0) eight in
    let value : be 16 (take m (drop a t)) (p + 9) ≡ be 16 t (a + p + 9) = be-part 16 a m t (p + 9) (omega arith) ∙ ap (be 16 t) nine in
    rw (key, kind, value)

pub record-run : (t : List ℕ) (r p : ℕ) → p < count_of t r → record_at (run_bytes t r) p ≡ record_from t (start_of t r + 25 * p)
unfolding run_bytes
record-run t r p l =
    let next : start_of t (suc r) ≡ start_of t r + 25 * count_of t r = start_of-next t r in
    record-part t (start_of t r) (start_of t (suc r) - start_of t r) (25 * p) (omega arith)

-- a stop is unmarked, and its record is the one at its position, inside the tray
pub record Right (t : List ℕ) (p : NamedStop) : Type 0 where
  pub clear : unmarked p.selector ≡ true
  pub inside : position_of t p + 25 ≤ length t
  pub is : record_from t (position_of t p) ≡ record_by t p.selector p.spot

module _ (t : List ℕ) (f : Framed t) where
  right : (v g s : ℕ) (places : List ℕ) → named t places v ≡ true → unmarked v ≡ true → Right t (stop_at v g s places)
  unfolding named position_of record_by
  right v g s places n u =
      let r : ℕ = run_in v in
      let a : r < run_count t = ltb-true r (run_count t) (and_left (ltb r (run_count t)) (ltb (get_or places r 0) (count_of t r)) n) in
      let b : get_or places r 0 < count_of t r = ltb-true (get_or places r 0) (count_of t r) (and_right (ltb r (run_count t)) (ltb (get_or places r 0) (count_of t r)) n) in
      let next : start_of t (suc r) ≡ start_of t r + 25 * count_of t r = start_of-next t r in
      let in-tray : start_of t (suc r) ≤ length t = start_of-within t f (suc r) (omega arith) in
      record { clear = u; inside = omega arith; is = sym (record-run t r (get_or places r 0) b) }

  pub stops-right : (x : List ℕ) (k g s : ℕ) (places : List ℕ) → All (Right t) (stops_in t x k g s places)
  unfolding stops_in
  stops-right x zero g s places = all_nil (Right t)
  stops-right x (suc k) g s places =
      let later = stops-right x k g (s + 1) (raise places (run_in v)) in
      split (All (Right t)) (eqb v 63) (λ _. stops-right x k g (s + 1) places)
      (λ _.
      split (All (Right t)) (named t places v) (λ n. split (All (Right t)) (unmarked v) (λ u. all_cons (right v g s places n u) later) (λ _. later))
      (λ _. all_nil (Right t)))
    where
      v : ℕ
      v = selector_at (run_count t) x g s

pub within_none : (t : List ℕ) → Within t []
within_none t = record { ends = λ i l. absurd (omega arith) }

pub within-take : {t : List ℕ} (m k : ℕ) (ats : List ℕ) → m ≤ k → Within t (take k ats) → Within t (take m ats)
within-take {t} m k ats l w =
    record {
      ends = λ i b.
          let less : length (take m ats) ≤ m = omega (arith, length-take m ats) in
          let long : length (take m ats) ≤ length (take k ats) = omega (arith, length-take m ats, length-take k ats) in
          let there = w.ends i (omega arith) in
          subst (λ (a : ℕ). a + 25 ≤ length t) (get_or-take k ats i 0 (omega arith) ∙ sym (get_or-take m ats i 0 (omega arith))) there;
    }

pub within-append : {t : List ℕ} (cs bs : List ℕ) → Within t cs → Within t bs → Within t (cs ++ bs)
within-append {t} cs bs a b = record { ends = λ i l. by cs a i l }
  where
    by : (cs : List ℕ) → Within t cs → (i : ℕ) → i < length (cs ++ bs) → get_or (cs ++ bs) i 0 + 25 ≤ length t
    by [] a i l = b.ends i l
    by (c ∷ cs) a zero l = a.ends zero (omega arith)
    by (c ∷ cs) a (suc i) l = by cs (record { ends = λ j k. a.ends (suc j) (omega arith) }) i (omega arith)

pub within-stops : {t : List ℕ} (ps : List NamedStop) → All (Right t) ps → Within t (map (position_of t) ps)
within-stops {t} ps r = record { ends = λ i l. by ps r i l }
  where
    by : (ps : List NamedStop) → All (Right t) ps → (i : ℕ) → i < length (map (position_of t) ps) → get_or (map (position_of t) ps) i 0 + 25 ≤ length t
    by [] r i l = absurd (omega arith)
    by (p ∷ ps) r zero l = (r p here).inside
    by (p ∷ ps) r (suc i) l = by ps (all_tail r) i (omega arith)

pub gathered-within : {t x : List ℕ} {d g s : ℕ} {places : List Place} {before : ℕ} {ats₀ : List ℕ} {k stop : ℕ} {ats : List ℕ} → Framed t → Within t (take before ats₀)
    → GatheredFrom t x d g s places before ats₀ k stop ats → Within t (take k ats)
gathered-within {t} {x} {d} {g} {s} {places} {before} {ats₀} framed w f =
    subst (Within t) (sym f.same)
    (within-append (take before ats₀) (positions t x d g s places) w
    (within-stops (stops_in t x (d - s) g s (numbers places)) (stops-right t framed x (d - s) g s (numbers places))))
