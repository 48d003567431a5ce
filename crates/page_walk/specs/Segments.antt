-- A page a segment at a time: its records are gathered first and then written, where there is room for them.
--     page-passes, tour-page       what a page does at a segment's stops
--     page-goes, page-lost         after them
use Rattle.std.specs.Prelude.{◌≡◌, false, take, Err}
use Rattle.std.proofs.Math.Path.{sym, ap}
use Rattle.std.proofs.Common.{ap₂, ◌∙◌, subst, add-zero}
use Prim.Native.Nat.{ℕ, suc, ◌+◌, ◌-◌, ◌*◌, ◌≤◌, ◌<◌}
use native.Mathlib.Omega.{arith}
use mathlib.Core.List.{List, [], ◌∷◌, map}
use Rattle.std.proofs.Math.ListN.{length}
use Rattle.std.proofs.lemmas.List.{length-map}
use Rattle.std.proofs.Math.Seq.{length-take-le}
use borrow.Author.Tests.{le-leb}
use Rattle.number.specs.Big.{put}
use Rattle.number.proofs.Big.Writes.{length-put}
use Rattle.theory.specs.Lists.{here, all_tail}
use Rattle.theory.specs.Records.{Record}
use Rattle.theory.specs.Rising.{All}
use Rattle.tray.specs.declared.Place.{Place}
use Rattle.tray.specs.Frame.{Framed}
use Rattle.tray.specs.Run.{record_from}
use Rattle.walk.specs.Walk.{Spot, Visit, go, Walked, lost, walk_selectors, walk_segments}
use Rattle.walk.specs.Walk.Tours.{after, tour_then}
use Rattle.walk.specs.Reads.{Written, listed_bytes, write, unmarked, page_visit}
use Rattle.walk.proofs.ReadsLaws.Page.{length-listed}
use Rattle.walk.specs.Code.{numbers}
use Rattle.walk.specs.Code.Turns.{Here}
use Rattle.list.specs.Stops.{NamedStop, stops_in, position_of, GatheredFrom}
use Rattle.list.specs.Stops.Laws.{seen_at, then_on, then-lost, then-rest, walk-stops, Right, stops-right}
use Rattle.walk.specs.declared.cursor.Lost.{Lost}
use Rattle.list.specs.Page.{so_far, paged_as, paged_of}
use Rattle.list.specs.Put.{put_all}

module _ (t : List ℕ) where
  -- marked records are passed,
  pub page-passes : (v : ℕ) (c : Spot) (w : Written) → unmarked v ≡ false → page_visit t v c w ≡ go w
  unfolding page_visit
  page-passes v c w u = rw u

  -- and the record of a stop is written where there is room
  page-one : {p : NamedStop} → Right t p → (count : ℕ) (out : List ℕ) → 24 * count + 24 ≤ length out
      → page_visit t p.selector p.spot (so_far count out) ≡ go (so_far (count + 1) (put out (24 * count) (listed_bytes (record_from t (position_of t p)))))
  unfolding page_visit write
  page-one r count out l =
      rw (r.clear, le-leb (24 * count + 24) (length out) l) (ap (λ (e : Record). go (so_far (count + 1) (put out (24 * count) (listed_bytes e)))) (sym r.is))

  pub tour-page : (ps : List NamedStop) → All (Right t) ps → (count : ℕ) (out : List ℕ) (rest : Written → Walked Written (Written × Spot)) → 24 * (count + length ps) ≤ length out
      → tour_then (seen_at (page_visit t)) ps (so_far count out) rest ≡ rest (so_far (count + length ps) (put_all t (map (position_of t) ps) count out))
  unfolding tour_then after put_all
  tour-page [] r count out rest l = ap (λ (k : ℕ). rest (so_far k out)) (sym (add-zero count))
  tour-page (p ∷ ps) r count out rest l =
      let next : List ℕ = put out (24 * count) (listed_bytes (record_from t (position_of t p))) in
      let e : length (listed_bytes (record_from t (position_of t p))) ≡ 24 = length-listed (record_from t (position_of t p)) in
      let long : length next ≡ length out = length-put out (24 * count) (listed_bytes (record_from t (position_of t p))) (omega arith) in
      let one : count + 1 + length ps ≡ count + suc (length ps) = omega arith in
      ap (λ (a : Visit Written (Written × Spot)). after a (λ (w : Written). tour_then (seen_at (page_visit t)) ps w rest)) (page-one (r p here) count out (omega arith))
      ∙ tour-page ps (all_tail r) (count + 1) next rest (omega arith)
      ∙ ap (λ (k : ℕ). rest (so_far k (put_all t (map (position_of t) ps) (count + 1) next))) one

module _ {t x : List ℕ} {d n : ℕ} {whole : Walked Written (Written × Spot)} {g s : ℕ} {places : List Place} {count : ℕ} {out : List ℕ}
    (i : Here t x (page_visit t) d n whole g s places (so_far count out)) (framed : Framed t) {q : ℕ} (e : q ≡ s) {ats₀ : List ℕ} {k stop : ℕ} {ats : List ℕ}
    (f : GatheredFrom t x d g q places 0 ats₀ k stop ats) (held : k ≤ length ats) (roomy : 24 * (count + k) ≤ length out) {after : List ℕ} (wrote : after ≡ put_all t (take k ats) count out) where
  abbrev rest : Written → Walked Written (Written × Spot)
  rest = walk_segments t x (page_visit t) (n - (g + 1)) (g + 1)

  abbrev stops : List NamedStop
  stops = stops_in t x (d - s) g s (numbers places)

  from : GatheredFrom t x d g s places 0 ats₀ k stop ats
  from = subst (λ (b : ℕ). GatheredFrom t x d g b places 0 ats₀ k stop ats) e f

  gathered : take k ats ≡ map (position_of t) stops
  gathered = from.same

  many : length stops ≡ k
  many = sym (length-map stops (position_of t)) ∙ ap length (sym gathered) ∙ length-take-le k ats held

  -- the page after the stops
  behind : walk_selectors t x (page_visit t) (d - s) g s (numbers places) (so_far count out) rest ≡ then_on rest g stop d (so_far (count + k) after)
  behind =
      let high = i.on.high in
      let fits : 24 * (count + length stops) ≤ length out = subst (λ (b : ℕ). 24 * (count + b) ≤ length out) (sym many) roomy in
      walk-stops t x (page_visit t) (page-passes t) rest (d - s) g s (numbers places) (so_far count out) {end = d} (omega arith)
      ∙ ap (λ (b : ℕ). tour_then (seen_at (page_visit t)) stops (so_far count out) (then_on rest g b d)) (sym from.stops)
      ∙ tour-page t stops (stops-right t framed x (d - s) g s (numbers places)) count out (then_on rest g stop d) fits
      ∙ ap₂ (λ (b : ℕ) (bs : List ℕ). then_on rest g stop d (so_far (count + b) (put_all t bs count out))) many (sym gathered)
      ∙ ap (λ (o : List ℕ). then_on rest g stop d (so_far (count + k) o)) (sym wrote)

  -- it goes on after the segment,
  pub page-goes : d ≤ stop → Here t x (page_visit t) d n whole g d places (so_far (count + k) after)
  unfolding walk_selectors
  page-goes l =
      let z : d - d ≡ 0 = omega arith in
      record {
        room = i.room;
        on =
            record {
              inside = i.on.inside;
              high = omega arith;
              same = rw z (sym (then-rest rest g stop d (so_far (count + k) after) l) ∙ sym behind ∙ i.on.same);
            };
      }

  -- or is lost in it
  pub page-lost : {l : Lost} → l.segment ≡ g → l.selector ≡ stop → stop < d → paged_of (record { count = count + k; stop = Err l }) after ≡ whole
  unfolding paged_of paged_as
  page-lost a b m =
      ap₂ (λ (j z : ℕ). lost j z (so_far (count + k) after)) a b ∙ sym (then-lost rest g stop d (so_far (count + k) after) m) ∙ sym behind ∙ i.on.same
