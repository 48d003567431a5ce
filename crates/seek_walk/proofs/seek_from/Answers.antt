-- Invariants: the walk from here answers for the walk from this segment on, and this for the whole. Each way out is a law of `Code`.
use Rattle.std.specs.Prelude.{◌≡◌, ℕ, ◌%◌, ◌<◌, List, get_or, Ok, Some}
use Rattle.std.proofs.Common.{refl, ap, ◌∙◌, length-set}
use Rattle.tray.specs.declared.Place.{Place}
use Rattle.walk.specs.Code.{placed, Walking, numbers, sought_of, spot_of, segments-end, selectors-end, selectors-pass, selectors-lost, selectors-stay, selectors-go, raise-numbers}
use Rattle.walk.specs.Code.Load.{loaded_from}
use Rattle.walk.specs.Code.Turns.{here-first, selector-is, place_is, named-yes, named_past, named-run}
use Rattle.walk.specs.Code.Seek.{lost_at, visit-go, visit-stay}
use Rattle.walk.specs.Reads.{found_by}
use Rattle.walk.specs.Walk.{stayed}
use Rattle.seek_walk.proofs.seek_from.Goals as goal
use Rattle.seek_walk.proofs.seek_from.Goals.{then-index-r-via-then-index-r, then-index-r-via-else-index-r+then-tray-i}

pub loop-s-init : goal.loop-s-init
loop-s-init c =
    here-first c.args.indexed.now.walking c.loop-g-test.true refl (c.load.ensures ∙ ap (loaded_from _ _) c.segment_at.ensures.value)

pub loop-s-preserved-then-v-eq63 : goal.loop-s-preserved-then-v-eq63
loop-s-preserved-then-v-eq63 c =
    let i = c.loop-s.invariant in
    record {
      room = i.room;
      on = selectors-pass i.on c.loop-s-test.true (selector-is c.args.indexed.now.walking _ _ refl c.selectors_at-first.ensures.value c.from.ensures) c.if-v-eq63.true;
    }

pub loop-s-preserved : goal.loop-s-preserved
loop-s-preserved c =
    let w = c.args.indexed.now.walking in
    let i = c.loop-s.invariant in
    let ps = c.loop-s.places in
    record {
      room = simp length-set i.room;
      on = selectors-go
          i.on
          c.loop-s-test.true
          (selector-is w _ _ refl c.selectors_at-first.ensures.value c.from.ensures)
          c.if-v-eq63.false
          (named-yes w _ _ c.if-index-r.false c.from-i.ensures c.if-tray-i.false)
          (visit-go w _ ps c.if-index-r.false c.from-i.ensures _ _ _ c.stays.ensures c.if-stays.false)
          (raise-numbers ps c.from-i.ensures);
    }

pub loop-g-preserved : goal.loop-g-preserved
loop-g-preserved c = record { same = (selectors-end c.loop-s.invariant.on c.loop-s-test.false).same ∙ c.loop-g.invariant.same }

pub returns-then-index-r : goal.returns-then-index-r
unfolding sought_of
returns-then-index-r c =
    let w = c.args.indexed.now.walking in
    ap (lost_at _) c.from-then-index-r.ensures
    ∙ selectors-lost
    c.loop-s.invariant.on
    c.loop-s-test.true
    (selector-is w _ _ refl c.selectors_at-first.ensures.value c.from.ensures)
    c.if-v-eq63.false
    (elim c.then-index-r.branch [
      | then-index-r-via-then-index-r b ↦ named-run w _ c.loop-s.places b.if-index-r.true
      | then-index-r-via-else-index-r+then-tray-i b ↦ named_past w _ c.loop-s.places b.if-index-r.false c.from-i.ensures b.if-tray-i.true
    ])
    ∙ c.loop-g.invariant.same

-- a record found by a selector of the walk
sighted : {t x : List ℕ} {h d n : ℕ} {counts : List ℕ} → Walking t x h d n counts → (g s v : ℕ) {i : ℕ} (places : List Place) → v % 64 < h → i ≡ v % 64
    → sought_of (Ok (Some (record {
      run = record { 0 = v % 64 };
      place = get_or places i (placed 0);
      cursor = record { segment = record { 0 = g }; selector = s; places = places };
    })))
    ≡ stayed (found_by v (record { segment = g; selector = s; places = numbers places }))
unfolding sought_of spot_of found_by
sighted w g s v places below e =
    ap (λ (p : ℕ). stayed (record { run = v % 64; place = p; spot = record { segment = g; selector = s; places = numbers places } })) (place_is w v places below e)

pub returns-then-stays : goal.returns-then-stays
returns-then-stays c =
    let w = c.args.indexed.now.walking in
    let ps = c.loop-s.places in
    sighted w _ _ _ ps c.if-index-r.false c.from-i.ensures
    ∙ selectors-stay
    c.loop-s.invariant.on
    c.loop-s-test.true
    (selector-is w _ _ refl c.selectors_at-first.ensures.value c.from.ensures)
    c.if-v-eq63.false
    (named-yes w _ _ c.if-index-r.false c.from-i.ensures c.if-tray-i.false)
    (visit-stay w _ ps c.if-index-r.false c.from-i.ensures _ _ _ c.stays.ensures c.if-stays.true)
    ∙ c.loop-g.invariant.same

pub returns-after-loop-g : goal.returns-after-loop-g
unfolding sought_of
returns-after-loop-g c = segments-end c.loop-g.invariant c.loop-g-test.false
