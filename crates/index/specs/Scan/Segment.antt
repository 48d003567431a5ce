-- The scan of one segment: it passes exactly where the offsets are the places, the selectors spell records read one by one,
-- in order, with marks by neighbours, the anchor is the first key, and all that is left has higher keys.
--     Scans, Found        what the scan finds: the records of the segment, c and then es, and the places after them
--     segment-scans       where it passes
--     scans-segment       and that it passes there
use Rattle.std.specs.Prelude.{◌≡◌, refl, Bool, true, false, cond, ◌&&◌, List, [], ◌∷◌, ◌++◌, get_or, eqb}
use Rattle.std.proofs.Common.{sym, ◌∙◌, subst, subst₂}
use Rattle.std.proofs.Math.Path.{ap}
use Prim.Native.Nat.{ℕ, suc, ◌+◌, ◌-◌}
use native.Mathlib.Omega.{arith}
use Rattle.std.proofs.Math.Numerals.{add-one}
use Rattle.std.proofs.Math.Seq.{append_snoc}
use borrow.Author.Tests.{eqb-true, eq-eqb}
use Rattle.theory.specs.Records.{Record}
use Rattle.theory.specs.Tests.{never, and_left, and_right}
use Rattle.theory.specs.Places.{rest}
use Rattle.tray.specs.Frame.{run_count}
use Rattle.tray.specs.Check.{Sound}
use Rattle.tray.specs.Meaning.{runs_of}
use Rattle.theory.specs.Listed.{listed}
use Rattle.index.specs.Layout.{Segment, head_size, anchor_from, segment_from}
use Rattle.index.specs.Layout.Laws.{selectors-listed}
use Rattle.index.specs.Rules.{key_of, Item, OffsetsRight}
use Rattle.index.specs.Rules.Cuts.{last_of, Above}
use Rattle.index.specs.Scan.{Trail, lost, kept, Outcome, wrong, right, begins, offsets_hold, heads_above, names, closed, selectors_scan, segment_scan}
use Rattle.index.specs.Scan.Laws.{bytes_from}
use Rattle.index.specs.Scan.Places.{places_of, raise-places_of}
use Rattle.index.specs.Scan.Entry.{read}
use Rattle.index.specs.Scan.Heads.{heads-above, above-heads}
use Rattle.index.specs.Scan.Trails.{Trails}
use Rattle.index.specs.Scan.Following.{Spelt, following-spelt, trails-following, trail}
use Rattle.index.specs.Scan.Opens.{Opens, opener, held-right, right-held, begins-opens, opens-begins}

-- what the scan finds in a right segment
pub record Scans (t : List (List Record)) (s : Segment) (b : List Item) (c : Item) (es : List Item) : Type 0 where
  pub offsets : OffsetsRight t s b
  pub anchor : s.anchor ≡ key_of c.item
  pub first : ℕ
  pub others : List ℕ
  pub selectors : s.selectors ≡ first ∷ others
  pub opens : Opens t b first others c es
  pub above : Above (last_of c es) (rest key_of t (read (b ++ (c ∷ es))))

-- and with which places it ends
pub record Found (t : List (List Record)) (s : Segment) (b : List Item) (places : List ℕ) : Type 0 where
  pub first : Item
  pub others : List Item
  pub scans : Scans t s b first others
  pub places-are : places ≡ places_of (b ++ (first ∷ others))

-- a test that has passed, and what came after it
passed-right : (b : Bool) {o : Outcome} {places : List ℕ} → cond b o wrong ≡ right places → (b ≡ true) × (o ≡ right places)
passed-right true h = (refl, h)
passed-right false h = never (cc)

closed-right : (t : List ℕ) (h : ℕ) (k : Trail) {places : List ℕ} → closed t h k ≡ right places
    → (last : ℕ) × (k ≡ kept places last) × (heads_above t places last h ≡ true)
unfolding closed
closed-right t h lost e = never (cc)
closed-right t h (kept qs last) {places} e =
    let w = passed-right (heads_above t qs last h) e in
    let same : qs ≡ places = cc in
    (last, ap (λ l. kept l last) same, subst (λ l. heads_above t l last h ≡ true) same w.0)

module _ {t : List ℕ} (sound : Sound t) (x : List ℕ) (n at : ℕ) where
  -- the segment, of n selectors after its first,
  abbrev s : Segment
  s = segment_from (run_count t) (suc n) x at

  -- where its selectors start,
  abbrev i : ℕ
  i = at + head_size (run_count t)

  -- and the first of them
  abbrev v : ℕ
  v = get_or x i 0

  selectors-are : s.selectors ≡ v ∷ bytes_from x n (suc i)
  unfolding listed
  selectors-are = selectors-listed (run_count t) (suc n) x at

  module _ (b : List Item) where
    -- the record that the first selector names
    abbrev head : Item
    head = opener sound b v

    -- what the selectors after the first come to
    abbrev end : Item → Trail
    end c = trail sound x n (suc i) (b ++ (c ∷ [])) c

    -- the tests of the scan
    abbrev held : Bool
    held = offsets_hold x at (places_of b) (run_count t)

    abbrev named : Bool
    named = names t (run_count t) (places_of b) v

    abbrev opened : Bool
    opened = begins v head.item && eqb (anchor_from x at) (key_of head.item)

    scan-is : segment_scan t (run_count t) x (suc n) at (places_of b)
        ≡ cond held (cond named (cond opened (closed t (run_count t) (end head)) wrong) wrong) wrong
    unfolding segment_scan selectors_scan
    scan-is = let less : suc n - 1 ≡ n = omega arith in rw (less, add-one, raise-places_of b head)

    -- after the segment's records all that is left has higher keys
    ends_above : {places : List ℕ} {last : ℕ} (es : List Item)
        → places ≡ places_of (b ++ (head ∷ es)) → last ≡ key_of (last_of head es).item → heads_above t places last (run_count t) ≡ true
        → Above (last_of head es) (rest key_of (runs_of t) (read (b ++ (head ∷ es))))
    ends_above es p q h =
        heads-above sound (b ++ (head ∷ es)) (last_of head es) (subst₂ (λ l k. heads_above t l k (run_count t) ≡ true) p q h)

    found : {places : List ℕ} {last : ℕ} → held ≡ true → named ≡ true → opened ≡ true
        → Spelt (runs_of t) (b ++ (head ∷ [])) head (bytes_from x n (suc i)) places last
        → heads_above t places last (run_count t) ≡ true → Found (runs_of t) s b places
    unfolding segment_from
    found holds names opens spelt above =
        let es = spelt.records in
        let places-are = spelt.places-are ∙ ap places_of (append_snoc b head es) in
        record {
          first = head;
          others = es;
          scans = record {
            offsets = held-right sound b (suc n) x at holds;
            anchor = eqb-true _ _ (and_right (begins v head.item) _ opens);
            first = v;
            others = bytes_from x n (suc i);
            selectors = selectors-are;
            opens = begins-opens sound b v names (and_left _ _ opens) spelt.trails;
            above = ends_above es places-are spelt.last-is above;
          };
          places-are = places-are;
        }

    pub segment-scans : {places : List ℕ}
        → segment_scan t (run_count t) x (suc n) at (places_of b) ≡ right places → Found (runs_of t) s b places
    segment-scans h =
        let holds = passed-right held (sym scan-is ∙ h) in
        let names = passed-right named holds.1 in
        let opens = passed-right opened names.1 in
        let closes = closed-right t (run_count t) (end head) opens.1 in
        found holds.0 names.0 opens.0
        (following-spelt sound x n (suc i) (b ++ (head ∷ [])) head (omega arith) closes.1) closes.2

    module _ (c : Item) (es : List Item) where
      -- the first selector and the others are these bytes
      scans-opens : Scans (runs_of t) s b c es → Opens (runs_of t) b v (bytes_from x n (suc i)) c es
      scans-opens k =
          let bytes = sym k.selectors ∙ selectors-are in
          let p : k.first ≡ v = cc in let q : k.others ≡ bytes_from x n (suc i) = cc in
          subst₂ (λ u us. Opens (runs_of t) b u us c es) p q k.opens

      closes : Trails (runs_of t) (b ++ (c ∷ [])) c (bytes_from x n (suc i)) es
          → Above (last_of c es) (rest key_of (runs_of t) (read (b ++ (c ∷ es))))
          → closed t (run_count t) (end c) ≡ right (places_of (b ++ (c ∷ es)))
      unfolding closed
      closes k above =
          rw (
            trails-following sound x n (suc i) (b ++ (c ∷ [])) c es k,
            append_snoc b c es,
            above-heads sound (b ++ (c ∷ es)) (last_of c es) above,
          )

      pub scans-segment : Scans (runs_of t) s b c es
          → segment_scan t (run_count t) x (suc n) at (places_of b) ≡ right (places_of (b ++ (c ∷ es)))
      unfolding segment_from
      scans-segment k =
          let o = scans-opens k in let w = opens-begins sound b v o in
          let anchored = eq-eqb _ _ (k.anchor ∙ ap (λ y. key_of y.item) (sym w.0)) in
          scan-is
          ∙ rw (right-held sound b (suc n) x at k.offsets, w.1, w.2, anchored)
          (ap (λ y. closed t (run_count t) (end y)) w.0 ∙ closes o.later k.above)
