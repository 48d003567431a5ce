-- What the code writes into a segment: key after key, as `pack` packs them.
--     Filled, fill_is       the records whose selectors are written, and what is left after them
use Rattle.std.specs.Prelude.{◌≡◌, refl, ℕ, ◌+◌, ◌-◌, ◌*◌, ◌≤◌, ◌<◌, List, [], ◌∷◌, ◌++◌, map, length, get_or, take, drop, eqb, ltb}
use Rattle.std.proofs.Common.{sym, ap, ap₂, ◌∙◌, subst, ⊎_elim, arith, append_assoc, append-nil, length-append, get_or-append-add, length-take-le, eqb-true, ltb-true, ltb-false}
use mathlib.Core.List.Memᴰ
use Rattle.std.proofs.lemmas.List.{map-append, length-map}
use Rattle.std.proofs.Math.ListN.{get_or-append}
use Rattle.std.proofs.Math.Seq.{append_snoc}
use Rattle.std.proofs.lemmas.Bool.{eqb-false}
use Rattle.theory.specs.Tests.{cases}
use Rattle.number.specs.Big.{put}
use Rattle.theory.specs.Rising.{Mem, Rises}
use Rattle.theory.proofs.Rising.Laws.{rises-left, rises-right}
use Rattle.theory.specs.View.{rank}
use Rattle.theory.proofs.View.Laws.{view-at}
use Rattle.theory.proofs.View.Entries.{at-run}
use Rattle.theory.specs.Pack.{groups, pack}
use Rattle.theory.proofs.Pack.Groups.{groups-full}
use Rattle.tray.specs.Frame.{run_count}
use Rattle.tray.specs.Meaning.{runs_of, Fits}
use Rattle.index.specs.Rules.{Item, key_of, selector_of}
use Rattle.index.specs.Rules.Cuts.{Cut, Above, last_of, last_snoc, whole_above, cut_low, cut-rises, cut-next}
use Rattle.index.specs.Scan.Places.{places_of}
use Rattle.merge_lead.specs.Heads.Leads.{NextRun, LeastKey}
use Rattle.build_spec.specs.Build.{item_key}
use Rattle.build_spec.specs.Build.Laws.{Ready}
use Rattle.build_spec.proofs.Build.Laws.{below_64, rises-room}
use Rattle.build_marks.specs.Code.{other_key, Stopped, After, over, other, stop, back, Fills, ends, cuts}
use Rattle.build_marks.specs.Code.Merge.{Reached, Stand, Came, next-first, none_left, least_first}
use Rattle.build_marks.specs.Code.Spelled.{marks_on, last_key, last_key-last, spells}
use Rattle.build_marks.specs.Code.Taken.{Taken, taken-reached, steps-taken}
use Rattle.build_segment.specs.Segment.Given.{Holds, LastGroup, back_is}
use Rattle.build_segment.specs.Segment.Packed.{pack-front, first-long}

-- after b, the records own are the next segment of w, their selectors are written from a place on, and perhaps more after them
pub record Filled (t : List ℕ) (d : ℕ) (b w : List Item) (places' seg seg' : List ℕ) (from e : ℕ) : Type 0 where
  pub own : List Item
  pub left : List Item
  pub some : 0 < length own
  pub packed : pack d (groups item_key w) ≡ own ∷ pack d (groups item_key left)
  pub stand : Stand t (b ++ own) left places'
  pub parts : w ≡ own ++ left
  pub extra : List ℕ
  pub short : length own + length extra ≤ d
  pub bytes : seg' ≡ put seg from (map (selector_of (runs_of t)) own ++ extra)
  pub end : e ≡ from + length own

-- a list without members
empty-is : {A : Type 0} (xs : List A) → length xs ≡ 0 → xs ≡ []
empty-is [] e = refl
empty-is (x ∷ xs) e = absurd (omega arith)

groups_none : groups item_key [] ≡ []
unfolding groups
groups_none = refl

-- what was written, byte for byte
get_or-put : (s : List ℕ) (p : ℕ) (ys : List ℕ) (i : ℕ) → p ≤ length s → i < length ys → get_or (put s p ys) (p + i) 0 ≡ get_or ys i 0
unfolding put
get_or-put s p ys i l m =
    let long : length (take p s) ≡ p = length-take-le p s l in
    ap (λ (n : ℕ). get_or (take p s ++ (ys ++ drop (p + length ys) s)) (n + i) 0) (sym long)
    ∙ get_or-append-add (take p s) (ys ++ drop (p + length ys) s) i 0
    ∙ get_or-append ys (drop (p + length ys) s) 0 i m

other-not : (k : ℕ) → other_key k ≡ k → ⊥
unfolding other_key
other-not k e = cases (eqb k 0) (λ y. let z : other_key k ≡ 1 = rw y in omega (arith, eqb-true k 0 y)) (λ n. let z : other_key k ≡ 0 = rw n in eqb-false k 0 n (omega arith))

module _ {d : ℕ} {t : List ℕ} {h : ℕ} (ready : Ready d (runs_of t)) (fits : Fits (runs_of t)) (runs-are : h ≡ run_count t) {b w : List Item} {places : List ℕ} {anchor : ℕ}
    (stand : Stand t b w places) (low : LeastKey t h places anchor) (some : 0 < length w) where
  -- the tray has few runs, and a record is in one of them
  run_of : (x : Item) → Mem x w → x.run < length (runs_of t)
  run_of x m = at-run (runs_of t) x (view-at key_of (runs_of t) x (rw stand.cut.whole (Memᴰ.append_right b m)))

  reached : Reached t b w places
  reached = record { whole = stand.cut.whole; is = stand.is }

  -- records c and es, after which v is left, are the next segment, where v has another key and no room for its first one
  module _ (c : Item) (es v : List Item) (parts : w ≡ (c ∷ es) ++ v) where
    differ-above : ((f : Item) (u : List Item) → v ≡ f ∷ u → last_key (other_key anchor) (c ∷ es) ≡ item_key f → ⊥) → Above (last_of c es) v
    differ-above n =
        whole_above (runs_of t) c es v
        (λ us e f u p q k. n f u q (last_key-last (other_key anchor) c es ∙ ap (λ y. key_of y.item) (last_snoc c es us e p) ∙ k))
        (rw parts at (cut-rises ready.good (below_64 ready) stand.cut))
        (λ x m. cut_low ready.good (below_64 ready) stand.cut x (rw parts (Memᴰ.append_right (c ∷ es) m)))

    cut-is : Above (last_of c es) v → Cut (runs_of t) (b ++ (c ∷ es)) v
    cut-is a = cut-next ready.good (below_64 ready) c es v stand.cut parts a

    packed-is : Above (last_of c es) v → length (c ∷ es) ≤ d → ((g : List Item) (gs : List (List Item)) → groups item_key v ≡ g ∷ gs → d < length (c ∷ es) + length g)
        → pack d (groups item_key w) ≡ (c ∷ es) ∷ pack d (groups item_key v)
    packed-is a short past =
        ap (λ l. pack d (groups item_key l)) parts
        ∙ pack-front d (c ∷ es) v (omega arith) short (λ x e m n k. (cut-is a).apart x e (Memᴰ.append_right b m) n k) past

    -- the first record has the anchor's key
    first_key : item_key c ≡ anchor
    first_key = least_first ready fits reached runs-are low c (es ++ v) parts

    selectors-are : marks_on (other_key anchor) (c ∷ es) ≡ map (selector_of (runs_of t)) (c ∷ es)
    selectors-are = spells t ready (other_key anchor) b c es v (subst (Cut (runs_of t) b) parts stand.cut) (λ q. other-not anchor (q ∙ first_key))

  -- what the steps have taken
  module _ {seg places₁ seg' : List ℕ} {from to at last : ℕ} (s : Stopped t h places seg from (other_key anchor) to places₁ seg' at last) (size : from + d ≡ to)
      (room : to ≤ length seg) where
    taken : Taken t b w seg from (other_key anchor) places₁ seg' at last
    taken = steps-taken ready fits runs-are reached (omega arith) s.steps

    there : Reached t (b ++ taken.own) taken.left places₁
    there = taken-reached ready fits runs-are reached (omega arith) taken

    -- as long as there is room nothing is left
    over-left : at < to → taken.left ≡ []
    over-left l = none_left ready fits there runs-are (s.all l)

    own-some : 0 < length taken.own
    own-some = go taken.own taken.parts taken.end
      where
        first : (u : List Item) → w ≡ u → 0 < length u → 0 < d
        first [] q l = absurd (omega arith)
        first (x ∷ u) q l = omega (arith, run_of x (rw q (Memᴰ.head refl)), ready.least)

        go : (own : List Item) → w ≡ own ++ taken.left → at ≡ from + length own → 0 < length own
        go [] p e =
            let roomy : 0 < d = first w refl some in
            let none : length taken.left ≡ 0 = ap length (over-left (omega arith)) in
            absurd (omega (arith, ap length p))
        go (x ∷ own) p e = omega arith

    own-short : length taken.own ≤ d
    own-short = omega (arith, taken.end, s.inside)

    -- no key follows: the records are the next segment
    ended : After t h places₁ last → Filled t d b w places₁ seg seg' from at
    ended a = go taken.own refl
      where
        differs : (f : Item) (u : List Item) → taken.left ≡ f ∷ u → last ≡ item_key f → ⊥
        differs f u q k = by_after a
          where
            by_after : After t h places₁ last → ⊥
            by_after (over n) = omega (arith, ap length (sym q ∙ none_left ready fits there runs-are n))
            by_after (other n ne) =
                let c = next-first ready fits there runs-are n in
                let p : f ∷ u ≡ c.record_is ∷ c.left = sym q ∙ c.parts in
                let e : f ≡ c.record_is = cc p in
                ne (sym c.key ∙ sym (ap item_key e) ∙ sym k)

        full : (own : List Item) → taken.own ≡ own → (g : List Item) (gs : List (List Item)) → groups item_key taken.left ≡ g ∷ gs → d < length own + length g
        full own q g gs p =
            cases (ltb at to)
            (λ y. let none : g ∷ gs ≡ [] = sym p ∙ ap (groups item_key) (over-left (ltb-true at to y)) ∙ groups_none in absurd (omega (arith, ap length none)))
            (λ n. let whole : 0 < length g = groups-full item_key taken.left g (rw p (Memᴰ.head refl)) in
            omega (arith, ltb-false at to n, s.inside, taken.end, ap length q))

        go : (own : List Item) → taken.own ≡ own → Filled t d b w places₁ seg seg' from at
        go [] q = absurd (omega (arith, own-some, ap length q))
        go (c ∷ es) q =
            let parts : w ≡ (c ∷ es) ++ taken.left = taken.parts ∙ ap (λ u. u ++ taken.left) q in
            let above = differ-above c es taken.left parts (λ f u p k. differs f u p (taken.last-is ∙ ap (last_key (other_key anchor)) q ∙ k)) in
            record {
              own = c ∷ es;
              left = taken.left;
              some = omega arith;
              packed = packed-is c es taken.left parts above (omega (arith, own-short, ap length q)) (full (c ∷ es) q);
              stand = record { cut = cut-is c es taken.left parts above; is = taken.is ∙ ap (λ u. places_of (b ++ u)) q };
              parts = parts;
              extra = [];
              short = omega (arith, own-short, ap length q);
              bytes = taken.bytes ∙ ap (put seg from) (ap (marks_on (other_key anchor)) q ∙ selectors-are c es taken.left parts ∙ sym (append-nil _));
              end = taken.end ∙ ap (λ (u : List Item). from + length u) q;
            }

    -- the last key goes on: its records are given back
    module _ {r : ℕ} (n : NextRun t h places₁ r last) where
      whole : length taken.own ≡ d
      whole =
          cases (ltb at to) (λ y. absurd (omega (arith, s.all (ltb-true at to y) r n.run, n.has)))
          (λ y. omega (arith, ltb-false at to y, s.inside, taken.end))

      came : Came t taken.left places₁ r last
      came = next-first ready fits there runs-are n

      own_in : (x : Item) → Mem x taken.own → Mem x w
      own_in x m = rw taken.parts (Memᴰ.append_left taken.left m)

      group : LastGroup seg' from (other_key anchor) b taken.own
      group = back_is seg' from (other_key anchor) b taken.own own-some (λ x m. omega (arith, run_of x (own_in x m), ready.few)) new holds
        where
          new : (x : Item) (xs : List Item) → taken.own ≡ x ∷ xs → other_key anchor ≡ item_key x → ⊥
          new x xs q k = other-not anchor (k ∙ first_key x xs taken.left (taken.parts ∙ ap (λ u. u ++ taken.left) q))

          holds : Holds seg' from (marks_on (other_key anchor) taken.own)
          holds i l = ap (λ (z : List ℕ). get_or z (from + i) 0) taken.bytes ∙ get_or-put seg from (marks_on (other_key anchor) taken.own) i (omega arith) l

      -- the records of the last key, and the one that follows
      last-same : (x : Item) → Mem x ((group.first ∷ group.others) ++ (came.record_is ∷ [])) → item_key x ≡ last
      last-same x m =
          ⊎_elim (λ i. group.same x i ∙ sym taken.last-is) (λ i. ap item_key (Memᴰ.eq_of_singleton i) ∙ came.key)
          (Memᴰ.append_cases (group.first ∷ group.others) m)

      all-parts : w ≡ group.front ++ (((group.first ∷ group.others) ++ (came.record_is ∷ [])) ++ came.left)
      all-parts =
          taken.parts ∙ ap₂ (λ (u v : List Item). u ++ v) group.parts came.parts
          ∙ append_assoc group.front (group.first ∷ group.others) (came.record_is ∷ came.left)
          ∙ ap (λ u. group.front ++ u) (sym (append_snoc (group.first ∷ group.others) came.record_is came.left))

      -- they are no more than the runs
      last-few : length (group.first ∷ group.others) < d
      last-few =
          let g = (group.first ∷ group.others) ++ (came.record_is ∷ []) in
          let up : Rises (rank key_of) g =
          rises-left (rank key_of) g came.left (rises-right (rank key_of) group.front (g ++ came.left) (rw all-parts at (cut-rises ready.good (below_64 ready) stand.cut))) in
          let few = rises-room (rank key_of) (last * 64) (last * 64 + length (runs_of t)) up (λ x m. omega (arith, last-same x m)) (λ x m. omega (arith, last-same x m, run_of x (inside x m))) (omega arith) in
          omega (arith, few, ready.least, length-append (group.first ∷ group.others) (came.record_is ∷ []))
        where
          inside : (x : Item) → Mem x ((group.first ∷ group.others) ++ (came.record_is ∷ [])) → Mem x w
          inside x m = rw all-parts (Memᴰ.append_right group.front (Memᴰ.append_left came.left m))

      long : length group.front + length (group.first ∷ group.others) ≡ d
      long = sym (length-append group.front (group.first ∷ group.others)) ∙ sym (ap length group.parts) ∙ whole

      given : {e : ℕ} {places' : List ℕ} → stop e places' ≡ back seg' from (at - from) places₁ → Filled t d b w places' seg seg' from e
      given {e} {places'} q = go group.front refl
        where
          back_to : stop e places' ≡ stop (from + length group.front) (places_of (b ++ group.front))
          back_to =
              let number : at - from ≡ length taken.own = omega (arith, taken.end) in
              q ∙ ap₂ (back seg' from) number taken.is ∙ group.given

          go : (front : List Item) → group.front ≡ front → Filled t d b w places' seg seg' from e
          go [] p = absurd (omega (arith, long, last-few, ap length p))
          go (c ∷ es) p =
              let v : List Item = (group.first ∷ group.others) ++ taken.left in
              let own_is : taken.own ≡ (c ∷ es) ++ (group.first ∷ group.others) = group.parts ∙ ap (λ u. u ++ (group.first ∷ group.others)) p in
              let parts : w ≡ (c ∷ es) ++ v = taken.parts ∙ ap (λ u. u ++ taken.left) own_is ∙ append_assoc (c ∷ es) (group.first ∷ group.others) taken.left in
              let above = differ-above c es v parts (λ f u z k. let fe : group.first ≡ f = cc z in group.differs (ap (last_key (other_key anchor)) p ∙ k ∙ ap item_key (sym fe))) in
              let v-is : v ≡ (group.first ∷ (group.others ++ (came.record_is ∷ []))) ++ came.left =
              ap (λ u. (group.first ∷ group.others) ++ u) came.parts ∙ sym (append_snoc (group.first ∷ group.others) came.record_is came.left) in
              let e-is : e ≡ from + length group.front = cc back_to in
              let places-are : places' ≡ places_of (b ++ group.front) = cc back_to in
              let front_long : length group.front ≡ length (c ∷ es) = ap length p in
              record {
                own = c ∷ es;
                left = v;
                some = omega arith;
                packed = packed-is c es v parts above (omega (arith, long, front_long)) (past c es p v-is);
                stand = record { cut = cut-is c es v parts above; is = places-are ∙ ap (λ u. places_of (b ++ u)) p };
                parts = parts;
                extra = map (selector_of (runs_of t)) (group.first ∷ group.others);
                short = simp length-map (omega (arith, long, front_long));
                bytes = taken.bytes ∙ ap (put seg from) (ap (marks_on (other_key anchor)) own_is ∙ selectors-are c (es ++ (group.first ∷ group.others)) taken.left (taken.parts ∙ ap (λ u. u ++ taken.left) own_is) ∙ map-append (selector_of (runs_of t)) (c ∷ es) (group.first ∷ group.others));
                end = e-is ∙ ap (λ (u : List Item). from + length u) p;
              }
            where
              past : (c : Item) (es : List Item) → group.front ≡ c ∷ es → {v : List Item} → v ≡ (group.first ∷ (group.others ++ (came.record_is ∷ []))) ++ came.left
                  → (g : List Item) (gs : List (List Item)) → groups item_key v ≡ g ∷ gs → d < length (c ∷ es) + length g
              past c es p v-is g gs z =
                  let l = first-long last group.first (group.others ++ (came.record_is ∷ [])) came.left last-same g gs (ap (groups item_key) (sym v-is) ∙ z) in
                  omega (arith, l, long, ap length p, length-append group.others (came.record_is ∷ []))

  pub fill_is : {seg places' seg' : List ℕ} {from to e : ℕ} → Fills t h places seg from (other_key anchor) to places' seg' e → from + d ≡ to → to ≤ length seg
      → Filled t d b w places' seg seg' from e
  fill_is (ends s a) size room = ended s size room a
  fill_is (cuts s n q) size room = given s size room n q
