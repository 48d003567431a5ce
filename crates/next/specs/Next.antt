-- Next: past the current selector, and on to the first visible record.
--     Going, walks, going                       tray and index as next has them
--     visible_visit, visible-go, visible-stay     the walk stays at the first unmarked selector
--     Inner, Outer, outer-init                  the loops of the walk
--     inner-here, inner-later                   a segment is entered: the cursor's own, or one after it
--     outer-next, outer-end                     after a segment comes the next one, and after the last one the end
--     passed_by, passed-gap, passed-record, passed-inside   a spot past its selector, by one move or the other
--     outer-from                                the walk begins there
--     past-gap-low, past-record-low             a cursor past its selector
--     next-gap, next-record, next-lost          past the current selector
--     next-end                                  from the end
use Rattle.std.specs.Prelude.{◌≡◌, refl, ℕ, zero, suc, ◌+◌, ◌*◌, ◌-◌, ◌%◌, ◌≤◌, ◌<◌, Bool, true, false, cond, ◌&&◌, List, length, eqb, ltb}
use Rattle.std.proofs.Common.{sym, ap, ap₂, ◌∙◌, subst, arith, eq-eqb, zero-add}
use borrow.Author.Tests.{lt-ltb, le-ltb, eqb-true, ne_eqb}
use Rattle.theory.specs.Tests.{cases, order}
use Rattle.theory.specs.Listed.{listed}
use Rattle.theory.proofs.Listed.Laws.{length-listed}
use Rattle.tray.specs.declared.Place.{Place}
use Rattle.tray.specs.Frame.{run_count, count_of, start_of, Framed}
use Rattle.index.specs.Layout.{size_of, segment_count, segment_at}
use Rattle.index.specs.Layout.Code.{Laid}
use Rattle.index.specs.Layout.Laws.{get_or-listed}
use Rattle.index.specs.Scan.{run_in, raise}
use Rattle.walk.specs.declared.cursor.Cursor.{Cursor}
use Rattle.walk.specs.Walk.{Spot, Visit, stay, go, Walked, stayed, ended, lost, loaded, named, selector_at, walk_selectors, walk_segments, walk_from}
use Rattle.walk.specs.Reads.{Found, unmarked, found_by, next_visit, next}
use Rattle.walk.specs.Code.{numbers, Walking, spot_of, Selecting, segments-end, selectors-end, selectors-pass, selectors-lost, selectors-go}
use Rattle.walk.specs.Code.Load.{loaded_from}
use Rattle.walk.specs.Code.Moves.{past_gap, past_record}
use Rattle.walk.specs.Code.Turns.{Here, here-at, here-first, here-into}

-- tray and index as next has them: it reads the counts where they stand
pub record Going (t x : List ℕ) (h d n : ℕ) : Type 0 where
  pub runs : h ≡ run_count t
  pub few : h ≤ 63
  pub header : 4 + 2 * h ≤ length t
  pub counts : (r : ℕ) → r < run_count t → count_of t r ≤ 4096
  pub index : Laid x h d n

-- the counts of the tray, as a walk that has them in a list would
unfoldable pub counts_of : List ℕ → List ℕ
counts_of t = listed 63 0 (count_of t)

pub walks : {t x : List ℕ} {h d n : ℕ} → Going t x h d n → Walking t x h d n (counts_of t)
unfolding counts_of
walks {t} w =
    let few = w.few in
    let runs = w.runs in
    record {
      runs = w.runs;
      few = w.few;
      room = length-listed 63 0 (count_of t);
      counts-are = λ r l. get_or-listed 63 0 (count_of t) r 0 (omega arith) ∙ ap (count_of t) (zero-add r);
      index = w.index;
    }

-- where both frames fit
pub going : {t x counts : List ℕ} {h d n : ℕ} → Framed t → Walking t x h d n counts → Going t x h d n
unfolding start_of
going {t} f w =
    let whole : length t ≡ start_of t (run_count t) = f.whole in
    let runs = w.runs in
    record { runs = w.runs; few = w.few; header = omega arith; counts = f.counts; index = w.index }

-- the walk stays at the first unmarked selector
unfoldable pub visible_visit : ℕ → Spot → ℕ → Visit ℕ Found
visible_visit v c st = cond (unmarked v) (stay (found_by v c)) (go st)

pub visible-go : {v : ℕ} (c : Spot) → 64 ≤ v → visible_visit v c 0 ≡ go 0
unfolding visible_visit unmarked
visible-go {v} c l = rw (le-ltb v 64 l)

pub visible-stay : {v : ℕ} (c : Spot) → v < 64 → visible_visit v c 0 ≡ stay (found_by v c)
unfolding visible_visit unmarked
visible-stay {v} c l = rw (lt-ltb v 64 l)

-- the loop over selectors: the walk from here answers for the walk from a spot c
abbrev pub Inner : List ℕ → List ℕ → ℕ → ℕ → Spot → ℕ → List Place → ℕ → Type 0
Inner t x d n c g places s = Here t x visible_visit d n (walk_from t x visible_visit c 0) g s places 0

-- the loop over segments: at the segment of c the cursor stands there, and after that the walk from here answers for the walk from c
pub record Outer (t x : List ℕ) (n : ℕ) (c : Spot) (at : Cursor) (g : ℕ) : Type 0 where
  pub room : length at.places ≡ 63
  pub low : c.segment ≤ g
  pub here : g ≡ c.segment → (at.selector ≡ c.selector) × (numbers at.places ≡ c.places)
  pub later : c.segment < g → walk_segments t x visible_visit (n - g) g 0 ≡ walk_from t x visible_visit c 0

-- a spot past its selector v
unfoldable pub passed_by : ℕ → Spot → Spot
passed_by v c = cond (eqb v 63) (past_gap c) (past_record c (run_in v))

-- it is the one or the other move
pub passed-gap : {v : ℕ} (c : Spot) → v ≡ 63 → past_gap c ≡ passed_by v c
unfolding passed_by
passed-gap {v} c y = sym (rw (eq-eqb v 63 y))

pub passed-record : {v r : ℕ} (c : Spot) → (v ≡ 63 → ⊥) → r ≡ v % 64 → past_record c r ≡ passed_by v c
unfolding passed_by
passed-record {v} c n e = rw e (sym (rw (ne_eqb v 63 n)))

-- and stands one selector further
pub passed-inside : (v : ℕ) (c : Spot) → ((passed_by v c).segment ≡ c.segment) × ((passed_by v c).selector ≡ c.selector + 1)
unfolding passed_by past_gap past_record
passed-inside v c = cases (eqb v 63) (λ y. rw y (refl, refl)) (λ n. rw n (refl, refl))

-- the walk begins where the moved cursor stands
pub outer-from : (t x : List ℕ) (n : ℕ) (c : Spot) (at k : Cursor) → spot_of at ≡ c → length at.places ≡ 63 → k.selector ≡ at.selector → k.places ≡ at.places
    → Outer t x n c k at.segment.0
unfolding spot_of
outer-from t x n c at k e r s p =
    let segment : c.segment ≡ at.segment.0 = ap (λ (u : Spot). u.segment) (sym e) in
    record {
      room = rw p r;
      low = omega (arith, segment);
      here = λ _. (s ∙ ap (λ (u : Spot). u.selector) e, ap numbers p ∙ ap (λ (u : Spot). u.places) e);
      later = λ l. absurd (omega (arith, l, segment));
    }

pub outer-init : (t x : List ℕ) (n : ℕ) (at : Cursor) → length at.places ≡ 63 → Outer t x n (spot_of at) at at.segment.0
unfolding spot_of
outer-init t x n at r = record { room = r; low = omega arith; here = λ e. (refl, refl); later = λ l. absurd (omega arith) }

module _ {t x : List ℕ} {h d n : ℕ} {counts : List ℕ} (w : Walking t x h d n counts) (c : Spot) {g : ℕ} where
  module _ {at : Cursor} (o : Outer t x n c at g) where
    -- the segment of c is entered where the cursor stands,
    pub inner-here : g ≡ c.segment → g < n → c.selector ≤ d → Inner t x d n c g at.places at.selector
    inner-here e l k =
        let s : at.selector ≡ c.selector = (o.here e).0 in
        let p = (o.here e).1 in
        here-into w (here-at w {visit = visible_visit} g at.selector at.places 0 l (omega arith) o.room)
        (ap (λ (u : Spot). walk_from t x visible_visit u 0) (λ i. record { segment = e i; selector = s i; places = p i }))

    -- and one after it at its first selector
    pub inner-later : {places : List Place} → c.segment < g → g < n → numbers places ≡ loaded_from h x (segment_at h d g) → Inner t x d n c g places 0
    inner-later b l p = here-into w (here-first w l refl p) (o.later b)

    -- after the last segment comes the end
    pub outer-end : n ≤ g → ended 0 ≡ walk_from t x visible_visit c 0
    unfolding walk_from
    outer-end l =
        let count : n ≡ segment_count x = w.index.count in
        let low = o.low in
        order c.segment g
        (λ b. segments-end (record { same = o.later b }) l)
        (λ e. sym (rw (le-ltb c.segment (segment_count x) (omega arith))))
        (λ a. absurd (omega arith))

  -- after a segment comes the next one
  pub outer-next : {at : Cursor} {s : ℕ} → c.segment ≤ g → Inner t x d n c g at.places s → d ≤ s → Outer t x n c at (g + 1)
  outer-next low i l = record { room = i.room; low = omega arith; here = λ e. absurd (omega arith); later = λ b. (selectors-end i.on l).same }

-- the branches of a test
both : {A : Type 0} (b : Bool) {y n y' n' : A} → y ≡ y' → n ≡ n' → cond b y n ≡ cond b y' n'
both true e g = e
both false e g = g

-- past its current selector next is the walk to the first unmarked one
module _ (t x : List ℕ) (c : Spot) where
  later : (v : ℕ) (e : Spot) (st : ℕ) → (e.segment ≡ c.segment → c.selector < e.selector) → next_visit c v e st ≡ visible_visit v e st
  unfolding next_visit visible_visit
  later v e st late =
      let passed : cond (eqb e.segment c.segment) (ltb c.selector e.selector) true ≡ true =
      cases (eqb e.segment c.segment) (λ y. rw y (lt-ltb _ _ (late (eqb-true _ _ y)))) (λ n. rw n) in
      rw passed (on (unmarked v))
    where
      on : (b : Bool) → cond (b && true) (stay (found_by v e)) (go st) ≡ cond b (stay (found_by v e)) (go st)
      on true = refl
      on false = refl

  seen_same : (f g : ℕ → Walked ℕ Found) → ((st : ℕ) → f st ≡ g st) → (w u : Visit ℕ Found) → w ≡ u
      → ◌≡◌ {A = Walked ℕ Found} (elim w [ stay r ↦ stayed r | go st ↦ f st ]) (elim u [ stay r ↦ stayed r | go st ↦ g st ])
  seen_same f g h (stay r) u e = subst (λ a. ◌≡◌ {A = Walked ℕ Found} (stayed r) (elim a [ stay r ↦ stayed r | go st ↦ g st ])) e refl
  seen_same f g h (go st) u e = subst (λ a. ◌≡◌ {A = Walked ℕ Found} (f st) (elim a [ stay r ↦ stayed r | go st ↦ g st ])) e (h st)

  selectors-same : (k g s : ℕ) (places : List ℕ) (st : ℕ) (rest rest' : ℕ → Walked ℕ Found) → (g ≡ c.segment → c.selector < s)
      → ((z : ℕ) → rest z ≡ rest' z) → walk_selectors t x (next_visit c) k g s places st rest ≡ walk_selectors t x visible_visit k g s places st rest'
  unfolding walk_selectors
  selectors-same zero g s places st rest rest' late h = h st
  selectors-same (suc k) g s places st rest rest' late h =
      both (eqb v 63) (selectors-same k g (s + 1) places st rest rest' (λ e. omega (arith, late e)) h)
      (both (named t places v)
      (seen_same (λ (z : ℕ). walk_selectors t x (next_visit c) k g (s + 1) (raise places (run_in v)) z rest)
      (λ (z : ℕ). walk_selectors t x visible_visit k g (s + 1) (raise places (run_in v)) z rest')
      (λ z. selectors-same k g (s + 1) (raise places (run_in v)) z rest rest' (λ e. omega (arith, late e)) h)
      (next_visit c v spot st) (visible_visit v spot st) (later v spot st late)) refl)
    where
      v : ℕ
      v = selector_at (run_count t) x g s

      spot : Spot
      spot = record { segment = g; selector = s; places = places }

  segments-same : (k g st : ℕ) → c.segment < g → walk_segments t x (next_visit c) k g st ≡ walk_segments t x visible_visit k g st
  unfolding walk_segments
  segments-same zero g st l = refl
  segments-same (suc k) g st l =
      selectors-same (size_of x) g 0 (loaded (run_count t) x g) st (walk_segments t x (next_visit c) k (g + 1)) (walk_segments t x visible_visit k (g + 1))
      (λ e. absurd (omega arith)) (λ z. segments-same k (g + 1) z (omega arith))

  -- what is left of next once its current selector is passed
  passed : {d n : ℕ} {whole : Walked ℕ Found} (places : List ℕ) → d ≡ size_of x → n ≡ segment_count x
      → Selecting t x (next_visit c) d n whole c.segment (c.selector + 1) places 0
      → walk_from t x visible_visit (record { segment = c.segment; selector = c.selector + 1; places = places }) 0 ≡ whole
  unfolding walk_from
  passed {d} {n} places size count i =
      let inside : c.segment < n = i.inside in
      rw (lt-ltb c.segment (segment_count x) (omega arith))
      (ap₂ (λ (a b : ℕ). walk_selectors t x visible_visit (a - (c.selector + 1)) c.segment (c.selector + 1) places 0
      (walk_segments t x visible_visit (b - (c.segment + 1)) (c.segment + 1))) (sym size) (sym count)
      ∙ sym (selectors-same (d - (c.selector + 1)) c.segment (c.selector + 1) places 0 (walk_segments t x (next_visit c) (n - (c.segment + 1)) (c.segment + 1))
      (walk_segments t x visible_visit (n - (c.segment + 1)) (c.segment + 1)) (λ e. omega arith) (λ z. segments-same (n - (c.segment + 1)) (c.segment + 1) z (omega arith)))
      ∙ i.same)

-- from the end next comes to the end
pub next-end : (t x : List ℕ) {n : ℕ} (c : Cursor) → n ≡ segment_count x → n ≤ c.segment.0 → ended 0 ≡ next t x (spot_of c)
unfolding next walk_from spot_of
next-end t x c count l = sym (rw (le-ltb c.segment.0 (segment_count x) (omega arith)))

-- a cursor past its selector
pub past-gap-low : (e c : Cursor) → spot_of e ≡ past_gap (spot_of c) → e.selector ≡ c.selector + 1
unfolding spot_of past_gap
past-gap-low e c m = ap (λ (p : Spot). p.selector) m

pub past-record-low : (e c : Cursor) (r : ℕ) → spot_of e ≡ past_record (spot_of c) r → e.selector ≡ c.selector + 1
unfolding spot_of past_record
past-record-low e c r m = ap (λ (p : Spot). p.selector) m

-- next from a cursor that is not the end, whose selector v is read
module _ {t x : List ℕ} {h d n : ℕ} {counts : List ℕ} (w : Walking t x h d n counts) (c : Cursor) (inside : c.segment.0 < n) (low : c.selector < d)
    {v : ℕ} (read : v ≡ selector_at (run_count t) x c.segment.0 c.selector) where
  start : Selecting t x (next_visit (spot_of c)) d n (next t x (spot_of c)) c.segment.0 c.selector (numbers c.places) 0
  unfolding next walk_from spot_of
  start =
      let size : d ≡ size_of x = w.index.size in
      let count : n ≡ segment_count x = w.index.count in
      let visit = next_visit (spot_of c) in
      record {
        inside = inside;
        high = omega arith;
        same =
            ap₂ (λ (a b : ℕ). walk_selectors t x visit (a - c.selector) c.segment.0 c.selector (numbers c.places) 0 (walk_segments t x visit (b - (c.segment.0 + 1)) (c.segment.0 + 1)))
            size count
            ∙ sym (rw (lt-ltb c.segment.0 (segment_count x) (omega arith)));
      }

  -- a placeholder is passed,
  pub next-gap : v ≡ 63 → walk_from t x visible_visit (past_gap (spot_of c)) 0 ≡ next t x (spot_of c)
  unfolding past_gap spot_of
  next-gap y = passed t x (spot_of c) (numbers c.places) w.index.size w.index.count (selectors-pass start low read y)

  module _ (real : v ≡ 63 → ⊥) where
    -- and a record, marked or not
    pub next-record : named t (numbers c.places) v ≡ true → walk_from t x visible_visit (past_record (spot_of c) (run_in v)) 0 ≡ next t x (spot_of c)
    unfolding past_record spot_of next_visit
    next-record y =
        passed t x (spot_of c) (raise (numbers c.places) (run_in v)) w.index.size w.index.count (selectors-go start low read real y (here-go v) refl)
      where
        here-go : (u : ℕ) → next_visit (spot_of c) u (spot_of c) 0 ≡ go 0
        here-go u = rw (eq-eqb c.segment.0 c.segment.0 refl, le-ltb c.selector c.selector (omega arith)) (off (unmarked u))
          where
            off : (b : Bool) → cond {A = Visit ℕ Found} (b && false) (stay (found_by u (spot_of c))) (go 0) ≡ go 0
            off true = refl
            off false = refl

    -- the loss rule
    pub next-lost : named t (numbers c.places) v ≡ false → lost c.segment.0 c.selector 0 ≡ next t x (spot_of c)
    next-lost f = selectors-lost start low read real f
