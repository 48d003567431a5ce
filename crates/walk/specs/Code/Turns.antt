-- What the code of every walk needs of the definitions, whatever its visitor: the selector that is read, whether it names a record, and the
-- turns of a walk from a cursor on.
--     selector-is, within                    the selector that is read, inside the index
--     named-run, named-yes, named_past       the loss rule
--     Here                                   the walk from here answers for the whole
--     here-at, here-from, here-whole         from a spot or a cursor on
--     here_end, here-enter                   after the last segment, into the next one
use Rattle.std.specs.Prelude.{◌≡◌, refl, ℕ, suc, ◌+◌, ◌-◌, ◌*◌, ◌%◌, ◌≤◌, ◌<◌, true, false, List, length}
use Rattle.std.proofs.Math.Path.{sym, ap, ap₂}
use Rattle.std.proofs.Common.{◌∙◌}
use native.Mathlib.Omega.{arith}
use Rattle.std.proofs.Math.ListN.{get_or}
use borrow.Author.Tests.{lt-ltb, le-ltb}
use Rattle.tray.specs.declared.Place.{Place}
use Rattle.tray.specs.Frame.{run_count, count_of}
use Rattle.index.specs.Layout.{head_size, size_of, segment_count, segment_at}
use Rattle.index.specs.Layout.Code.{segment_at-next, segment_at-le}
use Rattle.walk.specs.declared.cursor.Cursor.{Cursor}
use Rattle.walk.specs.Walk.{Spot, Visit, Walked, ended, selector_at, loaded, named, walk_selectors, walk_segments, walk_from}
use Rattle.walk.specs.Code.{placed, numbers, get_or-numbers, length-numbers, Walking, spot_of, Selecting, segments-enter, segments-end, selectors-end}
use Rattle.walk.specs.Code.Load.{loaded_from, loaded-is, length-loaded}

-- the walk stands at selector s of segment g, and from there answers for the whole
pub record Here {S R : Type 0} (t x : List ℕ) (visit : ℕ → Spot → S → Visit S R) (d n : ℕ) (whole : Walked S R) (g s : ℕ) (places : List Place) (st : S) : Type 0 where
  pub room : length places ≡ 63
  pub on : Selecting t x visit d n whole g s (numbers places) st

module _ {t x : List ℕ} {h d n : ℕ} {counts : List ℕ} (w : Walking t x h d n counts) where
  -- the selector that is read
  pub selector-is : (g : ℕ) {at first : ℕ} (s : ℕ) {i : ℕ} → at ≡ segment_at h d g → first ≡ at + 8 + 2 * h → i ≡ s → get_or x (first + i) 0 ≡ selector_at (run_count t) x g s
  unfolding head_size
  selector-is g {at} {first} s {i} a f e =
      let z : first + i ≡ at + (8 + 2 * h) + s = omega arith in
      ap (λ (k : ℕ). get_or x k 0) z
      ∙ ap (λ (k : ℕ). get_or x (k + (8 + 2 * h) + s) 0) (a ∙ ap (λ (k : ℕ). segment_at h k g) w.index.size)
      ∙ ap (λ (k : ℕ). selector_at k x g s) w.runs

  -- a segment ends inside the index
  pub within : {g at : ℕ} → g < n → at ≡ segment_at h d g → at + 8 + 2 * h + d ≤ length x
  within {g} {at} l e =
      let ends : segment_at h d (suc g) ≤ segment_at h d n = segment_at-le h d (suc g) n l in
      let next : segment_at h d (suc g) ≡ segment_at h d g + (8 + 2 * h + d) = segment_at-next h d g in
      let whole : length x ≡ segment_at h d n = w.index.whole in
      omega arith

  -- a run that the tray has not
  pub named-run : (v : ℕ) (places : List Place) → h ≤ v % 64 → named t (numbers places) v ≡ false
  unfolding named
  named-run v places l = let runs = w.runs in rw (le-ltb (v % 64) (run_count t) (omega arith))

  module _ (v : ℕ) {i : ℕ} (places : List Place) (below : v % 64 < h) (e : i ≡ v % 64) where
    pub place_is : (get_or places i (placed 0)).0 ≡ get_or (numbers places) (v % 64) 0
    place_is = ap (λ (k : ℕ). (get_or places k (placed 0)).0) e ∙ sym (get_or-numbers places (v % 64))

    pub count-is : get_or counts i 0 ≡ count_of t (v % 64)
    count-is = let runs = w.runs in ap (λ (k : ℕ). get_or counts k 0) e ∙ w.counts-are (v % 64) (omega arith)

    pub named-yes : (get_or places i (placed 0)).0 < get_or counts i 0 → named t (numbers places) v ≡ true
    unfolding named
    named-yes l =
        let runs = w.runs in
        let a = place_is in
        let b = count-is in
        rw (lt-ltb (v % 64) (run_count t) (omega arith), lt-ltb (get_or (numbers places) (v % 64) 0) (count_of t (v % 64)) (omega arith))

    pub named_past : get_or counts i 0 ≤ (get_or places i (placed 0)).0 → named t (numbers places) v ≡ false
    unfolding named
    named_past l =
        let runs = w.runs in
        let a = place_is in
        let b = count-is in
        rw (lt-ltb (v % 64) (run_count t) (omega arith), le-ltb (get_or (numbers places) (v % 64) 0) (count_of t (v % 64)) (omega arith))

  loads : (g : ℕ) {at : ℕ} (places : List Place) → at ≡ segment_at h d g → numbers places ≡ loaded_from h x at → numbers places ≡ loaded (run_count t) x g
  loads g {at} places e p = p ∙ loaded-is h x g at w.index.size e ∙ ap (λ (k : ℕ). loaded k x g) w.runs

  module _ {S R : Type 0} {visit : ℕ → Spot → S → Visit S R} where
    -- a segment is entered
    pub here-first : {g at : ℕ} {places : List Place} {st : S} → g < n → at ≡ segment_at h d g → numbers places ≡ loaded_from h x at
        → Here t x visit d n (walk_segments t x visit (n - g) g st) g 0 places st
    here-first {g} {at} {places} l e p =
        record {
          room = sym (length-numbers places) ∙ ap length p ∙ length-loaded h x at;
          on = segments-enter (record { same = refl }) w.index.size (loads g places e p) l;
        }

    -- a walk from a spot on
    pub here-at : (g s : ℕ) (places : List Place) (st : S) → g < n → s ≤ d → length places ≡ 63
        → Here t x visit d n (walk_from t x visit (record { segment = g; selector = s; places = numbers places }) st) g s places st
    unfolding walk_from
    here-at g s places st l k r =
        let size : d ≡ size_of x = w.index.size in
        let count : n ≡ segment_count x = w.index.count in
        record {
          room = r;
          on =
              record {
                inside = l;
                high = k;
                same =
                    ap₂ (λ (a b : ℕ). walk_selectors t x visit (a - s) g s (numbers places) st (walk_segments t x visit (b - (g + 1)) (g + 1))) size count
                    ∙ sym (rw (lt-ltb g (segment_count x) (omega arith)));
              };
        }

    -- a walk from a cursor on
    pub here-from : (c : Cursor) (st : S) → c.segment.0 < n → c.selector ≤ d → length c.places ≡ 63
        → Here t x visit d n (walk_from t x visit (spot_of c) st) c.segment.0 c.selector c.places st
    unfolding spot_of
    here-from c st l k r = here-at c.segment.0 c.selector c.places st l k r

    -- what the walk from here answers is the whole's answer
    pub here-whole : {whole : Walked S R} {g s : ℕ} {places : List Place} {st : S} → Here t x visit d n whole g s places st
        → walk_from t x visit (record { segment = g; selector = s; places = numbers places }) st ≡ whole
    here-whole {g = g} {s} {places} {st} i =
        sym (here-at g s places st i.on.inside i.on.high i.room).on.same ∙ i.on.same

    pub here-into : {whole whole' : Walked S R} {g s : ℕ} {places : List Place} {st : S} → Here t x visit d n whole g s places st → whole ≡ whole'
        → Here t x visit d n whole' g s places st
    here-into i e = record { room = i.room; on = record { inside = i.on.inside; high = i.on.high; same = i.on.same ∙ e } }

    module _ {whole : Walked S R} {g s : ℕ} {places : List Place} {st : S} (i : Here t x visit d n whole g s places st) (l : d ≤ s) where
      -- after the last segment comes the end,
      pub here_end : n ≤ g + 1 → ended st ≡ whole
      here_end k = segments-end (selectors-end i.on l) k

      -- and after another one the next
      pub here-enter : {at : ℕ} {next : List Place} → g + 1 < n → at ≡ segment_at h d (g + 1) → numbers next ≡ loaded_from h x at
          → Here t x visit d n whole (g + 1) 0 next st
      here-enter {at} {next} k e p =
          record {
            room = sym (length-numbers next) ∙ ap length p ∙ length-loaded h x at;
            on = segments-enter (selectors-end i.on l) w.index.size (loads (g + 1) next e p) k;
          }
