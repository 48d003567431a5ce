-- What the scan finds in a segment is what makes it right: records read in order, below all that is left, are the next ones
-- of the view, and there marks by neighbours are the true marks.
--     right-none               a right segment has a record
--     Judged, scans-right      the records that the scan finds come next in the view and make the segment right
--     right-scans              and the scan finds whatever does
use Rattle.std.specs.Prelude.{◌≡◌, refl, ℕ, ◌≤◌, ◌<◌, false, List, [], ◌∷◌, ◌++◌, map, length, get_or}
use Rattle.std.proofs.Common.{sym, ap, ap₂, ◌∙◌, subst, arith}
use mathlib.Core.List.Memᴰ
use Rattle.theory.specs.Records.{Record, SoundRecord}
use Rattle.theory.specs.Rising.{Mem, Rises}
use Rattle.theory.proofs.Rising.Laws.{rises-left}
use Rattle.theory.specs.Tests.{never}
use Rattle.theory.specs.Merge.{Good}
use Rattle.theory.specs.View.{rank}
use Rattle.theory.proofs.View.Entries.{at_low}
use Rattle.theory.specs.Places.{rest, passed, Head, Takes, take_more}
use Rattle.theory.proofs.Places.Passed.{passed-append}
use Rattle.theory.proofs.Places.Laws.{takes-read, stretch, stretch-back}
use Rattle.index.specs.Layout.{Segment}
use Rattle.index.specs.Rules.{placeholder, key_of, Item, spelled, selector_of, PlaceholdersLast, Right}
use Rattle.index.specs.Rules.Laws.{Ended, ended-cons, ended-tail, spelled-more}
use Rattle.index.specs.Rules.Cuts.{last_of, last_mem, last-most, rank-key, Above, above-whole, whole_above, Cut, cut-rest, cut_low, cut-rises, cut-next}
use Rattle.index.specs.Scan.{marked}
use Rattle.index.specs.Scan.Marks.{marks, first-mark, true-marks}
use Rattle.index.specs.Scan.Entry.{read, read-snoc}
use Rattle.index.specs.Scan.Heads.{head-left}
use Rattle.index.specs.Scan.Trails.{takes-head}
use Rattle.index.specs.Scan.Opens.{Opens}
use Rattle.index.specs.Scan.Segment.{Scans}

-- a segment whose first selector is no placeholder has one
selectors-some : (s : Segment) → PlaceholdersLast s → (u : ℕ) × (us : List ℕ) × (s.selectors ≡ u ∷ us)
selectors-some s p = go s.selectors refl
  where
    go : (vs : List ℕ) → s.selectors ≡ vs → (u : ℕ) × (us : List ℕ) × (s.selectors ≡ u ∷ us)
    go [] e = absurd (p.first (ap (λ l. get_or l 0 placeholder) e))
    go (u ∷ us) e = (u, us, e)

-- and spells something
selectors-spell : (s : Segment) (u : ℕ) (us : List ℕ) → s.selectors ≡ u ∷ us → PlaceholdersLast s
    → (u ≡ placeholder → ⊥) × (spelled s.selectors ≡ u ∷ spelled us)
selectors-spell s u us is p =
    let spells : u ≡ placeholder → ⊥ = λ q. p.first (ap (λ l. get_or l 0 placeholder) is ∙ q) in
    (spells, ap spelled is ∙ spelled-more u us spells)

pub right-none : {t : List (List Record)} {s : Segment} {b v : List Item} {Q : Type 0} → Right t s b [] v → Q
right-none {s = s} r =
    let w = selectors-some s r.placeholders in
    let told = sym (selectors-spell s w.0 w.1 w.2 r.placeholders).1 ∙ r.spells in never (cc)

-- the records c and then es come next in the view, and make the segment right; v is left after them
pub record Judged (t : List (List Record)) (s : Segment) (b w : List Item) (c : Item) (es v : List Item) : Type 0 where
  pub parts : w ≡ (c ∷ es) ++ v
  pub right : Right t s b (c ∷ es) v
  pub cut : Cut t (b ++ (c ∷ es)) v

module _ {t : List (List Record)} (good : Good SoundRecord key_of t) (few : length t ≤ 64)
    {b w : List Item} (cut : Cut t b w) (c : Item) (es : List Item) where
  -- what is read in order, below all that is left, comes next
  comes-next : Takes t (read b) (c ∷ es) → Rises (rank key_of) (c ∷ es) → Above (last_of c es) (rest key_of t (read (b ++ (c ∷ es))))
      → w ≡ (c ∷ es) ++ rest key_of t (read (b ++ (c ∷ es)))
  comes-next takes up above =
      cut-rest good few cut ∙ stretch good few takes up below
      ∙ ap (λ p. (c ∷ es) ++ rest key_of t p) (sym (passed-append (λ _. 0) b (c ∷ es)))
    where
      low : (x : Item) → Mem x (c ∷ es) → x.run < 64
      low x m = at_low t x few (takes-read t takes x m).stands

      below : (x e : Item) → Mem x (c ∷ es) → Head t (passed (read b) (c ∷ es)) e → rank key_of x < rank key_of e
      below x e m h =
          let left = head-left t (read (b ++ (c ∷ es))) e (rw (passed-append (λ _. 0) b (c ∷ es)) h) in
          let most = rank-key x (last_of c es) (low (last_of c es) (last_mem c es)) (last-most c es up x m) in
          omega (arith, above e left, low x m)

  module _ (v : List Item) (parts : w ≡ (c ∷ es) ++ v) where
    -- the cut before its first record
    here : Cut t b (c ∷ (es ++ v))
    here = subst (Cut t b) parts cut

    -- marks by neighbours are the true marks
    marks-are : map (selector_of t) (c ∷ es) ≡ marked c.run c.item false ∷ marks c es
    marks-are =
        ap₂ {C = List ℕ} (λ a l. a ∷ l) (first-mark good few b c (es ++ v) here) (true-marks good few b c es v here.whole)

    module _ (s : Segment) where
      opens-last : (u : ℕ) (us : List ℕ) → s.selectors ≡ u ∷ us → Opens t b u us c es → PlaceholdersLast s
      opens-last u us is o =
          record {
            first = λ p. o.spells (sym (ap (λ l. get_or l 0 placeholder) is) ∙ p);
            after = subst Ended (sym is) (ended-cons u us o.spells o.later.ended);
          }

      opens-spell : (u : ℕ) (us : List ℕ) → s.selectors ≡ u ∷ us → Opens t b u us c es
          → spelled s.selectors ≡ map (selector_of t) (c ∷ es)
      opens-spell u us is o =
          ap spelled is ∙ spelled-more u us o.spells
          ∙ ap₂ {C = List ℕ} (λ a l. a ∷ l) o.mark o.later.spells ∙ sym marks-are

      right-opens : (u : ℕ) (us : List ℕ) → s.selectors ≡ u ∷ us → Right t s b (c ∷ es) v → Opens t b u us c es
      right-opens u us is r =
          let spell = selectors-spell s u us is r.placeholders in
          let told = sym spell.1 ∙ r.spells ∙ marks-are in
          let takes = (stretch-back good few (read b) (c ∷ es) v (sym (cut-rest good few cut) ∙ parts)).0 in
          record {
            spells = spell.0;
            head = (takes-head takes).0;
            mark = cc;
            later = record {
              takes = rw read-snoc (takes-head takes).1;
              rises = rises-left (rank key_of) (c ∷ es) v (cut-rises good few here);
              spells = cc;
              ended = ended-tail u us (subst Ended is r.placeholders.after);
            };
          }

      -- what is left has higher keys
      right-above : Right t s b (c ∷ es) v → Above (last_of c es) v
      right-above r =
          whole_above t c es v r.keys (cut-rises good few here)
          (λ e m. cut_low good few here e (Memᴰ.append_right (c ∷ es) m))

      pub right-scans : Right t s b (c ∷ es) v → Scans t s b c es × Cut t (b ++ (c ∷ es)) v
      right-scans r =
          let some = selectors-some s r.placeholders in
          let next = cut-next good few c es v cut parts (right-above r) in (
            record {
              offsets = r.offsets;
              anchor = r.anchor c es refl;
              first = some.0;
              others = some.1;
              selectors = some.2;
              opens = right-opens some.0 some.1 some.2 r;
              above = subst (Above (last_of c es)) (cut-rest good few next) (right-above r);
            },
            next,
          )

  pub scans-right : (s : Segment) → Scans t s b c es → Judged t s b w c es (rest key_of t (read (b ++ (c ∷ es))))
  scans-right s k =
      let o = k.opens in let v = rest key_of t (read (b ++ (c ∷ es))) in
      let parts = comes-next (take_more o.head (rw read-snoc at o.later.takes)) o.later.rises k.above in
      record {
        parts = parts;
        right = record {
          offsets = k.offsets;
          placeholders = opens-last v parts s k.first k.others k.selectors o;
          spells = opens-spell v parts s k.first k.others k.selectors o;
          anchor = λ e us p. k.anchor ∙ ap (λ y. key_of y.item) (let q : c ≡ e = cc in q);
          keys = above-whole t c es v k.above;
        };
        cut = cut-next good few c es v cut parts k.above;
      }
