-- The step of the merge as the code takes it: the record of the run that comes next is the next one of the view.
--     Stand, Reached               the records before the places, and what is left
--     Came, next-first             the record of the run that comes next
--     none_left                    where no run comes next nothing is left
--     least_first                  the least key left is the first record's
use Rattle.std.specs.Prelude.{◌≡◌, refl, ℕ, ◌*◌, ◌+◌, ◌^◌, ◌≤◌, ◌<◌, ltb}
use Rattle.std.proofs.Math.Path.{sym, ap}
use Rattle.std.proofs.Common.{◌∙◌, arith, ltb-true, ltb-false}
use Rattle.std.proofs.Math.Nat.{zero-add}
use Rattle.std.proofs.Math.Option.{some, some-injective}
use mathlib.Core.List.Memᴰ
use mathlib.Core.List.{List, [], ◌∷◌, ◌++◌}
use Rattle.std.proofs.Math.ListN.{get_or, get_elem?}
use Rattle.theory.specs.Rising.{Mem, All}
use Rattle.theory.specs.Tests.{cases, order}
use Rattle.theory.specs.View.{At, rank, view}
use Rattle.theory.specs.Lists.{place-lt}
use Rattle.theory.proofs.View.Entries.{at-run, at_mem}
use Rattle.theory.specs.Places.{rest, passed, count, Head}
use Rattle.theory.proofs.Places.Passed.{passed-count}
use Rattle.theory.proofs.Places.Rest.{rest-zero, rest_end, rest-rises}
use Rattle.theory.proofs.Places.Laws.{stretch-back, first_head}
use Rattle.tray.specs.Frame.{run_count, count_of, run_bytes}
use Rattle.tray.specs.Run.{record_at}
use Rattle.tray.specs.Meaning.{runs_of, Fits, FitsRecord}
use Rattle.tray.specs.Meaning.Laws.{length-run_of, get_elem?-run_of, length-runs_of, run_at-runs_of, run_in}
use Rattle.index.specs.Rules.{Item, key_of}
use Rattle.index.specs.Rules.Cuts.{Cut, first-least}
use Rattle.index.specs.Scan.{next_in}
use Rattle.index.specs.Scan.Heads.{head-left}
use Rattle.index.specs.Scan.Places.{places_of, get_or-places_of}
use Rattle.merge_lead.specs.Heads.{highest}
use Rattle.merge_lead.specs.Heads.Leads.{NextRun, NoRun, LeastKey}
use Rattle.merge_lead.specs.Heads.Leads.Next.{next_key-has, next_key-low}
use Rattle.build_spec.specs.Build.{item_key}
use Rattle.build_spec.specs.Build.Laws.{Ready}
use Rattle.build_spec.proofs.Build.Laws.{below_64}
use Rattle.build_spec.proofs.Build.Bytes.{run_at-has}

-- the records b have been read, w are left, and the places say so
pub record Reached (t : List ℕ) (b w : List Item) (places : List ℕ) : Type 0 where
  pub whole : view key_of (runs_of t) ≡ b ++ w
  pub is : places ≡ places_of b

-- the same between two keys
pub record Stand (t : List ℕ) (b w : List Item) (places : List ℕ) : Type 0 where
  pub cut : Cut (runs_of t) b w
  pub is : places ≡ places_of b

-- a record of the tray, by its run and place
pub record Stands (t : List ℕ) (e : Item) : Type 0 where
  pub run : e.run < run_count t
  pub place : e.place < count_of t e.run
  pub item : e.item ≡ record_at (run_bytes t e.run) e.place

pub stands : (t : List ℕ) (e : Item) → At (runs_of t) e → Stands t e
stands t e a =
    let l : e.run < run_count t = rw length-runs_of at (at-run (runs_of t) e a) in
    let here : get_elem? (run_in t e.run) e.place ≡ some e.item = rw (run_at-runs_of t e.run l) at a in
    let k : e.place < count_of t e.run = rw length-run_of at (place-lt (run_in t e.run) e.place here) in
    let i = sym (get_elem?-run_of (count_of t e.run) (run_bytes t e.run) e.place k) ∙ here in
    record { run = l; place = k; item = sym (some-injective _ e.item i) }

-- the record at a place of a run
abbrev entry_at : List ℕ → ℕ → ℕ → Item
entry_at t r p = record { run = r; place = p; item = record_at (run_bytes t r) p }

at_entry : (t : List ℕ) (r p : ℕ) → r < run_count t → p < count_of t r → At (runs_of t) (entry_at t r p)
at_entry t r p l k = rw (run_at-runs_of t r l) (get_elem?-run_of (count_of t r) (run_bytes t r) p k)

-- the record of run r came, with key k, and the others are left
pub record Came (t : List ℕ) (w : List Item) (places : List ℕ) (r k : ℕ) : Type 0 where
  pub record_is : Item
  pub left : List Item
  pub parts : w ≡ record_is ∷ left
  pub run : record_is.run ≡ r
  pub key : item_key record_is ≡ k
  pub item : record_is.item ≡ next_in t places r

module _ {d : ℕ} {t : List ℕ} (ready : Ready d (runs_of t)) (fits : Fits (runs_of t)) {b w : List Item} {places : List ℕ} (reached : Reached t b w places) where
  -- how far each run has been read
  after : ℕ → ℕ
  after = passed (λ _. 0) b

  after_is : (r : ℕ) → r < 63 → after r ≡ get_or places r 0
  unfolding after
  after_is r l = passed-count (λ _. 0) b r ∙ zero-add (count r b) ∙ sym (ap (λ (ps : List ℕ). get_or ps r 0) reached.is ∙ get_or-places_of b r l)

  runs-few : run_count t ≤ 63
  runs-few = rw length-runs_of at ready.few

  left_is : w ≡ rest key_of (runs_of t) after
  unfolding after
  left_is = (stretch-back ready.good (below_64 ready) (λ _. 0) b w (rest-zero key_of (runs_of t) ∙ reached.whole)).1

  -- the next record of a run, as the code reads it
  record NextOf (e : Item) : Type 0 where
    run : e.run < run_count t
    place : get_or places e.run 0 < count_of t e.run
    item : e.item ≡ next_in t places e.run
    most : item_key e ≤ highest

  next_of : (e : Item) → Head (runs_of t) after e → NextOf e
  unfolding next_in
  next_of e h =
      let s = stands t e h.stands in
      let p : e.place ≡ get_or places e.run 0 = h.next ∙ after_is e.run (omega (arith, s.run, runs-few)) in
      let f : key_of e.item < 256 ^ 8 =
      (run_at-has (λ r. All FitsRecord r) (λ a n. absurd (Memᴰ.not-nil n)) (runs_of t) fits.records e.run e.item (at_mem (runs_of t) e h.stands)).key in
      record {
        run = s.run;
        place = rw p at s.place;
        item = s.item ∙ ap (λ (n : ℕ). record_at (run_bytes t e.run) n) p;
        most = omega arith;
      }

  -- and the other way round
  head_at : (r : ℕ) → r < run_count t → get_or places r 0 < count_of t r → Head (runs_of t) after (entry_at t r (get_or places r 0))
  head_at r l k =
      record { stands = at_entry t r (get_or places r 0) l k; next = sym (after_is r (omega (arith, runs-few))) }

  key-most : (r : ℕ) → r < run_count t → get_or places r 0 < count_of t r → (next_in t places r).key ≤ highest
  unfolding next_in
  key-most r l k = (next_of (entry_at t r (get_or places r 0)) (head_at r l k)).most

  -- the first of what is left has no higher rank than a run's next record
  module _ {f : Item} {v : List Item} (is : w ≡ f ∷ v) where
    head : Head (runs_of t) after f
    head = first_head ready.good (below_64 ready) after f v (sym left_is ∙ is)

    first-low : (r : ℕ) → r < run_count t → get_or places r 0 < count_of t r → rank key_of f ≤ (next_in t places r).key * 64 + r
    unfolding next_in
    first-low r l k =
        let e = entry_at t r (get_or places r 0) in
        let m : Mem e (f ∷ v) = rw (sym left_is ∙ is) at (head-left (runs_of t) after e (head_at r l k)) in
        first-least (rw (sym left_is ∙ is) at (rest-rises ready.good (below_64 ready) after)) m

  module _ {h : ℕ} (runs-are : h ≡ run_count t) where
    pub next-first : {r k : ℕ} → NextRun t h places r k → Came t w places r k
    next-first {r} {k} n = go w refl
      where
        in-range : r < run_count t
        in-range = omega (arith, n.run)

        key-is : (next_in t places r).key ≡ k
        key-is =
            cases (ltb k highest) (λ y. n.is (ltb-true k highest y))
            (λ y. omega (arith, ltb-false k highest y, key-most r in-range n.has, n.low r n.run n.has))

        go : (u : List Item) → w ≡ u → Came t w places r k
        go [] e =
            absurd (Memᴰ.not-nil (rw (sym left_is ∙ e) at (head-left (runs_of t) after (entry_at t r (get_or places r 0)) (head_at r in-range n.has))))
        go (f ∷ v) e =
            let o = next_of f (head e) in
            let key-f : item_key f ≡ (next_in t places f.run).key = ap (λ x. x.key) o.item in
            let low : k ≤ item_key f = omega (arith, n.low f.run (omega (arith, o.run)) o.place) in
            let up : item_key f * 64 + f.run ≤ (next_in t places r).key * 64 + r = first-low e r in-range n.has in
            let small : f.run < 64 = omega (arith, o.run, runs-few) in
            let small_r : r < 64 = omega (arith, in-range, runs-few) in
            let is = key-is in
            let key : item_key f ≡ k = omega arith in
            let run : f.run ≡ r =
            order f.run r (λ m. absurd (omega (arith, n.before f.run m o.place))) (λ q. q) (λ m. absurd (omega arith)) in
            record { record_is = f; left = v; parts = e; run = run; key = key; item = o.item ∙ ap (next_in t places) run }

    pub none_left : NoRun t h places → w ≡ []
    none_left n = left_is ∙ rest_end key_of (runs_of t) after (λ e q. let o = next_of e q in omega (arith, n e.run (omega (arith, o.run)), o.place))

    pub least_first : {m : ℕ} → LeastKey t h places m → (f : Item) (v : List Item) → w ≡ f ∷ v → item_key f ≡ m
    least_first {m} low f v e =
        let o = next_of f (head e) in
        let key-f : item_key f ≡ (next_in t places f.run).key = ap (λ x. x.key) o.item in
        let has = next_key-has t places f.run o.place in
        let l : m ≤ item_key f = omega (arith, low.low f.run (omega (arith, o.run))) in
        cases (ltb m highest)
        (λ y. let g = low.got (ltb-true _ _ y) in
        let p : get_or places g.0 0 < count_of t g.0 = next_key-low t places g.0 (omega (arith, g.2, ltb-true m highest y)) in
        let up = first-low e g.0 (omega (arith, g.1)) p in
        omega (arith, next_key-has t places g.0 p, g.2, g.1, runs-few, runs-are))
        (λ y. omega (arith, ltb-false m highest y, o.most))
