-- The selectors of a segment after its first: the scan of them passes exactly where they trail the records before them.
--     mark-run, mark-names, mark-entry     the selector of a record that is the next one of its run names that record
--     Spelt, following-spelt               what the scan has read where it passes
--     trails-following                     and that it passes where the selectors trail
use Rattle.std.specs.Prelude.{◌≡◌, Bool, true, eqb}
use Rattle.std.proofs.Math.Path.{refl, ap}
use Rattle.std.proofs.Common.{sym, ◌∙◌, arith}
use Prim.Native.Nat.{ℕ, zero, suc, ◌+◌, ◌%◌, ◌<◌}
use Rattle.std.proofs.Math.Numerals.{add-one}
use mathlib.Core.List.{List, [], ◌∷◌, ◌++◌, append-nil}
use Rattle.std.proofs.Math.ListN.{get_or}
use Rattle.std.proofs.Math.Seq.{append_snoc}
use borrow.Author.Tests.{eqb-true, eqb-false, eq-eqb, ne_eqb}
use Rattle.theory.specs.Records.{Record}
use Rattle.theory.specs.Tests.{split_at, never}
use Rattle.theory.proofs.View.Laws.{before→rank, rank→before}
use Rattle.theory.specs.Places.{Head}
use Rattle.tray.specs.Frame.{run_count}
use Rattle.tray.specs.Check.{Sound}
use Rattle.tray.specs.Meaning.{runs_of}
use Rattle.theory.specs.Listed.{listed}
use Rattle.index.specs.Rules.{placeholder, key_of, Item}
use Rattle.index.specs.Rules.Laws.{filled-ended}
use Rattle.index.specs.Rules.Cuts.{last_of}
use Rattle.index.specs.Scan.{Trail, kept, marked, raise, joins, only_placeholders, names, following}
use Rattle.index.specs.Scan.Laws.{bytes_from, only_placeholders-filled, filled-only_placeholders, marked-run, joins-before, joins-mark, before-joins}
use Rattle.index.specs.Scan.Places.{places_of, raise-places_of}
use Rattle.index.specs.Scan.Entry.{read, next_entry, head-low, head-is, names-head, head-names}
use Rattle.index.specs.Scan.Trails.{Trails, Joint, trails_none, trails-end, joint-trails, trails-empty, trails-ends, trails-joint}

-- what the scan of the selectors vs has read, where it ends with these places and this last key
pub record Spelt (t : List (List Record)) (b : List Item) (c : Item) (vs places : List ℕ) (last : ℕ) : Type 0 where
  pub records : List Item
  pub trails : Trails t b c vs records
  pub places-are : places ≡ places_of (b ++ records)
  pub last-is : last ≡ key_of (last_of c records).item

-- no record
spelt-none : {t : List (List Record)} {b : List Item} {c : Item} {vs places : List ℕ} {last : ℕ}
    → Trails t b c vs [] → kept (places_of b) (key_of c.item) ≡ kept places last → Spelt t b c vs places last
unfolding last_of
spelt-none {b = b} {c} {places = places} {last} k e =
    let p : places ≡ places_of b = cc in let q : last ≡ key_of c.item = cc in
    record { records = []; trails = k; places-are = p ∙ ap places_of (sym (append-nil b)); last-is = q }

module _ {t : List ℕ} (sound : Sound t) where
  -- a selector that joins, and what follows it
  spelt-more : (b : List Item) (c e : Item) (v : ℕ) {vs places : List ℕ} {last : ℕ} → c.run < 64 → e ≡ next_entry t b (v % 64)
      → (v ≡ placeholder → ⊥) → names t (run_count t) (places_of b) v ≡ true → joins (key_of c.item) c.run v e.item ≡ true
      → Spelt (runs_of t) (b ++ (e ∷ [])) e vs places last → Spelt (runs_of t) b c (v ∷ vs) places last
  unfolding last_of
  spelt-more b c e v low is d named joined later =
      let run : e.run ≡ v % 64 = ap (λ y. y.run) is in
      record {
        records = e ∷ later.records;
        trails = joint-trails (record {
          spells = d;
          head = rw is (names-head sound b v named);
          up = before→rank key_of c e low (joins-before c e v run joined);
          mark = joins-mark c e v run joined;
          later = later.trails;
        });
        places-are = later.places-are ∙ ap places_of (append_snoc b e later.records);
        last-is = later.last-is;
      }

  module _ (b : List Item) (e : Item) (o : Bool) (v : ℕ) (head : Head (runs_of t) (read b) e) where
    pub mark-run : v ≡ marked e.run e.item o → e.run ≡ v % 64
    mark-run is = sym (ap (λ n. n % 64) is ∙ marked-run e.run e.item o (omega (arith, head-low sound b e head)))

    pub mark-names : v ≡ marked e.run e.item o → names t (run_count t) (places_of b) v ≡ true
    mark-names is = head-names sound b e head v (mark-run is)

    pub mark-entry : v ≡ marked e.run e.item o → next_entry t b (v % 64) ≡ e
    mark-entry is = ap (next_entry t b) (sym (mark-run is)) ∙ sym (head-is sound b e head)

  module _ (x : List ℕ) where
    -- what the n selectors from i on come to, after the records b, the last of which is c
    abbrev pub trail : ℕ → ℕ → List Item → Item → Trail
    trail n i b c = following t (run_count t) x n i (places_of b) (key_of c.item) c.run

    pub following-spelt : (n i : ℕ) (b : List Item) (c : Item) {places : List ℕ} {last : ℕ} → c.run < 64
        → trail n i b c ≡ kept places last → Spelt (runs_of t) b c (bytes_from x n i) places last
    unfolding following listed
    following-spelt zero i b c low h = spelt-none trails_none h
    following-spelt (suc n) i b c {places} {last} low h =
        split_at passes (eqb v 63) h
        (λ y k. split_at passes (only_placeholders x n (i + 1)) k
        (λ f k'. spelt-none (ends (eqb-true _ _ y) f) k')
        (λ _ k'. never (cc)))
        (λ y k. split_at passes (names t (run_count t) (places_of b) v) k
        (λ named k'. split_at passes (joins (key_of c.item) c.run v e.item) k'
        (λ joined k''. spelt-more b c e v low refl (eqb-false _ _ y) named joined
        (following-spelt n (suc i) (b ++ (e ∷ [])) e (omega arith) (rw (add-one, raise-places_of b e) at k'')))
        (λ _ k''. never (cc)))
        (λ _ k'. never (cc)))
      where
        v : ℕ
        v = get_or x i 0

        e : Item
        e = next_entry t b (v % 64)

        passes : Trail → Type 0
        passes z = z ≡ kept places last

        ends : v ≡ placeholder → only_placeholders x n (i + 1) ≡ true → Trails (runs_of t) b c (v ∷ bytes_from x n (suc i)) []
        ends d f = trails-end d (filled-ended v (bytes_from x n (suc i)) d (only_placeholders-filled x n (suc i) (rw add-one at f)))

    -- one selector of the scan
    module _ (n i : ℕ) (b : List Item) (c : Item) where
      following-end : get_or x i 0 ≡ placeholder → only_placeholders x n (i + 1) ≡ true
          → trail (suc n) i b c ≡ kept (places_of b) (key_of c.item)
      unfolding following
      following-end d f = rw (eq-eqb _ _ d, f)

      following-more : (e : Item) (v : ℕ) → next_entry t b (v % 64) ≡ e → get_or x i 0 ≡ v → (v ≡ placeholder → ⊥)
          → names t (run_count t) (places_of b) v ≡ true → joins (key_of c.item) c.run v e.item ≡ true
          → trail (suc n) i b c ≡ trail n (suc i) (b ++ (e ∷ [])) e
      unfolding following
      following-more e v entry is d named joined =
          rw (is, ne_eqb v 63 d, named, ap (λ y. joins (key_of c.item) c.run v y.item) entry ∙ joined)
          (ap (λ y. following t (run_count t) x n (i + 1) (raise (places_of b) y.run) (key_of y.item) y.run) entry
          ∙ rw (add-one, raise-places_of b e))

      joint-following : (e : Item) (v : ℕ) {vs : List ℕ} {es : List Item} → get_or x i 0 ≡ v → Joint (runs_of t) b c v vs e es
          → trail (suc n) i b c ≡ trail n (suc i) (b ++ (e ∷ [])) e
      joint-following e v is j =
          let after = rank→before key_of c e (omega (arith, head-low sound b e j.head)) j.up in
          following-more e v (mark-entry b e _ v j.head j.mark) is j.spells (mark-names b e _ v j.head j.mark)
          (before-joins c e v (mark-run b e _ v j.head j.mark) after j.mark)

    pub trails-following : (n i : ℕ) (b : List Item) (c : Item) (es : List Item) → Trails (runs_of t) b c (bytes_from x n i) es
        → trail n i b c ≡ kept (places_of (b ++ es)) (key_of (last_of c es).item)
    unfolding following listed last_of
    trails-following zero i b c [] k = rw append-nil
    trails-following zero i b c (e ∷ es) k = trails-empty k
    trails-following (suc n) i b c [] k =
        let end = trails-ends k in
        following-end n i b c end.0 (rw add-one (filled-only_placeholders x n (suc i) end.1)) ∙ rw append-nil
    trails-following (suc n) i b c (e ∷ es) k =
        let j = trails-joint k in
        joint-following n i b c e _ refl j ∙ trails-following n (suc i) (b ++ (e ∷ [])) e es j.later
        ∙ ap (λ l. kept (places_of l) (key_of (last_of e es).item)) (append_snoc b e es)
