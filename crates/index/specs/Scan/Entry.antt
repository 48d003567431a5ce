-- The record that a selector names after the records b have been read: the next one of its run.
--     read, read_count, read-snoc               the places after b as a function, for the laws of the view
--     few-runs, few, good                       what a sound tray has for those laws
--     run_long, place_read                      how long a run is, and where it has been read to
--     next_entry, has-head                       the next record of a run that has one left
--     head-run, head-low, head-has, head-is     and that no other is
--     names-head, head-names                    the same for the run that a selector names
use Rattle.std.specs.Prelude.{◌≡◌, refl, ℕ, ◌%◌, ◌≤◌, ◌<◌, true, List, [], ◌∷◌, ◌++◌, length, get_or, ltb}
use Rattle.std.proofs.Common.{sym, ap, ◌∙◌, zero-add, arith}
use Rattle.std.proofs.Math.Option.{some}
use Rattle.std.proofs.Math.ListN.{get_elem?}
use borrow.Author.Tests.{ltb-true, lt-ltb}
use Rattle.theory.specs.Records.{SoundRecord}
use Rattle.theory.specs.Merge.{Good}
use Rattle.theory.specs.View.{run_at}
use Rattle.theory.proofs.View.Entries.{at_one, at-run}
use Rattle.theory.specs.Places.{bump, passed, count, Head}
use Rattle.theory.proofs.Places.Passed.{passed-count, passed-append}
use Rattle.theory.proofs.Places.Rest.{head-lt}
use Rattle.tray.specs.Frame.{run_count, count_of, run_bytes}
use Rattle.theory.specs.Tests.{and-true, and_left, and_right}
use Rattle.tray.specs.Check.{Sound}
use Rattle.tray.specs.Meaning.{runs_of}
use Rattle.tray.specs.Meaning.Laws.{length-run_of, get_elem?-run_of, length-runs_of, run_at-runs_of, runs-good}
use Rattle.index.specs.Rules.{key_of, Item}
use Rattle.index.specs.Scan.{next_in, has_next, names}
use Rattle.index.specs.Scan.Places.{places_of, get_or-places_of}

-- how many records of each run are among b, as the laws of the view have it
abbrev pub read : List Item → ℕ → ℕ
read b = passed (λ _. 0) b

pub read_count : (b : List Item) (r : ℕ) → read b r ≡ count r b
read_count b r = passed-count (λ _. 0) b r ∙ zero-add (count r b)

pub read-snoc : (b : List Item) (e : Item) → read (b ++ (e ∷ [])) ≡ bump (read b) e.run
unfolding passed
read-snoc b e = passed-append (λ _. 0) b (e ∷ [])

-- the next record of run r
abbrev pub next_entry : List ℕ → List Item → ℕ → Item
next_entry t b r = record { run = r; place = read b r; item = next_in t (places_of b) r }

pub run_long : (t : List ℕ) (r : ℕ) → r < run_count t → length (run_at (runs_of t) r) ≡ count_of t r
run_long t r l = ap length (run_at-runs_of t r l) ∙ length-run_of _ _

module _ {t : List ℕ} (sound : Sound t) where
  pub few-runs : length (runs_of t) ≤ 63
  few-runs = omega (arith, length-runs_of t, sound.frame.most-runs)

  pub few : length (runs_of t) ≤ 64
  few = omega (arith, few-runs)

  pub good : Good SoundRecord key_of (runs_of t)
  good = runs-good sound

  module _ (b : List Item) where
    pub place_read : (r : ℕ) → r < run_count t → get_or (places_of b) r 0 ≡ read b r
    place_read r l = get_or-places_of b r (omega (arith, sound.frame.most-runs)) ∙ sym (read_count b r)

    next-at : (r : ℕ) → r < run_count t → has_next t (places_of b) r ≡ true
        → get_elem? (run_at (runs_of t) r) (read b r) ≡ some (next_in t (places_of b) r)
    unfolding has_next next_in
    next-at r l h =
        rw (run_at-runs_of t r l, ← place_read r l)
        (get_elem?-run_of (count_of t r) (run_bytes t r) (get_or (places_of b) r 0) (ltb-true _ _ h))

    pub has-head : (r : ℕ) → r < run_count t → has_next t (places_of b) r ≡ true → Head (runs_of t) (read b) (next_entry t b r)
    has-head r l h = record { stands = next-at r l h; next = refl }

    module _ (e : Item) (head : Head (runs_of t) (read b) e) where
      pub head-run : e.run < run_count t
      head-run = omega (arith, at-run (runs_of t) e head.stands, length-runs_of t)

      pub head-low : e.run < 63
      head-low = omega (arith, head-run, sound.frame.most-runs)

      pub head-has : has_next t (places_of b) e.run ≡ true
      unfolding has_next
      head-has =
          let place = place_read e.run head-run in let long = run_long t e.run head-run in
          lt-ltb (get_or (places_of b) e.run 0) (count_of t e.run) (omega (arith, head-lt (runs_of t) (read b) e head))

      pub head-is : e ≡ next_entry t b e.run
      head-is = at_one (runs_of t) e (next_entry t b e.run) head.stands (next-at e.run head-run head-has) refl head.next

      pub head-names : (v : ℕ) → e.run ≡ v % 64 → names t (run_count t) (places_of b) v ≡ true
      unfolding names
      head-names v p =
          and-true (lt-ltb (v % 64) (run_count t) (omega (arith, head-run))) (ap (has_next t (places_of b)) (sym p) ∙ head-has)

    pub names-head : (v : ℕ) → names t (run_count t) (places_of b) v ≡ true → Head (runs_of t) (read b) (next_entry t b (v % 64))
    unfolding names
    names-head v h = has-head (v % 64) (ltb-true _ _ (and_left _ _ h)) (and_right (ltb (v % 64) (run_count t)) _ h)
