-- The two tests of the scan that go over all runs, after the records b have been read.
--     head-left                    what comes next of a run is left
--     heads-above, above-heads     every run's next key is above the last one exactly where all keys that are left are
--     used-none, none-used         every run has been read to its end exactly where nothing is left
use Rattle.std.specs.Prelude.{◌≡◌, ℕ, ◌≤◌, ◌<◌, Bool, true, List, [], length, get_or, ltb, eqb}
use Rattle.std.proofs.Common.{sym, ap, ◌∙◌, arith, ltb-true, ltb-false, eqb-true}
use Rattle.std.proofs.lemmas.Bool.{eqb-false}
use Rattle.theory.specs.Records.{Record}
use Rattle.theory.specs.Rising.{Mem}
use Rattle.theory.specs.Tests.{cases}
use Rattle.theory.specs.View.{run_at}
use Rattle.theory.proofs.View.Entries.{at_low}
use Rattle.theory.specs.Places.{rest, passed, Head, Takes, take_none, take_more}
use Rattle.theory.proofs.Places.Passed.{bump-same, bump-other}
use Rattle.theory.proofs.Places.Rest.{rest-zero, mem-rest, rest-mem, head_first, head-lt, used-end, end-used}
use Rattle.theory.proofs.Places.Laws.{stretch-back}
use Rattle.tray.specs.Frame.{run_count, count_of}
use Rattle.tray.specs.Check.{Sound}
use Rattle.tray.specs.Meaning.{runs_of}
use Rattle.tray.specs.Meaning.Laws.{run_at-runs_of-past}
use Rattle.index.specs.Rules.{key_of, Item}
use Rattle.index.specs.Rules.Cuts.{Above, Cut, rank-key, cut-rest}
use Rattle.index.specs.Scan.{heads_above, used_up}
use Rattle.index.specs.Scan.Laws.{heads_above-all, all-heads_above, used_up-all, all-used_up}
use Rattle.index.specs.Scan.Places.{places_of}
use Rattle.index.specs.Scan.Entry.{read, run_long, few, good, place_read, has-head, head-run, head-has, head-is}

pub head-left : (t : List (List Record)) (p : ℕ → ℕ) (e : Item) → Head t p e → Mem e (rest key_of t p)
head-left t p e h = mem-rest key_of t p e h.stands (omega arith)

-- no run is read past its end
takes-within : {t : List (List Record)} {p : ℕ → ℕ} {s : List Item} (i : ℕ) → Takes t p s
    → p i ≤ length (run_at t i) → passed p s i ≤ length (run_at t i)
unfolding passed
takes-within i take_none l = l
takes-within {t} {p} i (take_more {e = e} h k) l =
    takes-within i k
    (cases (eqb e.run i)
    (λ y. let q = eqb-true e.run i y in let same = ap p q in let long = ap (λ r. length (run_at t r)) q in
    omega (arith, bump-same p e.run i q, head-lt t p e h))
    (λ n. omega (arith, bump-other p e.run i (eqb-false _ _ n))))

module _ {t : List ℕ} (sound : Sound t) (b : List Item) where
  -- what is left of the view
  abbrev left : List Item
  left = rest key_of (runs_of t) (read b)

  -- every run's next key is above the record's
  abbrev above : Item → Bool
  above l = heads_above t (places_of b) (key_of l.item) (run_count t)

  heads-next : (l : Item) → above l ≡ true → (e : Item) → Head (runs_of t) (read b) e → key_of l.item < key_of e.item
  heads-next l h e f =
      let next = heads_above-all t (places_of b) _ (run_count t) h e.run (head-run sound b e f) (head-has sound b e f) in
      omega (arith, ap (λ y. key_of y.item) (head-is sound b e f))

  pub heads-above : (l : Item) → above l ≡ true → Above l left
  heads-above l h e m =
      let first = head_first (good sound) (few sound) (read b) e m in
      let low = at_low (runs_of t) e (few sound) (rest-mem key_of (runs_of t) (read b) e m).0 in
      omega (arith, heads-next l h first.0 first.1, rank-key first.0 e low first.2)

  pub above-heads : (l : Item) → Above l left → above l ≡ true
  above-heads l h =
      all-heads_above t (places_of b) (key_of l.item) (run_count t)
      (λ r u y. h _ (head-left (runs_of t) (read b) _ (has-head sound b r u y)))

  -- a run has been read to its end
  used-run : used_up t (places_of b) (run_count t) ≡ true → (r : ℕ) → length (run_at (runs_of t) r) ≤ read b r
  used-run h r =
      cases (ltb r (run_count t))
      (λ y. let l = ltb-true r (run_count t) y in
      omega (arith, run_long t r l, place_read sound b r l, used_up-all t (places_of b) (run_count t) h r l))
      (λ n. let z = ap length (run_at-runs_of-past t r (ltb-false _ _ n)) in omega arith)

  pub used-none : {w : List Item} → Cut (runs_of t) b w → used_up t (places_of b) (run_count t) ≡ true → w ≡ []
  used-none cut h = cut-rest (good sound) (few sound) cut ∙ used-end key_of (runs_of t) (read b) (used-run h)

  pub none-used : Cut (runs_of t) b [] → used_up t (places_of b) (run_count t) ≡ true
  none-used cut = all-used_up t (places_of b) (run_count t) at
    where
      at : (r : ℕ) → r < run_count t → get_or (places_of b) r 0 ≡ count_of t r
      at r l =
          let takes = (stretch-back (good sound) (few sound) (λ _. 0) b [] (rest-zero key_of (runs_of t) ∙ cut.whole)).0 in
          let most = takes-within r takes (omega arith) in
          let least = end-used key_of (runs_of t) (read b) (sym (cut-rest (good sound) (few sound) cut)) r in
          omega (arith, run_long t r l, place_read sound b r l)
