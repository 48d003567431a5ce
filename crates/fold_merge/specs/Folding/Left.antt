-- The step of the merge as the code takes it: the record of the run that comes next is the next one of the merge, or an older one with the key of
-- the last.
--     left-next, left-none       what is left of a run
--     next-key                   the key of the run that comes next
--     merge-next, merge-pass     the next record of the merge; a record that is taken is no longer there from a higher key on
--     merge-end                  where no run comes next, nothing is left
--     merge-all                  from key 0 on all is left
--     next_low                   what is left is not lower than the record that was taken
--     left_less                  a record taken is one less
use Rattle.std.specs.Prelude.{◌≡◌, List, [], ◌∷◌, length, take, eqb, ltb}
use Rattle.std.proofs.Math.Path.{refl, ap, subst}
use Rattle.std.proofs.Common.{sym, ◌∙◌, arith, take-append-drop}
use Prim.Native.Nat.{ℕ, zero, suc, ◌+◌, ◌^◌, ◌≤◌, ◌<◌}
use Rattle.std.proofs.Math.Numerals.{add-one}
use Rattle.std.proofs.Math.Option.{none, some}
use Rattle.std.proofs.Math.ListN.{get_or, drop, drop_of_length-le}
use Rattle.std.proofs.Math.Seq.{drop-cons, get_or-set_same, get_or-set_other}
use borrow.Author.Tests.{ltb-true, ltb-false, eq-eqb, ne_eqb, eqb-true, eqb-false}
use Rattle.theory.specs.Tests.{cases, order}
use Rattle.theory.specs.Lists.{all_nil, all_cons, place-get_or}
use Rattle.theory.specs.Rising.{All, Rises}
use Rattle.theory.specs.Rising
use Rattle.theory.proofs.Rising.Laws.{rises-right}
use Rattle.theory.specs.Records.{Record}
use Rattle.theory.specs.Hiding.{same_key}
use Rattle.theory.proofs.Listed.Laws.{listed_same}
use Rattle.theory.specs.Merge.{merged}
use Rattle.tray.specs.Frame.{run_count, count_of, run_bytes}
use Rattle.tray.specs.Run.{record_at}
use Rattle.tray.specs.Check.{Sound}
use Rattle.tray.specs.Meaning.{runs_of, Fits}
use Rattle.tray.specs.Meaning.Laws.{run_in, length-run_of, get_elem?-run_of, mem-run_of, mem-runs_of, rises-run_of}
use Rattle.index.specs.Scan.{next_in, raise}
use Rattle.merge_lead.specs.Heads.{highest}
use Rattle.merge_lead.specs.Heads.Leads.{NextRun, NoRun}
use Rattle.index.specs.Rules.{key_of}
use Rattle.fold_merge.specs.Folding.{left_of, merge_left, from_key, merge_from, left_to}
use Rattle.fold_merge.specs.Folding.Step.{Above, from_all, from-drop, from-nil, given, turn-from, turn-some, first_of-is, merged-turn, merged-nils}

-- a list that rises is above its first member
rises-above : {x : Record} {xs : List Record} → Rises key_of (x ∷ xs) → Above (key_of x) xs
rises-above (Rising.more h r) = h

module _ (t places : List ℕ) (r : ℕ) where
  pub left-none : count_of t r ≤ get_or places r 0 → left_of t places r ≡ []
  unfolding left_of
  left-none l = drop_of_length-le (run_in t r) {i = get_or places r 0} (rw length-run_of l)

  pub left-next : get_or places r 0 < count_of t r → left_of t places r ≡ next_in t places r ∷ drop (suc (get_or places r 0)) (run_in t r)
  unfolding left_of next_in
  left-next l =
      let is : get_or (run_in t r) (get_or places r 0) (next_in t places r) ≡ record_at (run_bytes t r) (get_or places r 0) =
      place-get_or (run_in t r) (get_or places r 0) (next_in t places r) (get_elem?-run_of (count_of t r) (run_bytes t r) (get_or places r 0) l) in
      drop-cons (run_in t r) (get_or places r 0) (next_in t places r) (rw length-run_of l)
      ∙ ap (λ e. e ∷ drop (suc (get_or places r 0)) (run_in t r)) is

  -- what is left rises
  left-rises : Sound t → r < run_count t → Rises key_of (left_of t places r)
  unfolding left_of
  left-rises s l =
      let all : Rises key_of (run_in t r) = rises-run_of (count_of t r) (run_bytes t r) (λ p k. s.keys r p l k) in
      rises-right key_of (take (get_or places r 0) (run_in t r)) (drop (get_or places r 0) (run_in t r))
      (rw (take-append-drop (get_or places r 0) (run_in t r)) all)

  -- so all of it is from the first key on
  left-from : {k : ℕ} → Sound t → r < run_count t → (get_or places r 0 < count_of t r → k ≤ (next_in t places r).key) → All (λ e. k ≤ key_of e) (left_of t places r)
  left-from {k} s l low =
      cases (ltb (get_or places r 0) (count_of t r))
      (λ y. let h = ltb-true _ _ y in
      let first : k ≤ (next_in t places r).key = low h in
      let above : Above (next_in t places r).key (drop (suc (get_or places r 0)) (run_in t r)) = rises-above (rw (left-next h) at (left-rises s l)) in
      rw (left-next h) (all_cons first (λ e i. let z : (next_in t places r).key < key_of e = above e i in omega arith)))
      (λ n. rw (left-none (ltb-false _ _ n)) (all_nil _))

  -- a run that gives up its record of key k, and one that has none
  given-next : {k : ℕ} → get_or places r 0 < count_of t r → (next_in t places r).key ≡ k → given k (left_of t places r) ≡ some (next_in t places r)
  unfolding given
  given-next {k} l e = rw (left-next l, eq-eqb (next_in t places r).key k e)

  given-none : (k : ℕ) → (get_or places r 0 < count_of t r → k < (next_in t places r).key) → given k (left_of t places r) ≡ none
  unfolding given
  given-none k high =
      cases (ltb (get_or places r 0) (count_of t r))
      (λ y. let h = ltb-true _ _ y in
      let z : k < (next_in t places r).key = high h in
      rw (left-next h, ne_eqb (next_in t places r).key k (λ e. omega arith)))
      (λ n. rw (left-none (ltb-false _ _ n)))

-- a key fits into 8 bytes
next_fits : (t places : List ℕ) (r : ℕ) → Fits (runs_of t) → r < run_count t → get_or places r 0 < count_of t r → (next_in t places r).key < 256 ^ 8
unfolding next_in
next_fits t places r fits l k =
    (fits.records (run_in t r) (mem-runs_of t r l) (record_at (run_bytes t r) (get_or places r 0)) (mem-run_of (count_of t r) (run_bytes t r) (get_or places r 0) k)).key

pub next-key : {t places : List ℕ} {r k : ℕ} → Fits (runs_of t) → NextRun t (run_count t) places r k → (next_in t places r).key ≡ k
next-key {t} {places} {r} {k} fits n =
    cases (ltb k highest) (λ y. n.is (ltb-true _ _ y))
    (λ y. let short : (next_in t places r).key < 256 ^ 8 = next_fits t places r fits n.run n.has in
    omega (arith, ltb-false k highest y, n.low r n.run n.has))

-- the record of the run that comes next is the next one of the merge
pub merge-next : {t places : List ℕ} {m r k : ℕ} → Sound t → Fits (runs_of t) → NextRun t (run_count t) places r k → m ≤ k
    → merge_from t m places ≡ next_in t places r ∷ merge_from t (suc k) places
unfolding merge_from
merge-next {t} {places} {m} {r} {k} s fits n l =
    let turn = merged-turn (run_count t) 0 (λ i. given k (left_of t places i)) (λ i. from_key m (left_of t places i)) (λ i. from_key (suc k) (left_of t places i))
    (λ i p q. turn-from l (left-rises t places i s (omega arith)) (left-from t places i s (omega arith) (λ h. n.low i (omega arith) h))) in
    let first = first_of-is (run_count t) 0 r (λ i. given k (left_of t places i)) (omega arith) (omega (arith, n.run)) (given-next t places r n.has (next-key fits n))
    (λ i p q. given-none t places i k (λ h. n.before i q h)) in
    turn-some turn first

-- what is left of the runs after a record of run r
module _ (t places : List ℕ) {r : ℕ} (room : r < length places) where
  raised-here : get_or (raise places r) r 0 ≡ suc (get_or places r 0)
  unfolding raise
  raised-here = get_or-set_same places r (get_or places r 0 + 1) 0 room ∙ add-one (get_or places r 0)

  raised-other : (i : ℕ) → (i ≡ r → ⊥) → get_or (raise places r) i 0 ≡ get_or places i 0
  unfolding raise
  raised-other i d = get_or-set_other places r i (get_or places r 0 + 1) 0 d

  -- from a higher key on it is the same
  pub merge-pass : {m : ℕ} → get_or places r 0 < count_of t r → (next_in t places r).key < m → merge_from t m places ≡ merge_from t m (raise places r)
  unfolding merge_from left_of
  merge-pass {m} has low =
      ap (merged key_of (same_key key_of))
      (listed_same (run_count t) 0 0 (λ i. from_key m (left_of t places i)) (λ i. from_key m (left_of t (raise places r) i)) (λ j l. same (0 + j)))
    where
      same : (i : ℕ) → from_key m (left_of t places i) ≡ from_key m (left_of t (raise places r) i)
      same i =
          cases (eqb i r)
          (λ y. subst (λ (j : ℕ). from_key m (left_of t places j) ≡ from_key m (left_of t (raise places r) j)) (sym (eqb-true i r y)) here)
          (λ f. ap (λ (p : ℕ). from_key m (drop p (run_in t i))) (sym (raised-other i (eqb-false i r f))))
        where
          here : from_key m (left_of t places r) ≡ from_key m (left_of t (raise places r) r)
          here =
              ap (from_key m) (left-next t places r has)
              ∙ from-drop m (next_in t places r) (drop (suc (get_or places r 0)) (run_in t r)) low
              ∙ ap (λ (p : ℕ). from_key m (drop p (run_in t r))) (sym raised-here)

  -- the runs' next records are not lower than the one that was taken
  pub next_low : {k : ℕ} → Sound t → NextRun t (run_count t) places r k → (next_in t places r).key ≡ k
      → (i : ℕ) → i < run_count t → get_or (raise places r) i 0 < count_of t i → k ≤ (next_in t (raise places r) i).key
  unfolding next_in
  next_low {k} s n e i l h =
      cases (eqb i r)
      (λ y. here (eqb-true i r y))
      (λ f. let p = raised-other i (eqb-false i r f) in rw p (n.low i l (rw p at h)))
    where
      here : i ≡ r → k ≤ (record_at (run_bytes t i) (get_or (raise places r) i 0)).key
      here q = rw (q, raised-here) (omega (arith, s.keys r (get_or places r 0) n.run (rw (q, raised-here) at h), e))

  -- one record less
  left_other : (n : ℕ) → n ≤ r → left_to t (raise places r) n ≡ left_to t places n
  unfolding left_to
  left_other zero l = refl
  left_other (suc n) l = rw (left_other n (omega arith), raised-other n (λ e. omega arith))

  pub left_less : (n : ℕ) → r < n → get_or places r 0 < count_of t r → left_to t (raise places r) n < left_to t places n
  unfolding left_to
  left_less zero l h = absurd (omega arith)
  left_less (suc n) l h =
      order r n
      (λ k. let z = left_less n k h in let p = raised-other n (λ e. omega arith) in omega arith)
      (λ e. subst (λ (j : ℕ). left_to t (raise places r) (suc j) < left_to t places (suc j)) e (let z = left_other r (omega arith) in let p = raised-here in omega arith))
      (λ k. absurd (omega arith))

-- where no run comes next, nothing is left
pub merge-end : (t places : List ℕ) (m : ℕ) → NoRun t (run_count t) places → merge_from t m places ≡ []
unfolding merge_from
merge-end t places m n =
    merged-nils (run_count t) 0 (λ r. from_key m (left_of t places r)) (λ r l u. ap (from_key m) (left-none t places r (n r (omega arith))) ∙ from-nil m)

pub merge-all : (t places : List ℕ) → merge_from t 0 places ≡ merge_left t places
unfolding merge_from merge_left
merge-all t places =
    ap (merged key_of (same_key key_of))
    (listed_same (run_count t) 0 0 (λ r. from_key 0 (left_of t places r)) (left_of t places) (λ j l. from_all 0 (left_of t places (0 + j)) (λ e i. omega arith)))
