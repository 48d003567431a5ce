-- Laws of the tests that the scan is made of: what each says when it passes, and that it passes where that holds.
--     or_cases, or_left, or_right                          a test of which one part is enough
--     offsets_hold-all, all-offsets_hold                     the offsets are the places
--     bytes_from                                            some bytes of the index as a list
--     only_placeholders-filled, filled-only_placeholders     they are placeholders
--     NextAbove, heads_above-all, all-heads_above            every run's next key is above the last one
--     used_up-all, all-used_up                               every run has been read to its end
--     marked-run, marked-spells                            a selector's run; no record's selector is a placeholder
--     joins-before, joins-mark, before-joins               a selector that joins the record before it
use Rattle.std.specs.Prelude.{◌≡◌, ◌⊎◌, Bool, true, false, cond, ◌||◌, List, ◌∷◌, get_or, eqb, ltb}
use Rattle.std.proofs.Math.Path.{refl}
use Rattle.std.proofs.Common.{ap}
use Rattle.std.proofs.Math.Logic.{inl, inr, ⊎_elim}
use Prim.Native.Nat.{ℕ, zero, suc, ◌%◌, ◌<◌}
use native.Mathlib.Omega.{arith}
use Rattle.std.proofs.Math.Numerals.{add-one}
use borrow.Author.Tests.{ltb-true, lt-ltb, eqb-true, eq-eqb}
use Rattle.theory.specs.Records.{Record, live}
use Rattle.theory.specs.Tests.{cases, and-true, and_left, and_right}
use Rattle.theory.specs.View.{Before}
use Rattle.tray.specs.Frame.{count_of}
use Rattle.tray.specs.Frame.Laws.{upto}
use Rattle.theory.specs.Listed.{listed}
use Rattle.index.specs.Layout.{offset_from}
use Rattle.index.specs.Rules.{placeholder, key_of, Item}
use Rattle.index.specs.Rules.Laws.{Filled, marks-run}
use Rattle.index.specs.Scan.{marked, joins, offsets_hold, only_placeholders, next_in, has_next, heads_above, used_up}

pub or_cases : (a b : Bool) → (a || b) ≡ true → (a ≡ true) ⊎ (b ≡ true)
or_cases true b h = inl refl
or_cases false b h = inr h

pub or_left : (a b : Bool) → a ≡ true → (a || b) ≡ true
or_left a b h = rw h

pub or_right : (a b : Bool) → b ≡ true → (a || b) ≡ true
or_right true b h = refl
or_right false b h = h

module _ (x : List ℕ) where
  module _ (at : ℕ) (places : List ℕ) where
    pub offsets_hold-all : (k : ℕ) → offsets_hold x at places k ≡ true → (r : ℕ) → r < k → offset_from x at r ≡ get_or places r 0
    unfolding offsets_hold
    offsets_hold-all zero h = λ r l. absurd (omega arith)
    offsets_hold-all (suc k) h =
        upto (offsets_hold-all k (and_right (eqb (offset_from x at k) _) _ h)) (eqb-true _ _ (and_left _ _ h))

    pub all-offsets_hold : (k : ℕ) → ((r : ℕ) → r < k → offset_from x at r ≡ get_or places r 0) → offsets_hold x at places k ≡ true
    unfolding offsets_hold
    all-offsets_hold zero h = refl
    all-offsets_hold (suc k) h = and-true (eq-eqb _ _ (h k (omega arith))) (all-offsets_hold k (λ r l. h r (omega arith)))

  -- the n bytes from i on
  abbrev pub bytes_from : ℕ → ℕ → List ℕ
  bytes_from n i = listed n i (λ j. get_or x j 0)

  filled-cons : (v : ℕ) (vs : List ℕ) → v ≡ placeholder → Filled vs → Filled (v ∷ vs)
  filled-cons v vs e f zero l = e
  filled-cons v vs e f (suc j) l = f j (omega arith)

  pub only_placeholders-filled : (n i : ℕ) → only_placeholders x n i ≡ true → Filled (bytes_from n i)
  unfolding only_placeholders listed
  only_placeholders-filled zero i h = λ j l. absurd (omega arith)
  only_placeholders-filled (suc n) i h =
      filled-cons (get_or x i 0) (bytes_from n (suc i)) (eqb-true _ _ (and_left _ _ h))
      (only_placeholders-filled n (suc i) (rw add-one at (and_right (eqb (get_or x i 0) 63) _ h)))

  pub filled-only_placeholders : (n i : ℕ) → Filled (bytes_from n i) → only_placeholders x n i ≡ true
  unfolding only_placeholders listed
  filled-only_placeholders zero i f = refl
  filled-only_placeholders (suc n) i f =
      and-true (eq-eqb _ _ (f zero (omega arith)))
      (rw add-one (filled-only_placeholders n (suc i) (λ j l. f (suc j) (omega arith))))

module _ (t places : List ℕ) where
  -- the next key of a run, if there is one, is above the last one
  abbrev pub NextAbove : ℕ → ℕ → Type 0
  NextAbove last r = has_next t places r ≡ true → last < (next_in t places r).key

  -- the same as a test
  abbrev clears : ℕ → ℕ → Bool
  clears last r = cond (has_next t places r) (ltb last (next_in t places r).key) true

  next-above : (last r : ℕ) → clears last r ≡ true → NextAbove last r
  next-above last r h y = ltb-true _ _ (rw y at h)

  above-next : (last r : ℕ) → NextAbove last r → clears last r ≡ true
  above-next last r h = cases (has_next t places r) (λ y. rw y (lt-ltb _ _ (h y))) (λ n. rw n)

  pub heads_above-all : (last k : ℕ) → heads_above t places last k ≡ true → (r : ℕ) → r < k → NextAbove last r
  unfolding heads_above
  heads_above-all last zero h = λ r l. absurd (omega arith)
  heads_above-all last (suc k) h =
      upto (heads_above-all last k (and_right (clears last k) _ h)) (next-above last k (and_left _ _ h))

  pub all-heads_above : (last k : ℕ) → ((r : ℕ) → r < k → NextAbove last r) → heads_above t places last k ≡ true
  unfolding heads_above
  all-heads_above last zero h = refl
  all-heads_above last (suc k) h =
      and-true (above-next last k (h k (omega arith))) (all-heads_above last k (λ r l. h r (omega arith)))

  pub used_up-all : (k : ℕ) → used_up t places k ≡ true → (r : ℕ) → r < k → get_or places r 0 ≡ count_of t r
  unfolding used_up
  used_up-all zero h = λ r l. absurd (omega arith)
  used_up-all (suc k) h = upto (used_up-all k (and_right (eqb (get_or places k 0) _) _ h)) (eqb-true _ _ (and_left _ _ h))

  pub all-used_up : (k : ℕ) → ((r : ℕ) → r < k → get_or places r 0 ≡ count_of t r) → used_up t places k ≡ true
  unfolding used_up
  all-used_up zero h = refl
  all-used_up (suc k) h = and-true (eq-eqb _ _ (h k (omega arith))) (all-used_up k (λ r l. h r (omega arith)))

module _ (r : ℕ) (e : Record) (o : Bool) where
  pub marked-run : r < 64 → marked r e o % 64 ≡ r
  unfolding marked
  marked-run l = marks-run r o (live e) l

  pub marked-spells : r < 63 → marked r e o ≡ placeholder → ⊥
  marked-spells l p = let low : marked r e o % 64 ≡ r = marked-run (omega arith) in let same = ap (λ n. n % 64) p in omega arith

-- the record e, of the run that v names, stands after the record c
module _ (c e : Item) (v : ℕ) (named : e.run ≡ v % 64) where
  pub joins-before : joins (key_of c.item) c.run v e.item ≡ true → Before key_of c e
  unfolding joins
  joins-before h =
      ⊎_elim (λ l. inl (ltb-true _ _ l))
      (λ k. let l : c.run < v % 64 = ltb-true _ _ (and_right (eqb (key_of c.item) (key_of e.item)) _ k) in
      inr (eqb-true _ _ (and_left _ _ k), omega arith))
      (or_cases (ltb (key_of c.item) (key_of e.item)) _ (and_left _ _ h))

  pub joins-mark : joins (key_of c.item) c.run v e.item ≡ true
      → v ≡ marked e.run e.item (eqb (key_of c.item) (key_of e.item))
  unfolding joins
  joins-mark h = rw named (eqb-true _ _ (and_right (ltb (key_of c.item) (key_of e.item) || _) _ h))

  pub before-joins : Before key_of c e → v ≡ marked e.run e.item (eqb (key_of c.item) (key_of e.item))
      → joins (key_of c.item) c.run v e.item ≡ true
  unfolding joins
  before-joins b m =
      and-true
      (⊎_elim (λ l. or_left _ _ (lt-ltb _ _ l))
      (λ k. let l : c.run < v % 64 = omega arith in
      or_right (ltb (key_of c.item) (key_of e.item)) _ (and-true (eq-eqb _ _ k.0) (lt-ltb _ _ l))) b)
      (eq-eqb _ _ (rw named at m))
