-- What the code of the scan needs of the definitions: each law is a way out of a function, or a turn of its loop.
pub mod Follow
pub mod Select
pub mod Steps
use Rattle.std.specs.Prelude.{◌≡◌, Bool, ◌&&◌, List, ◌∷◌, length, get_or, take, drop, All, eqb, ltb, Option, Some, None, MatchOption}
use Rattle.std.proofs.Math.Path.{refl, sym, ap}
use Rattle.std.proofs.Common.{◌∙◌, add-one}
use Prim.Native.Nat.{ℕ, zero, suc, ◌+◌, ◌-◌, ◌*◌, ◌≤◌, ◌<◌}
use native.Mathlib.Omega.{arith}
use Rattle.std.proofs.Math.Bool.{true, false, cond}
use borrow.Author.Tests.{eq-eqb, ne_eqb, eqb-true, lt-ltb, le-ltb}
use Rattle.theory.specs.Tests.{order, same_test, and_left, and_right}
use Rattle.std.proofs.lemmas.List.{drop_more, length-take-le, get_or-take}
use Rattle.std.proofs.lemmas.Grind.{same_number_lists}
use Rattle.std.specs.Cmp.Lexicographic.{pointwise}
use lib.Pointwise.{bytes_decides}
use Rattle.std.proofs.lemmas.List.Elements.{All-nil, All-cons, All-head, All-tail}
use Rattle.number.specs.Big.{be}
use Rattle.tray.specs.declared.Head.{Head}
use Rattle.tray.specs.declared.Place.{Place}
use Rattle.tray.specs.Run.{record_at}
use Rattle.tray.specs.Run.Code.{HeadOf}
use Rattle.index.specs.Scan.Code.Select.{and_none}
use Rattle.tray.specs.Frame.{run_count, count_of, run_bytes, Starts}
use Rattle.index.specs.Scan.{Trail, lost, kept, Outcome, wrong, right, run_in, next_in, has_next, names, raise, begins, joins, heads_above, offsets_hold, only_placeholders, used_up}

-- the runs, their counts, and how far they have been read
pub record Reading (t counts starts places : List ℕ) : Type 0 where
  pub at : Starts t starts
  pub few : run_count t ≤ 63
  pub room-counts : length counts ≡ 63
  pub room-places : length places ≡ 63
  pub counts-are : (r : ℕ) → r < run_count t → get_or counts r 0 ≡ count_of t r

-- the place of a run's next record, where the tray has that run and the run a record left
abbrev pub NextPlace : List ℕ → ℕ → List ℕ → ℕ → Option Place → Type 0
NextPlace t h places r o =
    MatchOption o (r < h → count_of t r ≤ get_or places r 0) (λ (p : Place). (r < h) × (get_or places r 0 < count_of t r) × (p.0 ≡ get_or places r 0))

-- the first k numbers of two lists are the same
unfoldable pub same_to : List ℕ → List ℕ → ℕ → Bool
same_to xs ys zero = true
same_to xs ys (suc r) = eqb (get_or xs r 0) (get_or ys r 0) && same_to xs ys r

-- one selector after another record
unfoldable pub step_of : List ℕ → ℕ → List ℕ → ℕ → ℕ → ℕ → Trail
step_of t h places v last before =
    let e = next_in t places (run_in v) in
    cond (names t h places v) (cond (joins last before v e) (kept (raise places (run_in v)) e.key) lost) lost

-- the first selector of a segment
unfoldable pub begin_of : List ℕ → ℕ → List ℕ → ℕ → ℕ → Trail
begin_of t h places v anchor =
    let e = next_in t places (run_in v) in
    cond (names t h places v) (cond (begins v e && eqb anchor e.key) (kept (raise places (run_in v)) e.key) lost) lost

-- an answer with what it left, as a trail and as an outcome: where it is None or false, what it left says nothing
unfoldable pub trailed : Option ℕ → List ℕ → Trail
trailed (Some last) places = kept places last
trailed None places = lost

unfoldable pub told : Bool → List ℕ → Outcome
told true places = right places
told false places = wrong

-- a loop over runs: after the first r right ones the test of run r decides, and one wrong run decides for all
stopped : (f test : ℕ → Bool) → ((r : ℕ) → f (suc r) ≡ (test r && f r)) → (k r : ℕ) → r < k → test r ≡ false → f k ≡ false
stopped f test step zero r l e = absurd (omega arith)
stopped f test step (suc k) r l e =
    step k
    ∙ order r k (λ b. rw (stopped f test step k r b e) (and_none (test k))) (λ z. rw (← z, e)) (λ b. absurd (omega arith))

module _ (x : List ℕ) (at : ℕ) (places : List ℕ) where
  pub offsets-more : (r : ℕ) → offsets_hold x at places r ≡ true → be 2 x (at + 8 + 2 * r) ≡ get_or places r 0 → offsets_hold x at places (r + 1) ≡ true
  unfolding offsets_hold
  offsets-more r p h = rw (add-one r, eq-eqb (be 2 x (at + 8 + 2 * r)) (get_or places r 0) h) p

  pub offsets-stop : {k r : ℕ} → r < k → (be 2 x (at + 8 + 2 * r) ≡ get_or places r 0 → ⊥) → offsets_hold x at places k ≡ false
  unfolding offsets_hold
  offsets-stop {k} {r} l h =
      stopped (offsets_hold x at places) (λ (n : ℕ). eqb (be 2 x (at + 8 + 2 * n)) (get_or places n 0)) (λ n. refl) k r l
      (ne_eqb (be 2 x (at + 8 + 2 * r)) (get_or places r 0) h)

module _ (t places : List ℕ) (last : ℕ) where
  pub heads-none : (h r : ℕ) → heads_above t places last r ≡ true → r < h → NextPlace t h places r None → heads_above t places last (r + 1) ≡ true
  unfolding heads_above has_next
  heads-none h r p l n = rw (add-one r, le-ltb (get_or places r 0) (count_of t r) (n l)) p

  module _ (h r : ℕ) {e : Head} (p : Place) (next : NextPlace t h places r (Some p)) (head : HeadOf e (record_at (run_bytes t r) p.0)) where
    key-is : e.key ≡ (next_in t places r).key
    unfolding next_in
    key-is = let z = next.2 in let k = head.key in rw z at k

    pub heads-some : heads_above t places last r ≡ true → last < e.key → heads_above t places last (r + 1) ≡ true
    unfolding heads_above has_next
    heads-some p a =
        let z = key-is in
        rw (add-one r, lt-ltb (get_or places r 0) (count_of t r) next.1, lt-ltb last (next_in t places r).key (omega arith)) p

    pub heads-stop : {k : ℕ} → r < k → e.key ≤ last → heads_above t places last k ≡ false
    unfolding heads_above has_next
    heads-stop {k} l a =
        let z = key-is in
        stopped (heads_above t places last) (λ (n : ℕ). cond (has_next t places n) (ltb last (next_in t places n).key) true) (λ n. refl) k r l
        (rw (lt-ltb (get_or places r 0) (count_of t r) next.1) (le-ltb last (next_in t places r).key (omega arith)))

-- every run has been read to its end where its place is its count, as two slices say it
module _ (t places counts : List ℕ) where
  used-all : (k : ℕ) → ((r : ℕ) → r < k → get_or places r 0 ≡ count_of t r) → used_up t places k ≡ true
  unfolding used_up
  used-all zero h = refl
  used-all (suc k) h = rw (eq-eqb (get_or places k 0) (count_of t k) (h k (omega arith))) (used-all k (λ r l. h r (omega arith)))

  used-each : (k r : ℕ) → used_up t places k ≡ true → r < k → get_or places r 0 ≡ count_of t r
  unfolding used_up
  used-each zero r u l = absurd (omega arith)
  used-each (suc k) r u l =
      order r k (λ b. used-each k r (and_right (eqb (get_or places k 0) (count_of t k)) _ u) b)
      (λ z. rw z (eqb-true (get_or places k 0) (count_of t k) (and_left _ (used_up t places k) u)))
      (λ b. absurd (omega arith))

  pub used-is : (h : ℕ) {b : Bool} → h ≤ length places → h ≤ length counts → ((r : ℕ) → r < h → get_or counts r 0 ≡ count_of t r)
      → b ≡ pointwise eqb (take h places) (take h counts) → b ≡ used_up t places h
  used-is h {b} p c counted e =
      let long : length (take h places) ≡ h = length-take-le h places p in
      let wide : length (take h counts) ≡ h = length-take-le h counts c in
      let decides = bytes_decides (take h places) (take h counts) in
      e ∙ same_test _ (used_up t places h)
      (λ y.
      let same : take h places ≡ take h counts = decides.0 y in
      used-all h (λ r l. sym (get_or-take h places r 0 l) ∙ ap (λ (xs : List ℕ). get_or xs r 0) same ∙ get_or-take h counts r 0 l ∙ counted r l))
      (λ u.
      decides.1
      (same_number_lists (take h places) (take h counts) (long ∙ sym wide)
      (λ r l.
      let below : r < h = omega arith in
      get_or-take h places r 0 below ∙ used-each h r u below ∙ sym (counted r below) ∙ sym (get_or-take h counts r 0 below))))

-- the first k numbers of two lists, counted down: with k left the test of number k - 1 decides, and then the rest
module _ (xs ys : List ℕ) where
  pub same_end : {k : ℕ} → k ≤ 0 → true ≡ same_to xs ys k
  unfolding same_to
  same_end {k} l = let z : k ≡ 0 = omega arith in rw z

  pub same_next : {k r : ℕ} → 0 < k → r ≡ k - 1 → get_or xs r 0 ≡ get_or ys r 0 → same_to xs ys k ≡ same_to xs ys r
  unfolding same_to
  same_next {k} {r} l e h = let z : k ≡ suc r = omega arith in rw (z, eq-eqb (get_or xs r 0) (get_or ys r 0) h)

  pub same_stop : {k r : ℕ} → 0 < k → r ≡ k - 1 → (get_or xs r 0 ≡ get_or ys r 0 → ⊥) → same_to xs ys k ≡ false
  unfolding same_to
  same_stop {k} {r} l e h = let z : k ≡ suc r = omega arith in rw (z, ne_eqb (get_or xs r 0) (get_or ys r 0) h)

-- placeholders, as a slice of them says it
module _ (x : List ℕ) where
  pub only-all : (n i : ℕ) → i + n ≤ length x → All (λ v. v ≡ 63) (take n (drop i x)) → only_placeholders x n i ≡ true
  unfolding only_placeholders
  only-all zero i l a = refl
  only-all (suc n) i l a =
      let more : drop i x ≡ get_or x i 0 ∷ drop (i + 1) x = drop_more x i 0 (omega arith) in
      let b : All (λ v. v ≡ 63) (get_or x i 0 ∷ take n (drop (i + 1) x)) = rw more at a in
      rw (eq-eqb (get_or x i 0) 63 (All-head (λ v. v ≡ 63) (get_or x i 0) (take n (drop (i + 1) x)) b))
      (only-all n (i + 1) (omega arith) (All-tail (λ v. v ≡ 63) (get_or x i 0) (take n (drop (i + 1) x)) b))

  pub only-each : (n i : ℕ) → i + n ≤ length x → only_placeholders x n i ≡ true → All (λ v. v ≡ 63) (take n (drop i x))
  unfolding only_placeholders
  only-each zero i l e = All-nil (λ v. v ≡ 63)
  only-each (suc n) i l e =
      let more : drop i x ≡ get_or x i 0 ∷ drop (i + 1) x = drop_more x i 0 (omega arith) in
      rw more (All-cons (λ v. v ≡ 63) (get_or x i 0) (take n (drop (i + 1) x)) (eqb-true (get_or x i 0) 63 (and_left _ _ e)) (only-each n (i + 1) (omega arith) (and_right (eqb (get_or x i 0) 63) _ e)))
