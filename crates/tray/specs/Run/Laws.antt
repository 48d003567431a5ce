-- Laws of judging a run.
--     judge-end, judge-kind, judge-key, judge-next    how a loop over places from 0 to n ends and goes on
--     Fine, Judged, judged                            what the answer says of the run
--     fine-sound, sound-fine                          a record that is not wrong is sound, and the other way round
--     key-rises, rises-key, first_key                 a key that is not wrong is above the one before it, if there is one
use Rattle.std.specs.Prelude.{◌≡◌, Bool, cond, ◌&&◌, ◌||◌, List, ltb, eqb, Ok, Err, Result}
use Rattle.std.proofs.Math.Path.{refl}
use Rattle.std.proofs.Common.{subst, ⊎_elim, eq-or-lt_of_le, leb-false, ltb-false, le-ltb, eqb-true, eq-eqb}
use Prim.Native.Nat.{ℕ, zero, suc, ◌+◌, ◌-◌, ◌≤◌, ◌<◌}
use native.Mathlib.Omega.{arith}
use Rattle.std.proofs.Math.Numerals.{add-one}
use Rattle.std.proofs.Math.Bool.{true, false}
use Rattle.std.proofs.lemmas.Bool.{lt-leb}
use Rattle.theory.specs.Tests.{clash, or_left, or_right}
use Rattle.theory.specs.Records.{Record, SoundRecord}
use Rattle.tray.specs.declared.Fault.{Fault}
use Rattle.tray.specs.declared.Fault.TheVariants.{WrongKind, WrongKey}
use Rattle.tray.specs.Run.{record_at, kind_wrong, key_wrong, place, judge_from}

-- one record more to judge
left-more : (n p : ℕ) → p < n → n - p ≡ suc (n - (p + 1))
left-more n p l = omega arith

module _ (run : List ℕ) where
  pub judge-end : (n p : ℕ) → n ≤ p → judge_from (n - p) run p ≡ Ok tt
  unfolding judge_from
  judge-end n p l = let e : n - p ≡ 0 = omega arith in rw e

  pub judge-kind : (n p : ℕ) → p < n → kind_wrong (record_at run p) ≡ true → judge_from (n - p) run p ≡ Err (WrongKind (place p))
  unfolding judge_from
  judge-kind n p l k = rw (left-more n p l, k)

  pub judge-key : (n p : ℕ) → p < n → kind_wrong (record_at run p) ≡ false → key_wrong run p ≡ true → judge_from (n - p) run p ≡ Err (WrongKey (place p))
  unfolding judge_from
  judge-key n p l k w = rw (left-more n p l, k, w)

  pub judge-next : (n p : ℕ) → p < n → kind_wrong (record_at run p) ≡ false → key_wrong run p ≡ false → judge_from (n - p) run p ≡ judge_from (n - (p + 1)) run (p + 1)
  unfolding judge_from
  judge-next n p l k w = rw (left-more n p l, k, w, add-one p)

  -- the record is right: known kind, no value where it is gone, key above the one before it
  pub record Fine (p : ℕ) : Type 0 where
    pub kind : kind_wrong (record_at run p) ≡ false
    pub key : key_wrong run p ≡ false

  -- what an answer says of the n records from place p on
  pub data Judged (p n : ℕ) : Result (Unit {0}) Fault → Type 0 where
    all-fine : ((i : ℕ) → p ≤ i → i < p + n → Fine i) → Judged p n (Ok tt)
    kind_at : (q : ℕ) → p ≤ q → q < p + n → ((i : ℕ) → p ≤ i → i < q → Fine i) → kind_wrong (record_at run q) ≡ true → Judged p n (Err (WrongKind (place q)))
    key-at : (q : ℕ) → p ≤ q → q < p + n → ((i : ℕ) → p ≤ i → i < q → Fine i) → kind_wrong (record_at run q) ≡ false → key_wrong run q ≡ true → Judged p n (Err (WrongKey (place q)))

  -- a fine record, and then those after it
  fine_more : {p m : ℕ} → Fine p → ((i : ℕ) → suc p ≤ i → i < m → Fine i) → (i : ℕ) → p ≤ i → i < m → Fine i
  fine_more {p} {m} f rest i l h = ⊎_elim (λ e. subst Fine e f) (λ k. rest i k h) (eq-or-lt_of_le l)

  judged-more : {p n : ℕ} {a : Result (Unit {0}) Fault} → Fine p → Judged (suc p) n a → Judged p (suc n) a
  judged-more {p} {n} f (all-fine g) = all-fine (fine_more f (λ i l h. g i l (omega arith)))
  judged-more f (kind_at q l h g k) = kind_at q (omega arith) (omega arith) (fine_more f g) k
  judged-more f (key-at q l h g k w) = key-at q (omega arith) (omega arith) (fine_more f g) k w

  pub judged : (n p : ℕ) → Judged p n (judge_from n run p)
  unfolding judge_from
  judged zero p = all-fine (λ i l h. absurd (omega arith))
  judged (suc n) p = go (kind_wrong (record_at run p)) refl (key_wrong run p) refl (judged n (suc p))
    where
      go : (k : Bool) → kind_wrong (record_at run p) ≡ k → (w : Bool) → key_wrong run p ≡ w → Judged (suc p) n (judge_from n run (suc p))
          → Judged p (suc n) (cond k (Err (WrongKind (place p))) (cond w (Err (WrongKey (place p))) (judge_from n run (suc p))))
      go true k w e next = kind_at p (omega arith) (omega arith) (λ i l h. absurd (omega arith)) k
      go false k true e next = key-at p (omega arith) (omega arith) (λ i l h. absurd (omega arith)) k e
      go false k false e next = judged-more (record { kind = k; key = e }) next

pub fine-sound : (e : Record) → kind_wrong e ≡ false → SoundRecord e
unfolding kind_wrong
fine-sound e h =
    record {
      known = ltb-false _ _ (or_left _ _ h);
      gone = λ g. (let z : ltb 0 e.value ≡ false = gone-zero (eqb e.kind 1) (ltb 0 e.value) (eq-eqb _ _ g) (or_right (ltb 1 e.kind) _ h) in
          let l : e.value ≤ 0 = ltb-false _ _ z in omega arith);
    }
  where
    gone-zero : (a b : Bool) → a ≡ true → (a && b) ≡ false → b ≡ false
    gone-zero true b p h = h
    gone-zero false b p h = clash p refl

pub sound-fine : (e : Record) → SoundRecord e → kind_wrong e ≡ false
unfolding kind_wrong
sound-fine e s = both (ltb 1 e.kind) (eqb e.kind 1) (ltb 0 e.value) (le-ltb _ _ s.known)
    (λ g. let z : e.value ≡ 0 = s.gone (eqb-true _ _ g) in le-ltb 0 e.value (omega arith))
  where
    both : (a b c : Bool) → a ≡ false → (b ≡ true → c ≡ false) → (a || (b && c)) ≡ false
    both true b c p q = p
    both false true c p q = q refl
    both false false c p q = refl

pub key-rises : (run : List ℕ) (p : ℕ) → key_wrong run (suc p) ≡ false → (record_at run p).key < (record_at run (suc p)).key
unfolding key_wrong
key-rises run p h = leb-false _ _ h

pub rises-key : (run : List ℕ) (p : ℕ) → (record_at run p).key < (record_at run (suc p)).key → key_wrong run (suc p) ≡ false
unfolding key_wrong
rises-key run p h = lt-leb _ _ h

-- the first record of a run is above nothing
pub first_key : (run : List ℕ) → key_wrong run 0 ≡ false
unfolding key_wrong
first_key run = refl
