-- What the steps of the code come to: the records that are taken are the next ones of the view, and their selectors are written.
--     Taken, steps-taken     the records that the steps take, and what is left
--     steps-select           what they write are selectors of runs
use Rattle.std.specs.Prelude.{◌≡◌, refl, ℕ, ◌+◌, ◌%◌, ◌≤◌, ◌<◌, eqb, ltb}
use Rattle.std.proofs.Math.Path.{sym, ap, ap₂}
use Rattle.std.proofs.Common.{◌∙◌, arith, length-set, get_or-set_same, get_or-set_other, eqb-true, ltb-true, ltb-false}
use mathlib.Core.List.{List, [], ◌∷◌, ◌++◌, append_assoc, append-nil}
use Rattle.std.proofs.Math.ListN.{length, set, length-append}
use Rattle.std.proofs.Math.Seq.{append_snoc}
use Rattle.std.proofs.lemmas.Bool.{eqb-false}
use Rattle.number.specs.Big.{put}
use Rattle.number.proofs.Big.Writes.{put-sets, put-put, put-nil}
use Rattle.theory.specs.Records.{live}
use Rattle.theory.specs.Tests.{cases}
use Rattle.tray.specs.Frame.{run_count}
use Rattle.tray.specs.Meaning.{runs_of, Fits}
use Rattle.index.specs.Rules.{Item}
use Rattle.index.specs.Rules.Laws.{marks-run}
use Rattle.index.specs.Scan.{marked, next_in, raise}
use Rattle.index.specs.Scan.Places.{places_of, raise-places_of}
use Rattle.build_spec.specs.Build.{item_key}
use Rattle.build_spec.specs.Build.Laws.{Ready}
use Rattle.build_marks.specs.Code.{spelling, old_mark, Steps, none, more, Selecting}
use Rattle.build_marks.specs.Code.Merge.{Reached, next-first}
use Rattle.build_marks.specs.Code.Spelled.{marks_on, last_key, marks_on-snoc, last_key-snoc, length-marks_on}

-- after b, the records own have been taken and written from a place on, after a key k
pub record Taken (t : List ℕ) (b w : List Item) (seg : List ℕ) (from k : ℕ) (places' seg' : List ℕ) (at last : ℕ) : Type 0 where
  pub own : List Item
  pub left : List Item
  pub parts : w ≡ own ++ left
  pub is : places' ≡ places_of (b ++ own)
  pub bytes : seg' ≡ put seg from (marks_on k own)
  pub end : at ≡ from + length own
  pub last-is : last ≡ last_key k own

module _ {d : ℕ} {t : List ℕ} {h : ℕ} (ready : Ready d (runs_of t)) (fits : Fits (runs_of t)) (runs-are : h ≡ run_count t) {b w : List Item} {places seg : List ℕ} {from k : ℕ}
    (reached : Reached t b w places) (room : from ≤ length seg) where
  -- what has been taken is read
  pub taken-reached : {places' seg' : List ℕ} {at last : ℕ} → (x : Taken t b w seg from k places' seg' at last) → Reached t (b ++ x.own) x.left places'
  taken-reached x = record { whole = reached.whole ∙ ap (λ l. b ++ l) x.parts ∙ sym (append_assoc b x.own x.left); is = x.is }

  pub steps-taken : {places' seg' : List ℕ} {at last : ℕ} → Steps t h places seg from k places' seg' at last → Taken t b w seg from k places' seg' at last
  unfolding marks_on last_key spelling old_mark marked
  steps-taken none =
      record {
        own = [];
        left = w;
        parts = refl;
        is = reached.is ∙ ap places_of (sym (append-nil b));
        bytes = sym (put-nil seg from);
        end = omega arith;
        last-is = refl;
      }
  steps-taken (more {places'} {seg'} {at} {last} {r} {k = key} s n l) = next (steps-taken s)
    where
      next : Taken t b w seg from k places' seg' at last → Taken t b w seg from k (raise places' r) (set seg' at (spelling t places' (old_mark last key) r)) (at + 1) key
      next x =
          let c = next-first ready fits (taken-reached x) runs-are n in
          let e = c.record_is in
          record {
            own = x.own ++ (e ∷ []);
            left = c.left;
            parts = x.parts ∙ ap (λ u. x.own ++ u) c.parts ∙ sym (append_snoc x.own e c.left);
            is = ap₂ raise x.is (sym c.run) ∙ raise-places_of (b ++ x.own) e ∙ ap places_of (append_assoc b x.own (e ∷ []));
            bytes = written e c.run c.key c.item;
            end = simp length-append (omega (arith, x.end));
            last-is = sym (last_key-snoc k x.own e ∙ c.key);
          }
        where
          written : (e : Item) → e.run ≡ r → item_key e ≡ key → e.item ≡ next_in t places' r
              → set seg' at (spelling t places' (old_mark last key) r) ≡ put seg from (marks_on k (x.own ++ (e ∷ [])))
          written e run is item =
              let v = marked e.run e.item (eqb (last_key k x.own) (item_key e)) in
              let last-key = x.last-is in
              let same : spelling t places' (old_mark last key) r ≡ v = cc in
              let at-is : at ≡ from + length (marks_on k x.own) = omega (arith, x.end, length-marks_on k x.own) in
              let one : set seg' at v ≡ put seg' at (v ∷ []) = put-sets seg' at (v ∷ []) (omega arith) in
              ap (set seg' at) same ∙ one ∙ ap₂ (λ (s : List ℕ) (p : ℕ). put s p (v ∷ [])) x.bytes at-is
              ∙ put-put seg from (marks_on k x.own) (v ∷ []) room ∙ ap (put seg from) (sym (marks_on-snoc k x.own e))

-- a selector's run
run_of : (t places : List ℕ) (last k r : ℕ) → r < 63 → spelling t places (old_mark last k) r % 64 < 63
unfolding spelling old_mark
run_of t places last k r l = let e = marks-run r (eqb last k) (live (next_in t places r)) (omega arith) in omega arith

-- the steps write selectors of runs
module _ {t : List ℕ} {h : ℕ} (few : h ≤ 63) {places seg : List ℕ} {from k : ℕ} (room : from ≤ length seg) where
  pub steps-select : {places' seg' : List ℕ} {at last : ℕ} → Steps t h places seg from k places' seg' at last → Selecting seg' from at
  steps-select none = record { begun = omega arith; room = room; runs = λ i l m. absurd (omega arith) }
  steps-select (more {places'} {seg'} {at} {last} {r} {k = key} s n l) =
      let x = steps-select s in
      let v = spelling t places' (old_mark last key) r in
      record {
        begun = omega (arith, x.begun);
        room = simp length-set (omega arith);
        runs = λ i p q. cases (eqb i at)
            (λ y. let e : i ≡ at = eqb-true _ _ y in
            rw (e, get_or-set_same seg' at v 0 l) (run_of t places' last key r (omega (arith, n.run))))
            (λ f. let e : i ≡ at → ⊥ = eqb-false _ _ f in
            rw (get_or-set_other seg' at i v 0 e) (x.runs i p (other i q e)));
      }
    where
      other : (i : ℕ) → i < at + 1 → (i ≡ at → ⊥) → i < at
      other i q e = cases (ltb i at) (λ y. ltb-true _ _ y) (λ f. absurd (e (omega (arith, ltb-false i at f))))
