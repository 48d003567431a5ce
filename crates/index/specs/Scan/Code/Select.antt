-- What the code of one selector needs of the definitions. Tests stand as numbers there, 1 for true.
--     begin-is                 the first selector of a segment
--     follow-is, follow-falls, follow-not    a later one
--     and_none                 a test of two parts whose second one fails
--     joins-head, begins-head  of a record only key and kind count
use Rattle.std.specs.Prelude.{◌≡◌, refl, ℕ, ◌+◌, ◌-◌, ◌*◌, ◌/◌, ◌%◌, ◌≤◌, ◌<◌, Bool, ◌&&◌, ◌||◌, not, eqb, leb}
use Rattle.std.specs.Int.{from_bool}
use Rattle.std.proofs.Math.Path.{sym, ap}
use Rattle.std.proofs.Common.{◌∙◌, le_of_lt}
use native.Mathlib.Omega.{arith}
use Rattle.std.proofs.Math.Bool.{true, false, cond}
use Rattle.std.proofs.Math.Dec.{ltb}
use borrow.Author.Tests.{eq-eqb, ne_eqb, le-ltb, lt-ltb, ltb-true, ltb-false, le-leb, lt-leb, eqb-true, eqb-false}
use Rattle.theory.specs.Records.{Record}
use Rattle.theory.specs.Tests.{cases}
use Rattle.tray.specs.declared.Head.{Head}
use Rattle.index.specs.Scan.{marked, begins, joins}
use Rattle.tray.specs.Run.Code.{HeadOf, headed}

bit-low : (b : Bool) → from_bool (not b) ≤ 1
bit-low true = omega arith
bit-low false = omega arith

-- the marks, computed and as they are
marks : (v s g : ℕ) (o l : Bool) → s ≡ from_bool o → g ≡ from_bool (not l) → v + 128 * s + 64 * g ≡ v + (cond o 128 0 + cond l 0 64)
marks v s g true true p q = omega arith
marks v s g true false p q = omega arith
marks v s g false true p q = omega arith
marks v s g false false p q = omega arith

-- whether a run is later, by a division
later : (before r q : ℕ) → before < 64 → r < 64 → q ≡ 1 → leb q ((63 + r - before) / 64) ≡ ltb before r
later before r q l k e =
    cases (ltb before r)
    (λ y. let b : before < r = ltb-true before r y in le-leb q ((63 + r - before) / 64) (omega arith) ∙ sym y)
    (λ n. let b : r ≤ before = ltb-false before r n in lt-leb q ((63 + r - before) / 64) (omega arith) ∙ sym n)

and-all : (a : Bool) → (a && true) ≡ a
and-all true = refl
and-all false = refl

pub and_none : (a : Bool) → (a && false) ≡ false
and_none true = refl
and_none false = refl

module _ (v : ℕ) (e : Head) where
  pub begin-is : {g : ℕ} → g ≡ from_bool (not (eqb e.kind 0)) → eqb v (v % 64 + 64 * g) ≡ begins v (headed e)
  unfolding begins marked
  begin-is {g} h = ap (eqb v) (plain (v % 64) g (eqb e.kind 0) h)
    where
      plain : (r k : ℕ) (l : Bool) → k ≡ from_bool (not l) → r + 64 * k ≡ r + (0 + cond l 0 64)
      plain r k true q = omega arith
      plain r k false q = omega arith

  module _ (last before : ℕ) {s g : ℕ} (same : s ≡ from_bool (eqb last e.key)) (gone : g ≡ from_bool (not (eqb e.kind 0))) where
    module _ (fits : v ≡ v % 64 + 128 * s + 64 * g) where
      marked-so : eqb v (v % 64 + (cond (eqb last e.key) 128 0 + cond (eqb e.kind 0) 0 64)) ≡ true
      marked-so = eq-eqb v _ (fits ∙ marks (v % 64) s g (eqb last e.key) (eqb e.kind 0) same gone)

      pub follow-falls : e.key < last → false ≡ joins last before v (headed e)
      unfolding joins marked
      follow-falls l =
          sym (rw (marked-so, le-ltb last e.key (le_of_lt l), ne_eqb last e.key (λ q. omega arith)))

      pub follow-is : before < 64 → last ≤ e.key → leb (v / 128) ((63 + v % 64 - before) / 64) ≡ joins last before v (headed e)
      unfolding joins marked
      follow-is b l = cases (eqb last e.key) (λ y. equal-keys y) (λ n. other_keys n)
        where
          low : v % 64 < 64
          low = omega arith

          equal-keys : eqb last e.key ≡ true → leb (v / 128) ((63 + v % 64 - before) / 64) ≡ joins last before v (headed e)
          equal-keys y =
              let h : s ≡ 1 = rw y at same in
              let k = bit-low (eqb e.kind 0) in
              let q : v / 128 ≡ 1 = omega arith in
              let z : last ≡ e.key = eqb-true last e.key y in
              later before (v % 64) (v / 128) b low q ∙ sym (rw (marked-so, le-ltb last e.key (omega arith), y) (and-all (ltb before (v % 64))))

          other_keys : eqb last e.key ≡ false → leb (v / 128) ((63 + v % 64 - before) / 64) ≡ joins last before v (headed e)
          other_keys n =
              let h : s ≡ 0 = rw n at same in
              let k = bit-low (eqb e.kind 0) in
              let q : v / 128 ≡ 0 = omega arith in
              let d : last ≡ e.key → ⊥ = eqb-false last e.key n in
              let up : last < e.key = omega arith in
              le-leb (v / 128) ((63 + v % 64 - before) / 64) (omega arith) ∙ sym (rw (marked-so, lt-ltb last e.key up))

    pub follow-not : (v ≡ v % 64 + 128 * s + 64 * g → ⊥) → false ≡ joins last before v (headed e)
    unfolding joins marked
    follow-not h =
        sym (rw (ne_eqb v (v % 64 + (cond (eqb last e.key) 128 0 + cond (eqb e.kind 0) 0 64)) (λ q. h (q ∙ sym (marks (v % 64) s g (eqb last e.key) (eqb e.kind 0) same gone)))) (and_none (ltb last e.key || (eqb last e.key && ltb before (v % 64)))))

module _ {e : Head} {whole : Record} (h : HeadOf e whole) where
  pub begins-head : (v : ℕ) → begins v (headed e) ≡ begins v whole
  unfolding begins marked
  begins-head v = rw h.kind

  pub joins-head : (last before v : ℕ) → joins last before v (headed e) ≡ joins last before v whole
  unfolding joins marked
  joins-head last before v = rw (h.key, h.kind)
