-- What the code of the records needs: each law is a way out of a function, or a turn of its loop.
--     mark-low, old-low, .., spelled           the marks, and one record taken
--     Putting, putting-none, -more, -end, -all the records of a segment, one by one
--     Backing, backing-on, -stop, -end         the records of the last key given back, one by one
--     fills-cut, fills-other, fills-over       the keys of a segment
use Rattle.std.specs.Prelude.{◌≡◌, refl, length, eqb, ltb}
use Rattle.std.proofs.Math.Path.{sym, ap, ap₂}
use Rattle.std.proofs.Common.{◌∙◌, subst, length-set, lt-ltb, le-ltb}
use Prim.Native.Nat.{ℕ, suc, ◌+◌, ◌-◌, ◌%◌, ◌≤◌, ◌<◌}
use native.Mathlib.Omega.{arith}
use Rattle.std.proofs.Math.Bool.{cond}
use mathlib.Core.List.{List}
use Rattle.std.proofs.Math.ListN.{get_or, set}
use Rattle.theory.specs.Tests.{cases}
use Rattle.index.specs.Scan.{next_in, raise}
use Rattle.merge_lead.specs.Heads.Leads.{NextRun, NoRun}
use Rattle.build_marks.specs.Code.{spelling, old_mark, Steps, none, more, Stopped, over, other, stop, lower, back, Fills, ends, cuts}

-- the marks
pub mark-low : (k : ℕ) {w : ℕ} → w ≡ cond (eqb k 0) 0 64 → w ≤ 64
mark-low k e = cases (eqb k 0) (λ y. omega (arith, rw y at e)) (λ n. omega (arith, rw n at e))

pub old-low : (last k : ℕ) {w : ℕ} → w ≡ old_mark last k → w ≤ 128
unfolding old_mark
old-low last k e = cases (eqb last k) (λ y. omega (arith, rw y at e)) (λ n. omega (arith, rw n at e))

-- the selector of the record that was taken
pub spelled : (t places : List ℕ) (mark r : ℕ) {kind w : ℕ} → kind ≡ (next_in t places r).kind → w ≡ cond (eqb kind 0) 0 64
    → r + (mark + w) ≡ spelling t places mark r
unfolding spelling
spelled t places mark r {kind} p m = ap (λ (n : ℕ). r + (mark + n)) (m ∙ ap (λ (n : ℕ). cond (eqb n 0) 0 64) p)

-- records have been written as far as a place
pub record Putting (t : List ℕ) (h : ℕ) (places₀ seg₀ : List ℕ) (from first to : ℕ) (places seg : List ℕ) (at last : ℕ) : Type 0 where
  pub steps : Steps t h places₀ seg₀ from first places seg at last
  pub begun : from ≤ at
  pub inside : at ≤ to
  pub room : length seg ≡ length seg₀

pub putting-none : {t places seg : List ℕ} {h from first to : ℕ} → from ≤ to → Putting t h places seg from first to places seg from first
putting-none l = record { steps = none; begun = omega arith; inside = l; room = refl }

pub putting-more : {t places₀ seg₀ places seg places' : List ℕ} {h from first to at last r k mark v : ℕ}
    → Putting t h places₀ seg₀ from first to places seg at last → at < to → to ≤ length seg₀ → NextRun t h places r k
    → mark ≡ old_mark last k → v ≡ spelling t places mark r → places' ≡ raise places r
    → Putting t h places₀ seg₀ from first to places' (set seg at v) (at + 1) k
putting-more {t} {places₀} {seg₀} {places} {seg} {places'} {h} {from} {first} {at = at} {last} {r} {k} {v = v} w l m n mark-is v-is places-are =
    let there : at < length seg = omega (arith, w.room) in
    let same : v ≡ spelling t places (old_mark last k) r = v-is ∙ ap (λ (x : ℕ). spelling t places x r) mark-is in
    record {
      steps =
          subst (λ (x : ℕ). Steps t h places₀ seg₀ from first places' (set seg at x) (at + 1) k) (sym same)
          (subst (λ (ps : List ℕ). Steps t h places₀ seg₀ from first ps (set seg at (spelling t places (old_mark last k) r)) (at + 1) k) (sym places-are) (more w.steps n there));
      begun = omega (arith, w.begun);
      inside = omega arith;
      room = simp length-set w.room;
    }

pub putting-end : {t places₀ seg₀ places seg : List ℕ} {h from first to at last : ℕ}
    → Putting t h places₀ seg₀ from first to places seg at last → NoRun t h places → Stopped t h places₀ seg₀ from first to places seg at last
putting-end w n = record { steps = w.steps; begun = w.begun; inside = w.inside; all = λ _. n }

pub putting-all : {t places₀ seg₀ places seg : List ℕ} {h from first to at last : ℕ}
    → Putting t h places₀ seg₀ from first to places seg at last → to ≤ at → Stopped t h places₀ seg₀ from first to places seg to last
putting-all {t} {places₀} {seg₀} {places} {seg} {h} {from} {first} {to} {at} {last} w l =
    let e : at ≡ to = omega (arith, w.inside) in
    subst (λ (n : ℕ). Stopped t h places₀ seg₀ from first to places seg n last) e
    (record { steps = w.steps; begun = w.begun; inside = w.inside; all = λ m. absurd (omega arith) })

-- the selectors from i on have been given back
pub record Backing (seg : List ℕ) (from at : ℕ) (places₀ places : List ℕ) (i : ℕ) : Type 0 where
  pub begun : from ≤ i
  pub inside : i ≤ at
  pub room : length places ≡ length places₀
  pub same : back seg from (i - from) places ≡ back seg from (at - from) places₀

module _ {seg places₀ places : List ℕ} {from at i j v r p : ℕ} (w : Backing seg from at places₀ places i) (l : from < i) (j-is : j ≡ i - 1) (v-is : v ≡ get_or seg j 0) (r-is : r ≡ v % 64)
    (p-is : p ≡ get_or places r 0 - 1) where
  lowered : lower places (get_or seg (from + (j - from)) 0 % 64) ≡ set places r p
  unfolding lower
  lowered =
      let here : from + (j - from) ≡ j = omega arith in
      let e : get_or seg (from + (j - from)) 0 % 64 ≡ r = ap (λ (n : ℕ). get_or seg n 0 % 64) here ∙ ap (λ (n : ℕ). n % 64) (sym v-is) ∙ sym r-is in
      ap (λ (n : ℕ). set places n (get_or places n 0 - 1)) e ∙ ap (set places r) (sym p-is)

  turn : back seg from (i - from) places ≡ cond (ltb v 128) (stop j (set places r p)) (back seg from (j - from) (set places r p))
  unfolding back
  turn =
      let here : from + (j - from) ≡ j = omega arith in
      let z : i - from ≡ suc (j - from) = omega arith in
      ap (λ (n : ℕ). back seg from n places) z
      ∙ ap₂ (λ (x : ℕ) (ps : List ℕ). cond (ltb (get_or seg x 0) 128) (stop x ps) (back seg from (j - from) ps)) here lowered
      ∙ ap (λ (x : ℕ). cond (ltb x 128) (stop j (set places r p)) (back seg from (j - from) (set places r p))) (sym v-is)

  pub backing-on : 128 ≤ v → Backing seg from at places₀ (set places r p) j
  backing-on m =
      record {
        begun = omega arith;
        inside = omega (arith, w.inside);
        room = simp length-set w.room;
        same = sym (turn ∙ ap (λ o. cond o (stop j (set places r p)) (back seg from (j - from) (set places r p))) (le-ltb v 128 m)) ∙ w.same;
      }

  pub backing-stop : v < 128 → stop j (set places r p) ≡ back seg from (at - from) places₀
  backing-stop m = sym (turn ∙ ap (λ o. cond o (stop j (set places r p)) (back seg from (j - from) (set places r p))) (lt-ltb v 128 m)) ∙ w.same

pub backing-end : {seg places₀ places : List ℕ} {from at i : ℕ} → Backing seg from at places₀ places i → i ≤ from → stop from places ≡ back seg from (at - from) places₀
unfolding back
backing-end {seg} {places₀} {places} {from} {at} {i} w l =
    let z : i - from ≡ 0 = omega arith in
    sym (ap (λ (n : ℕ). back seg from n places) z) ∙ w.same

-- the keys of a segment have been written
module _ {t places seg places₁ seg' : List ℕ} {h from first first' to at last : ℕ} (f : first ≡ first')
    (s : Stopped t h places seg from first to places₁ seg' at last) where
  stopped : Stopped t h places seg from first' to places₁ seg' at last
  stopped = subst (λ (k : ℕ). Stopped t h places seg from k to places₁ seg' at last) f s

  pub fills-cut : {r k e : ℕ} {places' : List ℕ} → NextRun t h places₁ r k → k ≡ last → stop e places' ≡ back seg' from (at - from) places₁
      → Fills t h places seg from first' to places' seg' e
  fills-cut {r} n q b = cuts stopped (subst (NextRun t h places₁ r) q n) b

  pub fills-other : {r k : ℕ} → NextRun t h places₁ r k → (k ≡ last → ⊥) → Fills t h places seg from first' to places₁ seg' at
  fills-other n q = ends stopped (other n q)

  pub fills-over : NoRun t h places₁ → Fills t h places seg from first' to places₁ seg' at
  fills-over n = ends stopped (over n)
