-- What holds wherever a visitor stays, at a selector of the index that names a record of the tray, holds of what a walk came to.
--     Stands                                a selector and where it stands
--     selectors-stayed, segments-stayed     what holds wherever a visitor stays
--     walk-stays                            a walk from where its visitor stays is there
use Rattle.std.proofs.Math.Path.{◌≡◌, refl, sym}
use Rattle.std.proofs.Common.{ap, ◌∙◌, lt-ltb}
use Prim.Native.Nat.{ℕ, zero, suc, ◌+◌, ◌-◌, ◌≤◌, ◌<◌}
use native.Mathlib.Omega.{arith}
use Rattle.std.specs.Prelude.{true, false, List, eqb}
use Rattle.theory.specs.Tests.{cases, never}
use Rattle.tray.specs.Frame.{run_count}
use Rattle.index.specs.Layout.{size_of, segment_count}
use Rattle.index.specs.Scan.{run_in, raise}
use Rattle.walk.specs.Walk.{Spot, Visit, stay, go, Walked, stayed, lost, selector_at, loaded, named, walk_selectors, walk_segments, walk_from}
use Rattle.walk.specs.Code.{after-visit, one-selector}

-- a spot stands at a selector of one of n segments, which names a record
pub record Stands (t x : List ℕ) (n v : ℕ) (c : Spot) : Type 0 where
  pub segment-below : c.segment < n
  pub selector-below : c.selector < size_of x
  pub read : v ≡ selector_at (run_count t) x c.segment c.selector
  pub real : eqb v 63 ≡ false
  pub there : named t c.places v ≡ true

-- two answers where a walk stayed are one
pub same-stay : {S R : Type 0} {a b : R} → ◌≡◌ {A = Walked S R} (stayed a) (stayed b) → a ≡ b
same-stay e = cc

module _ {S R : Type 0} (t x : List ℕ) (visit : ℕ → Spot → S → Visit S R) (P : R → Type 0) (n : ℕ)
    (stays : (v : ℕ) (c : Spot) (st : S) (r : R) → Stands t x n v c → visit v c st ≡ stay r → P r) where
  pub selectors-stayed : (k g s : ℕ) (places : List ℕ) (st : S) (rest : S → Walked S R) → ((st' : S) (r : R) → rest st' ≡ stayed r → P r)
      → g < n → s + k ≤ size_of x → (r : R) → walk_selectors t x visit k g s places st rest ≡ stayed r → P r
  unfolding walk_selectors after-visit
  selectors-stayed zero g s places st rest later low fits r e = later st r e
  selectors-stayed (suc k) g s places st rest later low fits r e =
      let turn = sym (one-selector t x visit k g s places st rest) ∙ e in
      let v = selector_at (run_count t) x g s in
      let inside : s < size_of x = omega arith in
      cases (eqb v 63)
      (λ y. selectors-stayed k g (s + 1) places st rest later low (omega arith) r (rw y at turn))
      (λ n. cases (named t places v)
      (λ there. seen v (record { segment-below = low; selector-below = inside; read = refl; real = n; there = there })
      (λ st' z. selectors-stayed k g (s + 1) (raise places (run_in v)) st' rest later low (omega arith) r z)
      (visit v (record { segment = g; selector = s; places = places }) st) refl (rw (n, there) at turn))
      (λ off. never (off-stay (rw (n, off) at turn))))
    where
      off-stay : {g s : ℕ} {st : S} {r : R} → ◌≡◌ {A = Walked S R} (lost g s st) (stayed r) → ◌≡◌ {A = ℕ} 0 1
      off-stay z = cc

      seen : (v : ℕ) → Stands t x n v (record { segment = g; selector = s; places = places })
          → ((st' : S) → walk_selectors t x visit k g (s + 1) (raise places (run_in v)) st' rest ≡ stayed r → P r)
          → (w : Visit S R) → visit v (record { segment = g; selector = s; places = places }) st ≡ w
          → after-visit w (λ (st' : S). walk_selectors t x visit k g (s + 1) (raise places (run_in v)) st' rest) ≡ stayed r → P r
      seen v stands on (stay a) w z = stays v (record { segment = g; selector = s; places = places }) st r stands (w ∙ ap stay (same-stay z))
      seen v stands on (go st') w z = on st' z

  pub segments-stayed : (k g : ℕ) (st : S) (r : R) → k ≤ n - g → walk_segments t x visit k g st ≡ stayed r → P r
  unfolding walk_segments
  segments-stayed zero g st r l e = never (cc)
  segments-stayed (suc k) g st r l e =
      selectors-stayed (size_of x) g 0 (loaded (run_count t) x g) st (walk_segments t x visit k (g + 1)) (λ st' a z. segments-stayed k (g + 1) st' a (omega arith) z) (omega arith) (omega arith) r e

-- a walk from where its visitor stays is there
pub walk-stays : {S R : Type 0} (t x : List ℕ) (visit : ℕ → Spot → S → Visit S R) (c : Spot) (st : S) {v : ℕ} {r : R} → Stands t x (segment_count x) v c
    → visit v c st ≡ stay r → walk_from t x visit c st ≡ stayed r
unfolding walk_from after-visit
walk-stays {S} t x visit c st {v} a e =
    let one : size_of x - c.selector ≡ suc (size_of x - (c.selector + 1)) = let l = a.selector-below in omega arith in
    let rest : S → Walked _ _ = walk_segments t x visit (segment_count x - (c.segment + 1)) (c.segment + 1) in
    rw (lt-ltb c.segment (segment_count x) a.segment-below)
    (ap (λ (k : ℕ). walk_selectors t x visit k c.segment c.selector c.places st rest) one
    ∙ one-selector t x visit (size_of x - (c.selector + 1)) c.segment c.selector c.places st rest
    ∙ rw (← a.read, a.real, a.there, e))
