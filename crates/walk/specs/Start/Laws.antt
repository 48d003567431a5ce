-- Laws of where a walk starts: the anchor of the segment at which it starts is at or below the key, or it starts at the first one.
--     Passed, probe-passed, probe-le     the last segment passed has an anchor at or below the key; no more are passed than there are
--     probe-enough                       as many probes as segments are enough
--     start-le, start-low                the same of the start
--     before-start                       every record before the start has a key below the one asked for
use Rattle.std.specs.Prelude.{◌≡◌, ◌⊎◌, List, leb}
use Rattle.std.proofs.Math.Path.{refl}
use Rattle.std.proofs.Common.{sym, subst, ⊎_elim}
use Rattle.std.proofs.Math.Logic.{inl, inr}
use Prim.Native.Nat.{ℕ, zero, suc, pred, ◌+◌, ◌-◌, ◌/◌, ◌≤◌, ◌<◌}
use native.Mathlib.Omega.{arith}
use mathlib.Core.List.Memᴰ
use borrow.Author.Tests.{leb-true, leb-false, le-leb}
use Rattle.theory.specs.Rising.{Mem}
use Rattle.theory.specs.Tests.{split, cases}
use Rattle.tray.specs.Frame.{run_count}
use Rattle.index.specs.Layout.{size_of, segment_count, segment_at, anchor_from}
use Rattle.index.specs.Rules.{key_of, Item}
use Rattle.walk.specs.Start.{probe, start}
use Rattle.walk.specs.Walk.Spots.{Reading}
use Rattle.walk.specs.Walk.Reached.{Reached, before-anchor}

module _ (h : ℕ) (x : List ℕ) (key : ℕ) where
  -- with n segments passed, the last of them has an anchor at or below the key
  abbrev pub Passed : ℕ → Type 0
  Passed n = (m : ℕ) → n ≡ suc m → anchor_from x (segment_at h (size_of x) m) ≤ key

  pub probe-passed : (k first past : ℕ) → Passed first → Passed (probe h x key k first past)
  unfolding probe
  probe-passed zero first past p = p
  probe-passed (suc k) first past p =
      let middle : ℕ = (first + past) / 2 in
      split Passed (leb past first) (λ _. p)
      (λ _. split Passed (leb (anchor_from x (segment_at h (size_of x) middle)) key)
      (λ y. probe-passed k (middle + 1) past (λ m e. same middle m e (leb-true _ _ y)))
      (λ _. probe-passed k first middle p))
    where
      same : (n m : ℕ) → n + 1 ≡ suc m → anchor_from x (segment_at h (size_of x) n) ≤ key → anchor_from x (segment_at h (size_of x) m) ≤ key
      same n m e l = let q : n ≡ m = omega arith in rw q at l

  pub probe-le : (k first past : ℕ) → first ≤ past → probe h x key k first past ≤ past
  unfolding probe
  probe-le zero first past l = l
  probe-le (suc k) first past l =
      let middle : ℕ = (first + past) / 2 in
      split (λ n. n ≤ past) (leb past first) (λ _. l)
      (λ y. let u = leb-false past first y in
      split (λ n. n ≤ past) (leb (anchor_from x (segment_at h (size_of x) middle)) key)
      (λ _. probe-le k (middle + 1) past (omega arith))
      (λ _. let v = probe-le k first middle (omega arith) in omega arith))

  -- a probe more changes nothing once there are as many as segments that remain: none then remain at the end
  pub probe-enough : (k first past : ℕ) → past - first ≤ k → probe h x key (suc k) first past ≡ probe h x key k first past
  unfolding probe
  probe-enough zero first past l = rw (le-leb past first (omega arith))
  probe-enough (suc k) first past l =
      let middle : ℕ = (first + past) / 2 in
      cases (leb past first) (λ y. rw y)
      (λ n. let u = leb-false past first n in
      rw (n, probe-enough k (middle + 1) past (omega arith), probe-enough k first middle (omega arith)))

  pub start-le : start h x key ≤ segment_count x
  unfolding start
  start-le = lower (probe h x key (segment_count x) 0 (segment_count x)) (probe-le (segment_count x) 0 (segment_count x) (omega arith))
    where
      lower : (n : ℕ) → n ≤ segment_count x → pred n ≤ segment_count x
      lower n l = omega arith

  pub start-low : (start h x key ≡ 0) ⊎ ((start h x key < segment_count x) × (anchor_from x (segment_at h (size_of x) (start h x key)) ≤ key))
  unfolding start
  start-low = go (probe h x key (segment_count x) 0 (segment_count x)) refl
    where
      go : (n : ℕ) → probe h x key (segment_count x) 0 (segment_count x) ≡ n
          → (pred n ≡ 0) ⊎ ((pred n < segment_count x) × (anchor_from x (segment_at h (size_of x) (pred n)) ≤ key))
      go zero e = inl refl
      go (suc n) e =
          inr (
            omega (arith, probe-le (segment_count x) 0 (segment_count x) (omega arith)),
            probe-passed (segment_count x) 0 (segment_count x) (λ m z. absurd (omega arith)) n e,
          )

module _ {t x : List ℕ} (r : Reading t x) (key : ℕ) where
  -- the segment at which the walk for the key starts
  abbrev first : ℕ
  first = start (run_count t) x key

  -- nothing stands before the first segment
  none_before : {k g : ℕ} (at : Reached t x k g) → g ≡ 0 → (e : Item) → Mem e at.before → ⊥
  none_before at z e m =
      let w = Memᴰ.of_map (λ p. p.entry) at.passed (subst (Mem e) (sym at.entries) m) in omega (arith, at.early w.0 w.1)

  pub before-start : (k : ℕ) (at : Reached t x k first) (e : Item) → Mem e at.before → key_of e.item < key
  before-start zero at e m =
      ⊎_elim (λ z. absurd (none_before at z e m)) (λ w. absurd (omega (arith, at.spelt.number))) (start-low (run_count t) x key)
  before-start (suc k) at e m =
      ⊎_elim (λ z. absurd (none_before at z e m)) (λ w. omega (arith, before-anchor r at e m)) (start-low (run_count t) x key)
