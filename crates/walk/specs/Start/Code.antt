-- What the code of the search needs of the definitions.
--     Probes, probes-start, probes-above, probes-below, probes-end    the loop begins, goes on and ends
--     middle-is                        the middle, computed so that no sum passes its type
--     anchor-inside                    a probed anchor lies in the index
use Rattle.std.specs.Prelude.{◌≡◌, cond, List, length, leb}
use Rattle.std.proofs.Math.Path.{refl, sym, ap, ap₂}
use Rattle.std.proofs.Common.{◌∙◌, arith}
use Prim.Native.Nat.{ℕ, zero, suc, pred, ◌+◌, ◌-◌, ◌*◌, ◌/◌, ◌≤◌, ◌<◌}
use Rattle.std.proofs.Math.Numerals.{sub-one}
use borrow.Author.Tests.{le-leb, lt-leb}
use Rattle.number.specs.Big.{be}
use Rattle.index.specs.Layout.{size_of, segment_at}
use Rattle.index.specs.Layout.Code.{Laid, segment_at-next, segment_at-le}
use Rattle.walk.specs.Start.{probe, start}

module _ (x : List ℕ) (h d n key : ℕ) (f : Laid x h d n) where
  -- the segments from `first` up to `past` are left, with as many probes as are enough
  pub record Probes (first past : ℕ) : Type 0 where
    pub fuel : ℕ
    pub low : first ≤ past
    pub high : past ≤ n
    pub enough : past ≤ first + fuel
    pub same : probe h x key fuel first past ≡ probe h x key n 0 n

  pub probes-start : Probes 0 n
  probes-start = record { fuel = n; low = omega arith; high = omega arith; enough = omega arith; same = refl }

  -- a probed segment ends inside the index
  pub anchor-inside : {g at : ℕ} → g < n → at ≡ segment_at h d g → at + 8 ≤ length x
  anchor-inside {g} {at} l e =
      let ends : segment_at h d (suc g) ≤ segment_at h d n = segment_at-le h d (suc g) n l in
      let next : segment_at h d (suc g) ≡ segment_at h d g + (8 + 2 * h + d) = segment_at-next h d g in
      let whole : length x ≡ segment_at h d n = f.whole in
      omega arith

  -- one probe
  module _ {first past middle at anchor : ℕ} (p : Probes first past) (l : first < past) (m : middle ≡ (first + past) / 2)
      (at-is : at ≡ segment_at h d middle) (read : anchor ≡ be 8 x at) where
    anchor-is : anchor ≡ be 8 x (segment_at h (size_of x) ((first + past) / 2))
    anchor-is = read ∙ ap (be 8 x) (at-is ∙ ap₂ (segment_at h) f.size m)

    one-probe : (k : ℕ) → p.fuel ≡ suc k
        → probe h x key p.fuel first past
        ≡ cond (leb (be 8 x (segment_at h (size_of x) ((first + past) / 2))) key) (probe h x key k ((first + past) / 2 + 1) past) (probe h x key k first ((first + past) / 2))
    unfolding probe
    one-probe k e = rw (e, lt-leb past first l)

    more-fuel : p.fuel ≡ suc (p.fuel - 1)
    more-fuel = let e : past ≤ first + p.fuel = p.enough in omega arith

    pub probes-above : anchor ≤ key → Probes (middle + 1) past
    probes-above a =
        let e : past ≤ first + p.fuel = p.enough in
        let high : past ≤ n = p.high in
        let low : be 8 x (segment_at h (size_of x) ((first + past) / 2)) ≤ key = rw anchor-is at a in
        record {
          fuel = p.fuel - 1;
          low = omega arith;
          high = high;
          enough = omega arith;
          same = ap (λ (k : ℕ). probe h x key (p.fuel - 1) (k + 1) past) m ∙ sym (one-probe (p.fuel - 1) more-fuel ∙ rw (le-leb _ key low)) ∙ p.same;
        }

    pub probes-below : key < anchor → Probes first middle
    probes-below a =
        let e : past ≤ first + p.fuel = p.enough in
        let high : past ≤ n = p.high in
        let up : key < be 8 x (segment_at h (size_of x) ((first + past) / 2)) = rw anchor-is at a in
        record {
          fuel = p.fuel - 1;
          low = omega arith;
          high = omega arith;
          enough = omega arith;
          same = ap (probe h x key (p.fuel - 1) first) m ∙ sym (one-probe (p.fuel - 1) more-fuel ∙ rw (lt-leb _ key up)) ∙ p.same;
        }

  pub probes-end : {first past : ℕ} → Probes first past → past ≤ first → first ≡ probe h x key n 0 n
  unfolding probe
  probes-end {first} {past} p l = sym (over p.fuel) ∙ p.same
    where
      over : (k : ℕ) → probe h x key k first past ≡ first
      over zero = refl
      over (suc k) = rw (le-leb past first l)

  -- the search's answer
  pub start-zero : {r : ℕ} → r ≡ probe h x key n 0 n → r ≡ 0 → 0 ≡ start h x key
  unfolding start
  start-zero {r} e z = sym (ap pred (sym (e ∙ ap₂ (λ (k m : ℕ). probe h x key k 0 m) f.count f.count) ∙ z))

  pub start-some : {r : ℕ} → r ≡ probe h x key n 0 n → r - 1 ≡ start h x key
  unfolding start
  start-some {r} e = sub-one r ∙ ap pred (e ∙ ap₂ (λ (k m : ℕ). probe h x key k 0 m) f.count f.count)
