-- The places on entering a segment, as the code loads them: from the first run up.
--     loaded_from, loaded-is          the places on entering the segment that starts at a byte
--     Loading, loading-none, loading-run, loading-rest, loading-end     the places before r are loaded
use Rattle.std.specs.Prelude.{◌≡◌, ℕ, ◌+◌, ◌≤◌, ◌<◌, cond, List, length, get_or, set, ltb}
use Rattle.std.proofs.Common.{sym, ap, ◌∙◌, arith, zero-add, length-set, ext_get_or, get_or-set_same, get_or-set_other, le-ltb, lt-ltb}
use Rattle.theory.specs.Tests.{order}
use Rattle.theory.specs.Listed.{listed}
use Rattle.theory.proofs.Listed.Laws.{length-listed}
use Rattle.tray.specs.declared.Place.{Place}
use Rattle.index.specs.Layout.{size_of, segment_at, offset_from}
use Rattle.index.specs.Layout.Laws.{get_or-listed}
use Rattle.walk.specs.Walk.{loaded}
use Rattle.walk.specs.Code.{placed, numbers, get_or-numbers, length-numbers}

-- the place of run r on entering the segment that starts at a byte
abbrev pub loaded_place : ℕ → List ℕ → ℕ → ℕ → ℕ
loaded_place h x at r = cond (ltb r h) (offset_from x at r) 0

-- the places
unfoldable pub loaded_from : ℕ → List ℕ → ℕ → List ℕ
loaded_from h x at = listed 63 0 (λ r. cond (ltb r h) (offset_from x at r) 0)

pub loaded-is : (h : ℕ) (x : List ℕ) (g at : ℕ) {d : ℕ} → d ≡ size_of x → at ≡ segment_at h d g → loaded_from h x at ≡ loaded h x g
unfolding loaded_from loaded
loaded-is h x g at {d} size e = ap (loaded_from h x) (e ∙ ap (λ (k : ℕ). segment_at h k g) size)

-- the places before r are loaded
pub record Loading (h : ℕ) (x : List ℕ) (at : ℕ) (places : List Place) (r : ℕ) : Type 0 where
  pub room : length places ≡ 63
  pub done : (i : ℕ) → i < r → (get_or places i (placed 0)).0 ≡ loaded_place h x at i

pub loading-none : {h : ℕ} {x : List ℕ} {at : ℕ} {places : List Place} → length places ≡ 63 → Loading h x at places 0
loading-none room = record { room = room; done = λ i l. absurd (omega arith) }

loading-more : {h : ℕ} {x : List ℕ} {at r v : ℕ} {places : List Place} → Loading h x at places r → r < 63 → v ≡ loaded_place h x at r → Loading h x at (set places r (placed v)) (r + 1)
loading-more {h} {x} {at} {r} {v} {places} c l read =
    let room : length places ≡ 63 = c.room in
    record {
      room = simp length-set room;
      done = λ i k.
          order i r
          (λ b. ap (λ (p : Place). p.0) (get_or-set_other places r i (placed v) (placed 0) (λ z. omega arith)) ∙ c.done i b)
          (λ z. ap (λ (j : ℕ). (get_or (set places r (placed v)) j (placed 0)).0) z
          ∙ ap (λ (p : Place). p.0) (get_or-set_same places r (placed v) (placed 0) (omega arith))
          ∙ read
          ∙ ap (loaded_place h x at) (sym z))
          (λ a. absurd (omega arith));
    }

-- a run's offset
pub loading-run : {h : ℕ} {x : List ℕ} {at r v : ℕ} {places : List Place} → Loading h x at places r → r < h → h ≤ 63 → v ≡ offset_from x at r → Loading h x at (set places r (placed v)) (r + 1)
loading-run {h} {r = r} c l few read = loading-more c (omega arith) (read ∙ sym (rw (lt-ltb r h l)))

-- 0, for what is no run
pub loading-rest : {h : ℕ} {x : List ℕ} {at r : ℕ} {places : List Place} → Loading h x at places r → h ≤ r → r < 63 → Loading h x at (set places r (placed 0)) (r + 1)
loading-rest {h} {r = r} c l low = loading-more c low (sym (rw (le-ltb r h l)))

pub loading-end : {h : ℕ} {x : List ℕ} {at r : ℕ} {places : List Place} → Loading h x at places r → 63 ≤ r → numbers places ≡ loaded_from h x at
unfolding loaded_from
loading-end {h} {x} {at} {r} {places} c m =
    ext_get_or 0 (numbers places) (listed 63 0 (loaded_place h x at))
    (long ∙ c.room ∙ sym (length-listed 63 0 (loaded_place h x at)))
    (λ i k. get_or-numbers places i ∙ c.done i (omega (arith, low i k)) ∙ sym (get_or-listed 63 0 (loaded_place h x at) i 0 (low i k) ∙ ap (loaded_place h x at) (zero-add i)))
  where
    long : length (numbers places) ≡ length places
    long = length-numbers places

    low : (i : ℕ) → i < length (numbers places) → i < 63
    low i k = let a = long in let b : length places ≡ 63 = c.room in omega arith

pub length-loaded : (h : ℕ) (x : List ℕ) (at : ℕ) → length (loaded_from h x at) ≡ 63
unfolding loaded_from
length-loaded h x at = length-listed 63 0 (λ r. cond (ltb r h) (offset_from x at r) 0)
