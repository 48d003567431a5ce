-- The places of a cursor copied as numbers, as the code does it: one by one.
--     Copying, copy-none, copy_more, copy-end    how far they are copied
use Rattle.std.specs.Prelude.{◌≡◌, refl, ℕ, ◌+◌, ◌≤◌, ◌<◌, List, length, get_or, set, replicate}
use Rattle.std.proofs.Common.{sym, ap, ◌∙◌, arith, length-set, ext_get_or, get_or-set_same, get_or-set_other}
use Rattle.theory.specs.Tests.{order}
use Rattle.tray.specs.declared.Place.{Place}
use Rattle.walk.specs.Code.{placed, numbers, get_or-numbers, length-numbers}

-- the places before r are copied
pub record Copying (places : List Place) (ps : List ℕ) (r : ℕ) : Type 0 where
  pub room : length ps ≡ 63
  pub done : (i : ℕ) → i < r → get_or ps i 0 ≡ (get_or places i (placed 0)).0

pub copy-none : (places : List Place) → Copying places (replicate 63 0) 0
copy-none places = record { room = refl; done = λ i l. absurd (omega arith) }

pub copy_more : {places : List Place} {ps : List ℕ} {r : ℕ} → Copying places ps r → r < 63 → Copying places (set ps r (get_or places r (placed 0)).0) (r + 1)
copy_more {places} {ps} {r} c l =
    let room : length ps ≡ 63 = c.room in
    record {
      room = simp length-set room;
      done = λ i k.
          order i r
          (λ b. get_or-set_other ps r i (get_or places r (placed 0)).0 0 (λ z. omega arith) ∙ c.done i b)
          (λ z. ap (λ (j : ℕ). get_or (set ps r (get_or places r (placed 0)).0) j 0) z
          ∙ get_or-set_same ps r (get_or places r (placed 0)).0 0 (omega arith)
          ∙ ap (λ (j : ℕ). (get_or places j (placed 0)).0) (sym z))
          (λ a. absurd (omega arith));
    }

pub copy-end : {places : List Place} {ps : List ℕ} {r : ℕ} → Copying places ps r → 63 ≤ r → length places ≡ 63 → ps ≡ numbers places
copy-end {places} {ps} c l e =
    let room : length ps ≡ 63 = c.room in
    ext_get_or 0 ps (numbers places) (c.room ∙ sym (length-numbers places ∙ e)) (λ i k. c.done i (omega arith) ∙ sym (get_or-numbers places i))
