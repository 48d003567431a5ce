-- Bytes copied one by one, as the code does it.
--     Copying, copying-none, copying-more, copying-end      how far they are copied
use Rattle.std.specs.Prelude.{◌≡◌, refl, ℕ, suc, ◌+◌, ◌≤◌, ◌<◌, List, length, get_or, drop, set}
use Rattle.std.proofs.Common.{sym, ap, ◌∙◌, add-zero, add-one, arith, length-set, drop_of_length-le, drop-cons}
use Rattle.number.specs.Big.{put}
use Rattle.number.proofs.Big.Writes.{put-nil, put-cons}
use Rattle.number.specs.Big.Copies.{Copying}

pub copying-none : (part : List ℕ) (at : ℕ) (out : List ℕ) → Copying part at out out 0
copying-none part at out = record { within = omega arith; room = refl; same = rw add-zero }

pub copying-more : {part : List ℕ} {at : ℕ} {out₀ out : List ℕ} {i : ℕ} → Copying part at out₀ out i → i < length part → at + i < length out
    → Copying part at out₀ (set out (at + i) (get_or part i 0)) (i + 1)
copying-more {part} {at} {out₀} {out} {i} w l h =
    let next : at + (i + 1) ≡ suc (at + i) = omega arith in
    record {
      within = omega arith;
      room = simp length-set w.room;
      same = rw (next, add-one) (put-cons out (at + i) (get_or part i 0) (drop (suc i) part) h ∙ (rw (drop-cons part i 0 l) at w.same));
    }

pub copying-end : {part : List ℕ} {at : ℕ} {out₀ out : List ℕ} {i : ℕ} → Copying part at out₀ out i → length part ≤ i → out ≡ put out₀ at part
copying-end {part} {at} {out₀} {out} {i} w l =
    sym (put-nil out (at + i)) ∙ ap (put out (at + i)) (sym (drop_of_length-le part {i = i} l)) ∙ w.same
