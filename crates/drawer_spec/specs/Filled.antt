-- What a buffer is filled with.
use Rattle.std.specs.Prelude.{◌≡◌, ℕ, ◌+◌, List, ◌++◌, length, take}
use Rattle.std.proofs.Common.{sym, ap, ◌∙◌, arith, length-append, length-take-le}
use Rattle.drawer_spec.specs.declared.Filled.{Filled}

-- the first bytes of a buffer
abbrev pub filled : {n : ℕ} → Filled n → List ℕ
filled b = take b.used b.bytes

-- as many as it says
pub length-filled : {n : ℕ} (b : Filled n) → length (filled b) ≡ b.used
length-filled b = length-take-le b.used b.bytes (omega (arith, b.whole, b.fits))

-- more of it is filled
pub grown : {n : ℕ} (b b₁ : Filled n) (ys : List ℕ) → filled b₁ ≡ filled b ++ ys → b₁.used ≡ b.used + length ys
grown b b₁ ys e =
    sym (length-filled b₁) ∙ ap length e ∙ length-append (filled b) ys ∙ ap (λ (n : ℕ). n + length ys) (length-filled b)
