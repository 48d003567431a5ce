-- Edition 0's rule is a rule, for records of any sort.
use Rattle.std.proofs.Common.{◌∙◌, eqb-true, eq-eqb}
use Rattle.std.specs.Prelude.{ℕ}
use Rattle.theory.specs.Hiding.{Rule, same_key}

pub same_key-rule : {A : Type 0} (Ok : A → Type 0) (key : A → ℕ) → Rule Ok key (same_key key)
same_key-rule Ok key =
    record {
      same_key = λ a b e. eq-eqb (key a) (key b) e;
      through = λ a b c p q r x y. eq-eqb (key a) (key c) (eqb-true (key a) (key b) x ∙ eqb-true (key b) (key c) y);
    }
