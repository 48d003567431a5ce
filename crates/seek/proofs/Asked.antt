-- What the tray and the index that were opened answer is what the bytes given do.
use Rattle.std.specs.Prelude.{◌≡◌, ℕ, List}

pub asked : {A : Type 0} (of : List ℕ → List ℕ → ℕ → A) {t x tray index : List ℕ} {key k : ℕ} {a : A} → tray ≡ t → index ≡ x → k ≡ key → a ≡ of tray index k → a ≡ of t x key
asked of p q r e = cc
