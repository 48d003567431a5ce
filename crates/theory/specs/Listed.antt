-- A function at numbers in a row, as a list: how the runs and records that bytes mean are listed. Its laws: `proofs/Listed/Laws.antt`.
use Rattle.std.specs.Prelude.{ℕ, zero, suc, List, [], ◌∷◌}

-- f at the n numbers from i on
unfoldable pub listed : {A : Type 0} → ℕ → ℕ → (ℕ → A) → List A
listed zero i f = []
listed (suc n) i f = f i ∷ listed n (suc i) f
