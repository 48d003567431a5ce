-- A number that is no byte is above 255.
use Rattle.std.specs.Prelude.{◌≡◌, ℕ, ◌<◌, Result, Ok, Err, OkIff}
use Rattle.std.specs.Result.{result_unwrap_or}
use Rattle.std.proofs.Common.{◌∙◌, arith}
use Rattle.std.proofs.Math.Nat.{lt_of_not-le}
use Rattle.theorems.specs.Wide.{narrowed, narrow-low, narrow_high}
use Rattle.kanyorith.proofs.told.narrow.Goals as goal

byte-or : {E : Type 0} (r : Result ℕ E) (n : ℕ) → OkIff r (n < 256) n → result_unwrap_or r 255 ≡ narrowed n
byte-or (Ok x) n h = h.1 ∙ narrow-low (omega (arith, h.0))
byte-or (Err e) n h = narrow_high (lt_of_not-le (λ l. h (omega (arith, l))))

pub returns : goal.returns
returns c = c.unwrap_or.ensures ∙ byte-or _ _ c.try_from.ensures
