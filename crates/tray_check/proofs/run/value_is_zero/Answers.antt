-- Sixteen bytes are zero where both halves are.
use Rattle.std.proofs.Common.{ℕ, eqb, sym, ap, ◌∙◌, ne_eqb}
use Rattle.tray.proofs.RunCode.{zero-value-high, zero-value-low}
use Rattle.tray_check.proofs.run.value_is_zero.Goals as goal

pub returns-then-read-eq0 : goal.returns-then-read-eq0
returns-then-read-eq0 c = ap (λ (n : ℕ). eqb n 0) c.read-then-read-eq0.ensures ∙ zero-value-low _ _ (sym c.read.ensures ∙ c.if-read-eq0.true)

pub returns-else-read-eq0 : goal.returns-else-read-eq0
returns-else-read-eq0 c = ne_eqb _ _ c.if-read-eq0.false ∙ zero-value-high _ _ (λ z. c.if-read-eq0.false (c.read.ensures ∙ z))
