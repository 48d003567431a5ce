-- The number decides whose figure it is.
use Rattle.std.proofs.Common.{◌≡◌, ℕ, ap, sym, ◌∙◌}
use Rattle.refusal.specs.declared.Verdict.{Verdict}
use Rattle.refusal.specs.Table.{told}
use Rattle.theorems.specs.Told.{count_told}
use Rattle.theorems.specs.Wide.{own-there, own-else}
use Rattle.kanyorith.proofs.told.count_own.Goals as goal

pub returns-then-n-from : goal.returns-then-n-from
returns-then-n-from c =
    let same : c.count-n.result ≡ c.args.at = c.if-n-from.true ∙ c.from.ensures in
    ap (λ (k : ℕ). told k c.args.own) same
    ∙ own-there (count_told c.args.a) c.args.own (sym (ap (λ (v : Verdict). v.number) c.count-n.ensures) ∙ same)

pub returns-else-n-from : goal.returns-else-n-from
returns-else-n-from c =
    c.count-n.ensures
    ∙ own-else (count_told c.args.a) c.args.at c.args.own (λ z. c.if-n-from.false (ap (λ (v : Verdict). v.number) c.count-n.ensures ∙ z ∙ sym c.from.ensures))
