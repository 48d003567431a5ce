use Rattle.std.proofs.Common.{ℕ, get_or, ap, ◌∙◌, arith}
use Rattle.tray.proofs.Tray.count.Goals as goal

pub returns : goal.returns
returns c =
    let f = c.args.self.now.frame in
    let e = ap (λ (i : ℕ). get_or c.args.self.now.counts i 0) c.from.ensures ∙ f.counts c.args.r.0 c.requires in
    record { value = e; upper_bound = omega (arith, e, f.at.frame.counts c.args.r.0 c.requires) }
