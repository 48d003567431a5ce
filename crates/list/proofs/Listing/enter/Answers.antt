use Rattle.std.proofs.Common.{ℕ, List, ap, sym, ◌∙◌}
use Rattle.walk.specs.Code.{numbers, spot_of}
use Rattle.walk.specs.Code.Load.{loaded_from}
use Rattle.list.specs.Steps.{entry-same, entry-other}
use Rattle.list.proofs.Listing.enter.Goals as goal

pub returns-then-g-self-clause-spot : goal.returns-then-g-self-clause-spot
unfolding spot_of
returns-then-g-self-clause-spot c =
    let e = c.if-g-self.true in
    ap (λ (k : ℕ). record { segment = k; selector = c.args.self.now.from.now.selector; places = numbers c.args.self.now.from.now.places }) e ∙ sym (entry-same _ _ _ _ e)

pub returns-clause-spot : goal.returns-clause-spot
unfolding spot_of
returns-clause-spot c =
    ap (λ (ps : List ℕ). record { segment = c.args.g.0; selector = 0; places = ps }) (c.load.ensures ∙ ap (loaded_from _ _) c.segment_at.ensures.value)
    ∙ sym (entry-other _ _ _ _ c.if-g-self.false)
