use Rattle.std.specs.Prelude.{ℕ, ◌-◌}
use Rattle.std.proofs.Common.{◌∙◌, ap, ap₂}
use Rattle.walk.specs.Start.{start}
use Rattle.walk.specs.Walk.{walk_segments}
use Rattle.walk.specs.Reads.{seek_visit, seek}
use Rattle.seek_walk.proofs.seek_for.Goals as goal

pub returns : goal.returns
unfolding seek
returns c =
    let i = c.args.indexed.now in
    c.seek_from.ensures
    ∙ ap₂ (λ (n g : ℕ). walk_segments i.tray.bytes.now i.index.bytes.now (seek_visit i.tray.bytes.now c.args.key) (n - g) g 0) i.walking.index.count
    (c.start_at.ensures ∙ ap (λ (h : ℕ). start h i.index.bytes.now c.args.key) i.walking.runs)
