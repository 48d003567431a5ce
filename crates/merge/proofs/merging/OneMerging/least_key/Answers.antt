-- The run's next key is the least.
use Rattle.merge_lead.specs.Heads.{next_key}
use Rattle.merge.proofs.One.{one-least}
use Rattle.merge.proofs.merging.OneMerging.least_key.Goals as goal

pub returns : goal.returns
unfolding next_key
returns c = one-least c.args.tray.now _ c.requires.one-run c.key_or.ensures
