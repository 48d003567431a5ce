-- `merge_lead::Heads::new` meets its contract: the highest number stands everywhere.
use Rattle.std.proofs.Common.{refl}
use Rattle.merge_lead.specs.Heads.Laws.{padded-none}
use Rattle.merge_lead.proofs.Heads.new.Goals as goal

pub returns : goal.returns
returns c = record { padded = padded-none; nexts = refl; tops = refl; firsts = refl }
