-- `merge::key_after` meets its contract: past the end every key is the highest number.
use Rattle.std.proofs.Common.{arith}
use Rattle.merge_lead.specs.Heads.Leads.Laws.{after-past}
use Rattle.merge.proofs.key_after.Goals as goal

pub returns-else-p-count : goal.returns-else-p-count
returns-else-p-count c = after-past _ (omega (arith, c.count.ensures.value))
