-- The key that leads is the least.
use Rattle.std.proofs.Common.{arith}
use Rattle.merge_lead.specs.Heads.Leads.Next.{least-key, ended-all}
use Rattle.merge.proofs.merging.HeadsMerging.least_key.Goals as goal

pub returns : goal.returns
returns c = least-key c.requires (ended-all c.args.tray.now _) c.leader.ensures (omega (arith, c.leader.type_inv))
