-- `merge_lead::Heads::next` meets its contract.
use Rattle.std.proofs.Common.{arith}
use Rattle.merge_lead.specs.Heads.Leads.Next.{comes-keyed, comes-left}
use Rattle.merge_lead.proofs.Heads.next.Goals as goal

pub returns-then-l-lt18446744073709551615 : goal.returns-then-l-lt18446744073709551615
returns-then-l-lt18446744073709551615 c = comes-keyed c.requires.heading c.requires.ended c.leader-l.ensures (omega (arith, c.leader-l.type_inv)) (omega arith)

pub returns : goal.returns
returns c = comes-left c.requires.heading c.requires.ended c.leader-l.ensures (omega (arith, c.leader-l.type_inv)) (omega arith) c.in_ok-r.ensures
