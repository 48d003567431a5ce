-- The run comes next where it is not at its end.
use Rattle.std.proofs.Common.{arith}
use Rattle.merge.proofs.One.{one-next}
use Rattle.merge.proofs.merging.OneMerging.lead.Goals as goal

pub key_at-requires : goal.key_at-requires
key_at-requires c = omega (arith, c.requires.long, c.if-p-self.true)

pub returns-then-p-self : goal.returns-then-p-self
returns-then-p-self c =
    one-next c.args._tray.now _ c.requires.one-run c.requires.run c.key_at.ensures (omega (arith, c.requires.records, c.if-p-self.true))
