-- `merge::key_or` meets its contract: the key at the place, or the highest number past the end.
use Rattle.std.proofs.Common.{◌∙◌, ap, arith}
use Rattle.tray.specs.Run.{record_at}
use Rattle.merge_lead.specs.Heads.Laws.{key_has, key-past}
use Rattle.merge.proofs.key_or.Goals as goal

pub returns-then-p-count : goal.returns-then-p-count
returns-then-p-count c =
    key_has _ (omega (arith, c.count.ensures.value)) (c.key_at.ensures ∙ ap (λ s. (record_at s c.args.p.0).key) c.run.ensures.bytes)

pub returns-else-p-count : goal.returns-else-p-count
returns-else-p-count c = key-past _ (omega (arith, c.count.ensures.value))
