-- Only an unmarked selector has its key read.
use Rattle.std.proofs.Common.{◌∙◌, ap, le-ltb}
use Rattle.tray.specs.Run.{record_at}
use Rattle.walk.specs.Code.Seek.{stays-below, stays-marked}
use Rattle.seek_walk.proofs.stays.Goals as goal

pub returns-then-v-lt64 : goal.returns-then-v-lt64
returns-then-v-lt64 c = stays-below _ _ _ _ c.if-v-lt64.true (c.key_at.ensures ∙ ap (λ run. (record_at run c.args.p.0).key) c.run.ensures.bytes)

pub returns-else-v-lt64 : goal.returns-else-v-lt64
returns-else-v-lt64 c = le-ltb _ _ c.if-v-lt64.false ∙ stays-marked _ _ _ _ c.if-v-lt64.false
