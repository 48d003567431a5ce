-- Nothing where there is too little room, and else what is remembered, or a second walk.
use Rattle.std.proofs.Common.{refl, arith}
use Rattle.sheet.specs.Write.{leaves-written, leaves-short, leaves-held}
use Rattle.sheet.proofs.write.write_counted.Goals as goal

pub returns-then-room-k : goal.returns-then-room-k
returns-then-room-k c = leaves-short _ _ _ _ _ c.if-room-k.true

pub returns-then-held-count : goal.returns-then-held-count
returns-then-held-count c = leaves-held _ _ _ _ _ c.if-held-count.true (omega arith) c.put_all.ensures

pub returns : goal.returns
returns c = leaves-written _ _ _ _ _ c.page_from.result c.page_from.new.out refl (omega arith) c.page_from.ensures
