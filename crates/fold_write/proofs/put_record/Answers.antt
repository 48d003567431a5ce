-- `fold_write::put_record` meets its contract: three numbers and a byte, one right after the other.
use Rattle.std.proofs.Common.{refl}
use Rattle.number.proofs.Known.{bytes-known}
use Rattle.fold_write.specs.Write.Writes.{record-put}
use Rattle.fold_write.proofs.put_record.Goals as goal

pub returns : goal.returns
returns c =
    record-put _ _ _ _ (bytes-known _ c.type_inv.t) c.requires.1 c.read-key.ensures refl c.read-high.ensures c.read-low.ensures
    c.write.ensures c.write-2.ensures c.write-3.ensures
