-- `fold_write::put_body` meets its contract: two stretches of the tray and the kept records between them.
use Rattle.std.proofs.Common.{refl, sym, arith}
use Rattle.std.proofs.lemmas.List.{length-map}
use Rattle.tray.specs.Run.{record_from}
use Rattle.fold_write.specs.Write.Trays.{body-put}
use Rattle.fold_write.proofs.put_body.Goals as goal

pub returns : goal.returns
returns c =
    body-put _ _ _ _ _ _ c.before-before.ensures c.after-after.ensures (omega (arith, c.requires.room))
    (sym (length-map c.args.kept.now (record_from c.args.runs.now.tray.bytes.now))) refl refl c.copy.ensures c.put_kept.ensures c.copy-2.ensures
