-- `fold_write::write_tray` meets its contract: the head, and the body right after it.
use Rattle.std.proofs.Common.{◌∙◌, sym, ap, arith, length}
use Rattle.std.proofs.lemmas.List.{length-map}
use Rattle.tray.specs.Run.{record_from}
use Rattle.fold_write.specs.Write.Trays.{laid-parts, tray-put}
use Rattle.fold_write.proofs.write_tray.Goals as goal

pub put_tray_head-requires : goal.put_tray_head-requires
put_tray_head-requires c =
    let number = sym (length-map c.args.kept.now (record_from c.args.runs.now.tray.bytes.now)) ∙ ap length c.requires.are in
    omega (arith, (laid-parts c.args.runs.now.holds number).size, c.requires.room)

pub put_body-requires-clause-room : goal.put_body-requires-clause-room
put_body-requires-clause-room c =
    let number = sym (length-map c.args.kept.now (record_from c.args.runs.now.tray.bytes.now)) ∙ ap length c.requires.are in
    omega (arith, (laid-parts c.args.runs.now.holds number).size, c.requires.room, c.put_tray_head.auto.out, c.left.ensures, c.from.ensures)

pub returns : goal.returns
returns c =
    tray-put c.args.runs.now.holds _ _ (sym (length-map c.args.kept.now (record_from c.args.runs.now.tray.bytes.now))) c.requires.are
    (omega (arith, c.left.ensures, c.from.ensures)) c.put_tray_head.ensures c.put_body.ensures
