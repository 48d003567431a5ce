-- `build::check_room` meets its contract: the room is surely enough, or is after counting, or is not.
use Rattle.std.proofs.Common.{◌+◌, ap, arith}
use Rattle.refusal.specs.declared.Refusal.TheVariants.{Room}
use Rattle.build.specs.Answers.{size_is, records-low, part_low, most-room}
use Rattle.build.proofs.check_room.Goals as goal

pub overflow_cast-most : goal.overflow_cast-most
overflow_cast-most c = omega (arith, part_low c.args.n (c.from.result + 1) (records-low c.requires))

pub returns-then-segment_at-room : goal.returns-then-segment_at-room
returns-then-segment_at-room c = most-room c.requires c.args.tray.now.frame.runs c.from.ensures c.segment_at.ensures c.if-segment_at-room.true

pub returns-then-room-size : goal.returns-then-room-size
returns-then-room-size c =
    let e = size_is _ _ c.args.tray.now.frame.runs c.write_segments-s.ensures.value c.segment_at-size.ensures in
    (omega (arith, e), ap Room e)

pub returns : goal.returns
returns c = omega (arith, size_is c.args.tray.now.bytes.now c.args.d c.args.tray.now.frame.runs c.write_segments-s.ensures.value c.segment_at-size.ensures)
