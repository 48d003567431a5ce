-- `build::write_index` meets its contract: the header stands before the segments.
use Rattle.std.proofs.Common.{arith}
use Rattle.tray.specs.Meaning.{runs_of}
use Rattle.build.specs.Answers.{size_is, index_is, size-least}
use Rattle.build.proofs.write_index.Goals as goal

pub put_header-requires : goal.put_header-requires
put_header-requires c =
    omega (arith, c.write_segments-s.auto.out, c.requires.room, size-least c.args.d (runs_of c.args.tray.now.bytes.now))

pub returns-clause-value : goal.returns-clause-value
returns-clause-value c = size_is _ _ c.args.tray.now.frame.runs c.write_segments-s.ensures.value c.segment_at.ensures

pub returns-clause-out_after : goal.returns-clause-out_after
returns-clause-out_after c =
    index_is _ _ c.args.tray.now.frame.runs c.write_segments-s.ensures.value c.args.out.now
    (omega (arith, c.requires.room, size-least c.args.d (runs_of c.args.tray.now.bytes.now)))
    (c.write_segments-s.ensures.out_after c.requires.room) c.put_header.ensures
