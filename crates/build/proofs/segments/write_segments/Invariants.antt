-- g segments have been cut; where all have room, they have been written, and what is left to write completes them.
use Rattle.std.proofs.Common.{◌≤◌, length}
use Rattle.tray.specs.Meaning.{runs_of}
use Rattle.build_spec.specs.Build.{index_size}
use Rattle.build_segment.specs.Segment.Loops.{Merging, Writing}
use Rattle.build.proofs.segments.write_segments.Given as goal

abbrev pub invariant-loop-left : goal.invariant-loop-left
invariant-loop-left l =
    record {
      merging : Merging l.tray.bytes.now l.d l.places l.left l.g;
      writing : index_size l.d (runs_of l.tray.bytes.now) ≤ length l.initial.out → Writing l.tray.bytes.now l.d l.initial.out l.places l.out l.left l.g;
    }

abbrev pub decreases-loop-left : goal.decreases-loop-left
decreases-loop-left l = l.left
