-- The offsets from run r on, written from here, complete them.
use Rattle.build_marks.specs.Code.{offsets_from}
use Rattle.number.specs.Big.{put}
use lib.ListN.{length}
use mathlib.Core.Path.{◌≡◌}
use Prim.Native.Nat.{◌-◌, ◌+◌, ◌*◌}
use Rattle.build_segment.proofs.put_offsets.Given as goal

abbrev pub invariant-loop-r : goal.invariant-loop-r
invariant-loop-r l =
    record {
      long : length l.seg ≡ length l.initial.seg;
      same : put l.seg (8 + 2 * l.r) (offsets_from l.places (l.h - l.r) l.r) ≡ put l.initial.seg 8 (offsets_from l.places l.h 0);
    }
