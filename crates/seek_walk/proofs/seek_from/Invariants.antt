use Rattle.walk.specs.Code.Seek.{Inner, Outer}
use Rattle.seek_walk.proofs.seek_from.Given as goal

abbrev pub invariant-loop-s : goal.invariant-loop-s
invariant-loop-s l = Inner l.indexed.tray.bytes.now l.index.bytes.now l.index.size l.index.segments l.key l.g l.places l.s

abbrev pub invariant-loop-g : goal.invariant-loop-g
invariant-loop-g l = Outer l.indexed.tray.bytes.now l.index.bytes.now l.index.segments l.key l.initial.g l.g
