use Prim.Native.Nat.{◌-◌}
use Rattle.walk.specs.Start.Code.{Probes}
use Rattle.walk.proofs.start.probed.Given as goal

abbrev pub invariant-loop-first : goal.invariant-loop-first
invariant-loop-first l = Probes l.index.bytes.now l.index.runs l.index.size l.index.segments l.key l.index.frame l.first l.past

abbrev pub decreases-loop-first : goal.decreases-loop-first
decreases-loop-first l = l.past - l.first
