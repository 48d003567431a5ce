use mathlib.Core.Path.{◌≡◌}
use Rattle.std.proofs.Common.{true}
use Rattle.index.specs.Scan.{offsets_hold}
use Rattle.index_scan.proofs.segment.offsets_hold.Given as goal

abbrev pub invariant-loop-r : goal.invariant-loop-r
invariant-loop-r l = offsets_hold l.x l.at l.places l.r ≡ true
