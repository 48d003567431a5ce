use mathlib.Core.Path.{◌≡◌}
use Rattle.std.proofs.Common.{true}
use Rattle.index.specs.Scan.{heads_above}
use Rattle.index_scan.proofs.segment.heads_above.Given as goal

abbrev pub invariant-loop-r : goal.invariant-loop-r
invariant-loop-r l = heads_above l.tray.bytes.now l.places l.last l.r ≡ true
