-- `index_scan::segment::used_up` meets its contract: the places of the tray's runs are their counts, or not.
use Rattle.index.specs.Scan.Code.{used-is}
use native.Mathlib.Omega.{arith}
use Rattle.index_scan.proofs.segment.used_up.Goals as goal

pub returns : goal.returns
returns c =
    let frame = c.args.tray.now.frame in
    let same = c.eq.ensures in
    used-is _ _ _ _ (omega (arith, frame.few)) (omega (arith, frame.few, frame.room)) (λ r l. frame.counts r (omega (arith, frame.runs))) (rw c.from-h.ensures at same)
