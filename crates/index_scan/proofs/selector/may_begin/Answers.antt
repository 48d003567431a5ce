-- `index_scan::selector::may_begin` meets its contract: the marks are computed as numbers.
use Rattle.index.specs.Scan.Code.Select.{begin-is}
use Rattle.index_scan.proofs.selector.may_begin.Goals as goal

pub returns : goal.returns
returns c = begin-is _ _ c.from.ensures
