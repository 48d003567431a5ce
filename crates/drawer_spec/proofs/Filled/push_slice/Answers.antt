-- `drawer_spec::Filled::push_slice` meets its contract: what was copied stands behind what was filled.
use Rattle.std.proofs.Common.{◌∙◌, ap, arith, take}
use Rattle.number.proofs.Big.Writes.{take_put}
use Rattle.drawer_spec.proofs.Filled.push_slice.Goals as goal

pub returns : goal.returns
returns g c = ap (take _) c.copy.ensures ∙ take_put _ _ _ (omega arith)
