-- Three writes, one right after another.
use Rattle.std.proofs.Common.{ap, ℕ, ◌*◌, arith}
use Rattle.list.specs.Page.Code.{put-listed}
use Rattle.list.proofs.points.write_from.Goals as goal

pub returns : goal.returns
returns c =
    put-listed _ _ _ _ (omega arith) (omega arith) (ap (λ (k : ℕ). 25 * k) c.from-from.ensures)
    c.read.ensures c.read-high.ensures c.read-low.ensures c.write.ensures c.write-2.ensures c.write-3.ensures
