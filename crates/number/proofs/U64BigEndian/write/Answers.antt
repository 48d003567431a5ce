-- Each half is written, the second right after the first, which is `put-halves`.
use Rattle.std.proofs.Common.{◌∙◌, arith}
use Rattle.number.proofs.Big.Writes.{put-halves}
use Rattle.number.proofs.U64BigEndian.write.Goals as goal

pub returns : goal.returns
returns c = c.write-2.ensures ∙ rw c.write.ensures (put-halves 4 4 c.args.self c.args.out.now c.args.at (omega arith))
