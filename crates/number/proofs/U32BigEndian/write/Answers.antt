-- The 4 stores leave `put` of the bytes.
use Rattle.std.proofs.Common.{arith}
use native.Mathlib.Numerals.{towards_suc}
use Rattle.number.proofs.Stored.{stored, bytes_4}
use Rattle.number.proofs.U32BigEndian.write.Goals as goal

pub returns : goal.returns
returns c = simp towards_suc (stored c.args.out.now c.args.at 4 c.args.self (bytes_4 c.args.self (omega arith)) c.requires)
