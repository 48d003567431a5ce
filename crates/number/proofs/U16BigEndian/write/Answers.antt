-- The 2 stores leave `put` of the bytes.
use Rattle.std.proofs.Common.{arith}
use native.Mathlib.Numerals.{towards_suc}
use Rattle.number.proofs.Stored.{stored, bytes_2}
use Rattle.number.proofs.U16BigEndian.write.Goals as goal

pub returns : goal.returns
returns c = simp towards_suc (stored c.args.out.now c.args.at 2 c.args.self (bytes_2 c.args.self (omega arith)) c.requires)
