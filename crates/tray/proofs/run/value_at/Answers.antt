-- `tray::run::value_at` meets its contract: a value is written by its halves.
use mathlib.Core.Path.{refl}
use Rattle.tray.proofs.RunCode.{value-is}
use native.Mathlib.Omega.{arith}
use Rattle.tray.proofs.run.value_at.Goals as goal

pub returns : goal.returns
returns c =
    let put82 = c.write-2 in
    let big82 = c.read-2 in
    let back = c in
    let write = back.write in
    let read = back.read in
    let usize-of-u16 = back.from in
    value-is _ _ _ refl (omega (arith, usize-of-u16.ensures)) read.ensures big82.ensures (omega arith) write.ensures put82.ensures
