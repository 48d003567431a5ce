-- Each arm is a case of the kind byte.
use Rattle.std.proofs.Common.{arith}
use Rattle.tray.proofs.RunCode.{kind-live, kind-gone, kind-other}
use Rattle.tray_check.proofs.run.kind_right.Goals as goal

pub returns-in-0 : goal.returns-in-0
returns-in-0 c = kind-live _ _ c.in-0.is

pub returns-in-1 : goal.returns-in-1
returns-in-1 c = kind-gone _ _ c.in-1.is c.value_is_zero.ensures

pub returns-in_default : goal.returns-in_default
returns-in_default c = kind-other _ _ (λ z. omega (arith, z)) (λ z. omega (arith, z))
