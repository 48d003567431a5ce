-- `hexadecimal::decode` meets its contract. Invariant: the bytes from place i on have still to be written.
use Rattle.number.specs.Big.{put}
use mathlib.Core.Path.{ap, ap₂, ◌∙◌}
use Prim.Native.Nat.{◌+◌, ◌*◌}
use Rattle.hexadecimal.specs.Hex.Laws.{all_digits-at}
use Rattle.hexadecimal.specs.Hex.Code.{filling-more, filling-end, bytes_in-listed}
use native.Mathlib.Omega.{arith}
use Rattle.hexadecimal.proofs.decode.Goals as goal

pub digit_of-requires : goal.digit_of-requires
digit_of-requires c = all_digits-at _ c.requires.line_value _ (omega arith)

pub digit_of-requires-in-loop-i : goal.digit_of-requires-in-loop-i
digit_of-requires-in-loop-i c = all_digits-at _ c.requires.line_value _ (omega arith)

pub loop-i-preserved : goal.loop-i-preserved
loop-i-preserved c =
    filling-more
    c.loop-i.invariant
    (omega arith)
    (omega (arith, c.loop-i.invariant.room, c.requires))
    (ap₂ (λ h l. h * 16 + l) c.digit_of.ensures.value c.digit_of-in-loop-i.ensures.value)

pub returns : goal.returns
returns c = filling-end c.loop-i.invariant (omega arith) ∙ ap (put _ 0) (bytes_in-listed _)
