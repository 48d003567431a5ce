-- `drawer_frame::list` meets its contract: a way out for each answer of sheet.
use Rattle.std.proofs.Common.{refl, arith}
use Rattle.drawer_spec.specs.Line.{answer}
use Rattle.drawer_spec.specs.Line.Code.{sheet-front, refusal-said}
use Rattle.drawer_spec.specs.Turns.{said-only, listed, list-refused}
use Rattle.drawer_frame.proofs.list.Goals as goal

pub overflow_mul-end : goal.overflow_mul-end
overflow_mul-end g c =
    omega (
      arith,
      (sheet-front c.as_slice.result.now c.as_slice-2.result.now c.args.prefix.now c.args.drawer.now.room (omega arith) c.sheet.ensures.value
          c.sheet.ensures.out_after c.in-Ok.is).fits,
    )

pub shared_ref_as_front-say : goal.shared_ref_as_front-say
shared_ref_as_front-say g c =
    (sheet-front c.as_slice.result.now c.as_slice-2.result.now c.args.prefix.now c.args.drawer.now.room (omega arith) c.sheet.ensures.value
    c.sheet.ensures.out_after c.in-Ok.is).fits

pub returns-in-Ok : goal.returns-in-Ok
unfolding answer
returns-in-Ok g c =
    said-only refl refl refl
    (listed c.args.drawer.now c.as_slice.ensures c.as_slice-2.ensures c.args.prefix.now c.args.drawer.now.room (omega arith) c.sheet.ensures.value c.sheet.ensures.out_after
    c.in-Ok.is)
    c.say.ensures

pub returns-in-Err : goal.returns-in-Err
returns-in-Err g c =
    said-only refl refl refl
    (list-refused c.args.drawer.now c.as_slice.ensures c.as_slice-2.ensures c.args.prefix.now c.args.drawer.now.room (omega arith) c.sheet.ensures.value c.in-Err.is)
    (refusal-said 4 _ _ c.refuse.ensures)
