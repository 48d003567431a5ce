-- `drawer_frame::keep_index` meets its contract: a way out for each answer of build.
use Rattle.std.proofs.Common.{refl, arith}
use Rattle.drawer_spec.specs.Line.{answer}
use Rattle.drawer_spec.specs.Line.Code.{index-front, refusal-said}
use Rattle.drawer_spec.specs.Turns.{index_kept, index-refused}
use Rattle.drawer_frame.proofs.keep_index.Goals as goal

pub invariant_of-drawer-in-Ok : goal.invariant_of-drawer-in-Ok
invariant_of-drawer-in-Ok g c =
    let index = c.args.drawer.now.index in record {
      whole = omega (arith, c.build.auto);
      fits = (index-front c.as_slice.result.now c.args.d index.bytes index.whole c.build.ensures.value c.build.ensures.out_after c.in-Ok.is).fits;
    }

pub returns-in-Ok : goal.returns-in-Ok
unfolding answer
returns-in-Ok g c =
    index_kept refl refl c.args.d c.as_slice.ensures c.build.ensures.value c.build.ensures.out_after c.in-Ok.is refl c.as_slice-in-Ok.ensures
    c.say.ensures

pub returns-in-Err : goal.returns-in-Err
returns-in-Err g c = index-refused refl refl c.args.d c.as_slice.ensures c.build.ensures.value c.in-Err.is c.clear.ensures (refusal-said 2 _ _ c.refuse.ensures)
