-- `drawer_frame::keep_tray` meets its contract: a way out for each answer of check tray.
use Rattle.std.proofs.Common.{refl, ◌∙◌, ◌++◌, ap}
use Rattle.drawer_spec.specs.Line.{answer}
use Rattle.drawer_spec.specs.Line.Code.{refusal-said}
use Rattle.drawer_spec.specs.Turns.{tray-kept, tray-refused}
use Rattle.drawer_frame.proofs.keep_tray.Goals as goal

pub returns-in-Ok : goal.returns-in-Ok
unfolding answer
returns-in-Ok g c =
    tray-kept refl c.args.bytes.now c.check_tray.ensures c.in-Ok.is
    (c.push_slice.ensures ∙ ap (λ l. l ++ c.args.bytes.now) c.clear.ensures)
    c.clear-2.ensures
    c.say.ensures

pub returns-in-Err : goal.returns-in-Err
returns-in-Err g c =
    tray-refused refl c.args.bytes.now c.check_tray.ensures c.in-Err.is c.clear.ensures c.clear-2.ensures (refusal-said 1 _ _ c.refuse.ensures)
