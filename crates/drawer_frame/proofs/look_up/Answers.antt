-- `drawer_frame::look_up` meets its contract: a way out for each answer of get.
use Rattle.std.proofs.Common.{refl, ◌∙◌, ap, Ok}
use Rattle.drawer_spec.specs.Line.{answer, after_get}
use Rattle.drawer_spec.specs.Line.Code.{refusal-said}
use Rattle.drawer_spec.specs.Turns.{said-only, looked}
use Rattle.drawer_frame.proofs.look_up.Goals as goal

pub returns-in-Ok-Some : goal.returns-in-Ok-Some
unfolding answer after_get
returns-in-Ok-Some g c =
    said-only refl refl refl
    (looked c.args.drawer.now c.as_slice.ensures c.as_slice-2.ensures c.args.key.now c.get.ensures (c.in-Ok-Some.is ∙ ap Ok c.in-Ok-Some.field-0-is))
    c.say.ensures

pub returns-in-Ok-None : goal.returns-in-Ok-None
unfolding answer after_get
returns-in-Ok-None g c =
    said-only refl refl refl
    (looked c.args.drawer.now c.as_slice.ensures c.as_slice-2.ensures c.args.key.now c.get.ensures (c.in-Ok-None.is ∙ ap Ok c.in-Ok-None.field-0-is))
    c.say-in-Ok-None.ensures

pub returns-in-Err : goal.returns-in-Err
unfolding after_get
returns-in-Err g c =
    said-only refl refl refl (looked c.args.drawer.now c.as_slice.ensures c.as_slice-2.ensures c.args.key.now c.get.ensures c.in-Err.is)
    (refusal-said 3 _ _ c.refuse.ensures)
