-- `tray::run::key_at` meets its contract: the bytes read are those of the place.
use Rattle.tray.specs.Run.{record_from}
use Prim.Native.Nat.{ℕ, ◌*◌}
use mathlib.Core.Path.{ap, ◌∙◌}
use Rattle.tray.proofs.run.key_at.Goals as goal

pub returns : goal.returns
unfolding record_from
returns c =
    let usize-of-u16 = c.from in
    let args = c.args in
    c.read.ensures ∙ ap (λ (n : ℕ). (record_from args.run.now (25 * n)).key) usize-of-u16.ensures
