-- `tray::frame::count_of` meets its contract: the bytes read are those of the count.
use Rattle.tray.specs.Frame.{count_of}
use Rattle.number.specs.Big.{be}
use Prim.Native.Nat.{ℕ, ◌+◌, ◌*◌}
use mathlib.Core.Path.{ap, ◌∙◌}
use Rattle.tray.proofs.frame.count_of.Goals as goal

pub returns : goal.returns
unfolding count_of
returns c =
    let usize-of-u8 = c.from in
    let args = c.args in
    c.read.ensures ∙ ap (λ (n : ℕ). be 2 args.t.now (4 + 2 * n)) usize-of-u8.ensures
