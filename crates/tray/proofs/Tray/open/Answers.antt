use Rattle.std.proofs.Common.{refl, sym, ◌∙◌}
use Rattle.tray.proofs.FrameCode.{header_is, no-header}
use Rattle.tray.proofs.Tray.open.Goals as goal

pub count_runs-requires : goal.count_runs-requires
count_runs-requires c = header_is _ (sym c.header_fits.ensures ∙ c.if-header_fits.true)

pub returns : goal.returns
returns c = (no-header _ (sym c.header_fits.ensures ∙ c.if-header_fits.false), refl)
