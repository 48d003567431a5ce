-- The merge of one run takes its record: the run is the first one.
use Rattle.std.proofs.Common.{◌≡◌, ap, ◌∙◌, arith}
use Rattle.merge_lead.specs.Heads.Leads.Laws.{raised}
use Rattle.tray.specs.Frame.{run_bytes}
use Rattle.merge.proofs.One.{kind-next, low-place}
use Rattle.merge.proofs.merging.OneMerging.take.Goals as goal

pub kind_at-requires : goal.kind_at-requires
kind_at-requires c = low-place _ c.requires.fits c.requires.r_bound

pub returns-clause-kind : goal.returns-clause-kind
returns-clause-kind c =
    let e : 0 ≡ c.args._r.0 = omega (arith, c.requires.r_bound.0, c.requires.fits.one-run, c.args._tray.now.frame.runs) in
    kind-next _ _ e (c.requires.fits.run ∙ ap (run_bytes c.args._tray.now.bytes.now) e) c.kind_at.ensures

pub returns-clause-places_after : goal.returns-clause-places_after
returns-clause-places_after c = raised _ (omega (arith, c.requires.r_bound.0, c.requires.fits.one-run, c.args._tray.now.frame.runs))
