-- `fold_merge::keep_all` meets its contract: record by record, as long as one comes next.
use Rattle.std.proofs.Common.{refl, subst, arith}
use Rattle.tray.specs.Meaning.Back.{fits-runs}
use Rattle.merge_lead.specs.Heads.Leads.{NextRun, NoRun}
use Rattle.fold_merge.specs.Folding.Start.{merge-short}
use Rattle.fold_merge.specs.Folding.Keeping.{merging-none, merging-more, merging-less, merging-end, merging-low}
use Rattle.fold_merge.specs.Folding.Bound.{ended-more}
use Rattle.fold_merge.proofs.keep_all.Goals as goal

pub loop-lead-init : goal.loop-lead-init
loop-lead-init c = record { heading = c.requires.heading; ended = c.requires.ended; merging = merging-none refl c.told-kept c.told-places }

pub overflow_add-n : goal.overflow_add-n
overflow_add-n c =
    omega (arith, merging-low (merge-short c.args.places.now c.requires.sound.1.frame) c.loop-lead.invariant.merging, c.fresh-n.ensures.upper_bound)

pub loop-lead-smaller : goal.loop-lead-smaller
loop-lead-smaller c =
    let t = c.args.tray.now.bytes.now in
    let next = subst (λ h. NextRun t h c.loop-lead.places c.in-Some.lead.run c.in-Some.lead.key) c.args.tray.now.frame.runs c.in-Some.ensures in
    merging-less c.requires.sound.1 (fits-runs c.requires.sound.1.frame c.requires.sound.0) c.loop-lead.invariant.merging next c.take_next.ensures.places_after

pub loop-lead-preserved : goal.loop-lead-preserved
loop-lead-preserved c =
    let t = c.args.tray.now.bytes.now in
    let next = subst (λ h. NextRun t h c.loop-lead.places c.in-Some.lead.run c.in-Some.lead.key) c.args.tray.now.frame.runs c.in-Some.ensures in
    record {
      heading = c.take_next.ensures.heading_2;
      ended = ended-more _ c.loop-lead.invariant.ended c.take_next.ensures.places_after;
      merging = merging-more c.requires.sound.1 (fits-runs c.requires.sound.1.frame c.requires.sound.0) c.loop-lead.invariant.merging next
          c.take_next.ensures.places_after c.take_next.ensures.kept_after c.fresh-n.ensures.value;
    }

pub returns : goal.returns
returns c =
    merging-end c.loop-lead.invariant.merging
    (subst (λ h. NoRun c.args.tray.now.bytes.now h c.loop-lead.places) c.args.tray.now.frame.runs c.in_default.ensures)
