-- What has been noted and the merge of what is left from the next key on are the merge from the start. Measure: the records left.
use Rattle.tray.specs.Frame.{run_count}
use Rattle.merge_lead.specs.Heads.{Ended}
use Rattle.merge_lead.specs.Heads.Leads.{Heading}
use Rattle.fold_merge.specs.Folding.{merge_left, left_to}
use Rattle.fold_merge.specs.Folding.Keeping.{Merging}
use Rattle.fold_merge.proofs.keep_all.Given as goal

abbrev pub invariant-loop-lead : goal.invariant-loop-lead
invariant-loop-lead l =
    record {
      heading : Heading l.tray l.places l.heads;
      ended : Ended l.tray.bytes.now l.places l.end;
      merging : Merging l.tray.bytes.now (merge_left l.tray.bytes.now l.initial.places) l.places l.kept l.n l.last;
    }

abbrev pub decreases-loop-lead : goal.decreases-loop-lead
decreases-loop-lead l = left_to l.tray.bytes.now l.places (run_count l.tray.bytes.now)
