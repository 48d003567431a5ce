-- The runs below r are at their end.
use Rattle.merge_lead.specs.Heads.Leads.{EndedTo}
use Rattle.merge_lead.proofs.first_left.Given as goal

abbrev pub invariant-loop-r : goal.invariant-loop-r
invariant-loop-r l = EndedTo l.tray.counts l.places l.r
