-- `merge::advance` meets its contract: one run moves, and its block is kept anew.
use Rattle.std.proofs.Common.{refl}
use Rattle.merge_lead.specs.Heads.Leads.Laws.{raised, moved}
use Rattle.merge.proofs.advance.Goals as goal

pub returns-clause-places_after : goal.returns-clause-places_after
returns-clause-places_after c = raised _ c.from-i.ensures

pub returns-clause-heading_2 : goal.returns-clause-heading_2
returns-clause-heading_2 c =
    moved c.requires.heading c.requires.r_bound.0 c.from-i.ensures refl refl c.key_after.ensures c.keep.ensures.same.0 c.keep.ensures.same.1 c.keep.ensures.kept
