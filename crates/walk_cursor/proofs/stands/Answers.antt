use Rattle.std.proofs.Common.{◌∙◌, refl}
use Rattle.walk_cursor.specs.Standing.{stands-told, stands-off}
use Rattle.walk_cursor.proofs.stands.Goals as goal

pub returns-then-places_hold : goal.returns-then-places_hold
returns-then-places_hold c =
    stands-told c.args.index.now.frame c.requires.0 _ _ _ refl c.selectors_at.ensures.value c.tally.ensures c.places_hold.ensures c.if-places_hold.true c.from.ensures c.none_from.ensures

pub returns-else-places_hold : goal.returns-else-places_hold
returns-else-places_hold c =
    c.if-places_hold.false ∙ stands-off c.args.index.now.frame c.requires.0 _ _ _ refl c.selectors_at.ensures.value c.tally.ensures c.places_hold.ensures c.if-places_hold.false
