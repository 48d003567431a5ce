use Rattle.std.proofs.Common.{Less, Equal, Greater, ◌∙◌, le-ltb, ne_eqb}
use Rattle.std.proofs.lemmas.Cmp.{ranked}
use Rattle.walk.specs.Code.{spot_of}
use Rattle.walk_cursor.specs.Standing.{belongs-there, belongs-past, belongs-beyond, belongs-inner, belongs-end}
use Rattle.walk_cursor.proofs.belongs.Goals as goal

pub returns-then-s-index : goal.returns-then-s-index
unfolding spot_of
returns-then-s-index c = belongs-there c.args.index.now.frame (spot_of c.args.cursor.now) (ranked _ _ Less c.in-Less.ensures) c.if-s-index.true c.stands.ensures

pub returns-else-s-index : goal.returns-else-s-index
unfolding spot_of
returns-else-s-index c = le-ltb _ _ c.if-s-index.false ∙ belongs-past c.args.index.now.frame (spot_of c.args.cursor.now) (ranked _ _ Less c.in-Less.ensures) c.if-s-index.false

pub returns-then-s-eq0 : goal.returns-then-s-eq0
unfolding spot_of
returns-then-s-eq0 c = belongs-end c.args.index.now.frame (spot_of c.args.cursor.now) (ranked _ _ Equal c.in-Equal.ensures) c.if-s-eq0.true c.none_from.ensures

pub returns-else-s-eq0 : goal.returns-else-s-eq0
unfolding spot_of
returns-else-s-eq0 c = ne_eqb _ _ c.if-s-eq0.false ∙ belongs-inner c.args.index.now.frame (spot_of c.args.cursor.now) (ranked _ _ Equal c.in-Equal.ensures) c.if-s-eq0.false

pub returns-in-Greater : goal.returns-in-Greater
unfolding spot_of
returns-in-Greater c = belongs-beyond c.args.index.now.frame (spot_of c.args.cursor.now) (ranked _ _ Greater c.in-Greater.ensures)
