-- `drawer_serve::serve` meets its contract. Invariant: the piece is taken up to a place, and one more answer line has room. Measure: the bytes left.
use Rattle.std.proofs.Common.{refl}
use Rattle.drawer_serve.specs.Serves.Laws.{serving-none, serving-more}
use Rattle.drawer_serve.proofs.serve.Goals as goal

pub loop-at-init : goal.loop-at-init
loop-at-init c = serving-none c.args.piece.now c.requires

pub loop-at-preserved : goal.loop-at-preserved
loop-at-preserved c = serving-more c.loop-at.invariant c.take_lines-taken.ensures c.make_room.ensures refl
