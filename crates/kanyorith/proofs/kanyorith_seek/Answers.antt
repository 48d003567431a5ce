-- What `hand_over` promises, of the call's own answer.
use Rattle.std.proofs.Common.{subst}
use Rattle.kanyorith.specs.Promises.{Sought}
use Rattle.kanyorith.proofs.kanyorith_seek.Goals as goal

pub returns : goal.returns
returns c =
    let h = c.hand_over in
    record {
      sought = subst
          (λ a. Sought a c.args.run.now c.args.place.now c.args.cursor.now h.result h.new.figure h.new.run h.new.place h.new.cursor)
          c.seek.ensures
          h.ensures;
    }
