-- What `hand_over` promises, of the call's own answer.
use Rattle.std.proofs.Common.{subst, ap, ◌∙◌}
use Rattle.answers.specs.Next.{next_answer}
use Rattle.kanyorith.proofs.CodeLaws.Narrow.{sought-narrow}
use Rattle.theorems.specs.Cursors.{cursor_in}
use Rattle.kanyorith.specs.Promises.{Sought}
use Rattle.kanyorith.proofs.kanyorith_next.Goals as goal

pub returns : goal.returns
returns c =
    let h = c.hand_over in
    let t = c.args.tray.now in
    let x = c.args.index.now in
    record {
      sought = sought-narrow t x (cursor_in c.args.cursor.now)
          (subst
          (λ a. Sought a c.args.run.now c.args.place.now c.args.cursor.now h.result h.new.figure h.new.run h.new.place h.new.cursor)
          (c.next.ensures ∙ ap (next_answer t x) c.cursor_in-from.ensures)
          h.ensures);
    }
