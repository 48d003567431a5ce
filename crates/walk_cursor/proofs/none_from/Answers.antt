-- Invariant: the highest so far and the places not yet seen answer for all.
use Rattle.std.proofs.Common.{◌+◌, ap, ◌∙◌, sym, arith}
use Prim.Native.Nat.{max}
use Rattle.walk.specs.Code.{placed, get_or-numbers}
use Rattle.walk_cursor.specs.Standing.{none-turn, none_end}
use Rattle.walk_cursor.proofs.Part.{part-at}
use Rattle.walk_cursor.proofs.none_from.Goals as goal

pub loop-p-preserved : goal.loop-p-preserved
loop-p-preserved c =
    let i = c.loop-p.p-index in
    none-turn _ _ {r = c.args.from + i} (omega arith) (omega arith)
    (c.max-top.ensures
    ∙ ap (max _) (ap (λ p. p.0) (part-at c.args.from _ c.args.places.now i (placed 0) c.loop-p-test.true) ∙ sym (get_or-numbers c.args.places.now (c.args.from + i))))
    ∙ c.loop-p.invariant

pub returns : goal.returns
returns c = none_end _ _ (omega arith) ∙ c.loop-p.invariant
