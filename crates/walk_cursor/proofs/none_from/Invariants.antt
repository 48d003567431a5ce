use Rattle.std.specs.Prelude.{◌≡◌, ◌+◌, ◌-◌, ◌&&◌, eqb}
use Rattle.walk.specs.Code.{numbers}
use Rattle.walk_cursor.specs.Standing.{none_for}
use Rattle.walk_cursor.proofs.none_from.Given as goal

abbrev pub invariant-loop-p : goal.invariant-loop-p
invariant-loop-p l =
    (eqb l.top 0 && none_for (63 - (l.from + l.p-index)) (numbers l.places) (l.from + l.p-index)) ≡ none_for (63 - l.from) (numbers l.places) l.from
