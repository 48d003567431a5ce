-- `build_take::put_keys` meets its contract: what comes next has the last key, has another one, or is nothing.
use Rattle.std.proofs.Common.{arith}
use Rattle.build_marks.specs.Code.Records.{fills-cut, fills-other, fills-over}
use Rattle.build_marks.specs.Code.Taken.{steps-select}
use Rattle.build_take.proofs.put_keys.Goals as goal

pub cut_back-requires : goal.cut_back-requires
cut_back-requires g c = steps-select c.args.tray.now.frame.few (omega (arith, c.requires.bounds)) c.put_selectors-s.ensures.stopped.steps

pub returns-then-lead-s-clause-fills : goal.returns-then-lead-s-clause-fills
returns-then-lead-s-clause-fills g c =
    fills-cut c.other_key.ensures c.put_selectors-s.ensures.stopped c.in-Some.ensures c.if-lead-s.true c.cut_back.ensures.places_after

pub returns-else-lead-s-clause-fills : goal.returns-else-lead-s-clause-fills
returns-else-lead-s-clause-fills g c = fills-other c.other_key.ensures c.put_selectors-s.ensures.stopped c.in-Some.ensures c.if-lead-s.false

pub returns-in_default-clause-fills : goal.returns-in_default-clause-fills
returns-in_default-clause-fills g c = fills-over c.other_key.ensures c.put_selectors-s.ensures.stopped c.in_default.ensures
