-- Invariant: the runs before run r are right, and what is left to judge answers for the whole tray.
use Rattle.std.proofs.Common.{ap, ◌∙◌, arith}
use Rattle.tray.specs.Run.{judge_run}
use Rattle.tray.specs.Check.Code.{judging-none, judging-more, judged-end, judged-wrong}
use Rattle.tray_check.proofs.check_runs.Goals as goal

pub loop-r-init : goal.loop-r-init
loop-r-init c = judging-none _

pub returns-in-Err : goal.returns-in-Err
returns-in-Err c =
    let told = c.check_run.ensures ∙ ap (judge_run _) c.run.ensures.bytes in
    judged-wrong _ c.loop-r.invariant (omega (arith, c.args.tray.now.frame.runs, c.loop-r-test.true)) told c.count-n.ensures.value c.in-Err.is c.refusal_of.ensures

pub loop-r-preserved : goal.loop-r-preserved
loop-r-preserved c =
    let told = c.check_run.ensures ∙ ap (judge_run _) c.run.ensures.bytes in
    judging-more _ c.loop-r.invariant (omega (arith, c.args.tray.now.frame.runs, c.loop-r-test.true)) told c.count-n.ensures.value c.in_default.is c.count-n.ensures.upper_bound c.from-before.ensures

pub returns : goal.returns
returns c = judged-end _ c.loop-r.invariant (omega (arith, c.args.tray.now.frame.runs, c.loop-r-test.false))
