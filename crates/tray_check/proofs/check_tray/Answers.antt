use Rattle.std.proofs.lemmas.Result.{err_from_is_err_and}
use Rattle.tray.specs.Check.Code.{check-judged, check-frame}
use Rattle.tray_check.proofs.check_tray.Goals as goal

pub returns-in_err-tray : goal.returns-in_err-tray
returns-in_err-tray c =
    let p = err_from_is_err_and c.from_residual.result c.from_residual.ensures.1 in
    let e = c.in_err-tray.ensures in
    rw (p.1, p.2, e.1) (check-frame _ e.0)

pub returns : goal.returns
returns c = let e = c.in_ok-tray.ensures in check-judged _ e.0 (rw (← e.1) c.check_runs.ensures)
