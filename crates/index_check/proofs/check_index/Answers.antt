-- `index_check::check_index` meets its contract: the tray decides, then the index's frame, and then the segments.
use Rattle.std.proofs.Common.{refl, arith}
use Rattle.std.proofs.lemmas.Result.{err_from_is_err_and}
use Rattle.tray.specs.Check.Code.{check-frame}
use Rattle.index.specs.Check.Code.{checked-tray, checked-index, judged-frame, judged-wrong}
use Rattle.index_check.proofs.check_index.Goals as goal

pub returns-in_err-check_tray : goal.returns-in_err-check_tray
returns-in_err-check_tray c =
    let p = err_from_is_err_and c.from_residual.result c.from_residual.ensures.1 in
    rw (p.1, p.2) (checked-tray _ _ c.check_tray.ensures c.in_err-check_tray.was)

pub returns-in_err-tray : goal.returns-in_err-tray
returns-in_err-tray c =
    let p = err_from_is_err_and c.from_residual-in_err-tray.result c.from_residual-in_err-tray.ensures.1 in
    let e = c.in_err-tray.ensures in
    rw (p.1, p.2, e.1) (checked-tray _ _ (check-frame _ e.0) refl)

pub returns-in_err-index : goal.returns-in_err-index
returns-in_err-index c =
    let p = err_from_is_err_and c.from_residual-in_err-index.result c.from_residual-in_err-index.ensures.1 in
    let e = c.in_err-index.ensures in
    let runs = c.in_ok-tray.tray.frame.runs in
    let t = c.in_ok-tray.ensures in
    rw (p.1, p.2, e.1) (checked-index _ _ c.check_tray.ensures c.in_ok-check_tray.was (judged-wrong _ _ (rw t.1 at runs) e.0))

pub returns : goal.returns
returns c =
    let runs = c.in_ok-tray.tray.frame.runs in
    let t = c.in_ok-tray.ensures in
    let i = c.in_ok-index.ensures in
    let judged = c.check_segments.ensures in
    checked-index _ _ c.check_tray.ensures c.in_ok-check_tray.was (judged-frame _ _ (rw t.1 at runs) i.0 (rw (t.1, i.1) at judged))

pub check_segments-requires : goal.check_segments-requires
check_segments-requires c =
    let i = c.in_ok-index.ensures in
    record { runs = i.2; size = omega (arith, i.3, c.in_ok-tray.tray.frame.runs, c.in_ok-tray.tray.frame.at.frame.some-run) }
