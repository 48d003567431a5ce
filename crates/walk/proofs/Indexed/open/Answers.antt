-- The tray decides first, then the index.
use Rattle.std.proofs.lemmas.Result.{err_from_is_err_and}
use Rattle.walk.specs.Opens.{frames, frames-index}
use Rattle.walk.proofs.Indexed.open.Goals as goal

pub returns-in_err-tray : goal.returns-in_err-tray
unfolding frames
returns-in_err-tray c =
    let p = err_from_is_err_and c.from_residual.result c.from_residual.ensures.1 in
    let e = c.in_err-tray.ensures in
    rw (p.1, p.2, e.1, e.0)

pub returns-in_err-index : goal.returns-in_err-index
returns-in_err-index c =
    let p = err_from_is_err_and c.from_residual-in_err-index.result c.from_residual-in_err-index.ensures.1 in
    let t = c.in_ok-tray.ensures in
    let e = c.in_err-index.ensures in
    rw (p.1, p.2, e.1) (frames-index _ t.0 t.1 c.in_ok-tray.tray.frame.runs e.0)

pub returns : goal.returns
returns c =
    let t = c.in_ok-tray.ensures in
    let e = c.in_ok-index.ensures in
    (frames-index _ t.0 t.1 c.in_ok-tray.tray.frame.runs e.0, t.1, e.1)
