-- `build::build` meets its contract: the tests that led to each answer are those of the definition, in its order.
use Rattle.std.proofs.Common.{◌≡◌, ◌≤◌, Ok, ◌∙◌, List, ℕ, sym, ap, subst}
use Rattle.std.proofs.lemmas.Result.{err_from_is_err_and}
use Rattle.number.specs.Big.{Bytes}
use Rattle.number.proofs.Known.{bytes-known}
use Rattle.tray.specs.declared.Tray.{Tray}
use Rattle.tray.specs.Frame.{run_count}
use Rattle.tray.specs.Check.{check_tray_answer}
use Rattle.build_marks.specs.Code.{Sounded}
use Rattle.build.specs.Answers.{answer-frame, answer-outside, answer-refused, answer-short, answer-fits, sounded-is, leaves-same, leaves-index}
use Rattle.build.proofs.build.Goals as goal

-- a tray's runs, as its bytes have them
runs-are : (tray : Tray) {t : List ℕ} → tray.bytes.now ≡ t → tray.runs ≡ run_count t
runs-are tray e = tray.frame.runs ∙ ap run_count e

pub returns-in_err-tray-clause-value : goal.returns-in_err-tray-clause-value
returns-in_err-tray-clause-value c =
    let p = err_from_is_err_and c.from_residual.result c.from_residual.ensures.1 in
    let e = c.in_err-tray.ensures in
    rw (p.1, p.2, e.1) (answer-frame _ _ _ e.0)

pub returns-in_err-tray-clause-out_after : goal.returns-in_err-tray-clause-out_after
returns-in_err-tray-clause-out_after c =
    let p = err_from_is_err_and c.from_residual.result c.from_residual.ensures.1 in
    rw (p.1, p.2) (leaves-same _ _ _ _)

pub returns-then-d-tray-clause-value : goal.returns-then-d-tray-clause-value
returns-then-d-tray-clause-value c =
    let e = c.in_ok-tray.ensures in
    rw c.from.ensures (answer-outside _ _ _ e.0 (runs-are c.in_ok-tray.tray e.1) c.then-d-tray.either)

pub returns-then-d-tray-clause-out_after : goal.returns-then-d-tray-clause-out_after
returns-then-d-tray-clause-out_after c = leaves-same _ _ _ _

pub returns-in_err-n-clause-value : goal.returns-in_err-n-clause-value
returns-in_err-n-clause-value c =
    let p = err_from_is_err_and c.from_residual-in_err-n.result c.from_residual-in_err-n.ensures.1 in
    let e = c.in_ok-tray.ensures in
    rw (p.1, p.2) (answer-refused _ _ _ e.0 (runs-are c.in_ok-tray.tray e.1) c.if-d-tray.false c.if-d-gt128.false c.in_err-n.ensures)

pub returns-in_err-n-clause-out_after : goal.returns-in_err-n-clause-out_after
returns-in_err-n-clause-out_after c =
    let p = err_from_is_err_and c.from_residual-in_err-n.result c.from_residual-in_err-n.ensures.1 in
    rw (p.1, p.2) (leaves-same _ _ _ _)

-- the tray that was checked, with a segment size that fits it
sounded : (tray : Tray) {t : List ℕ} {d n : ℕ} → tray.bytes.now ≡ t → Bytes t → tray.runs ≤ d → d ≤ 128 → Ok n ≡ check_tray_answer t → Sounded tray d n
sounded tray {d = d} {n} e b least most a =
    sounded-is tray (subst Bytes (sym e) b) least most (a ∙ ap check_tray_answer (sym e))

pub check_room-requires : goal.check_room-requires
check_room-requires c =
    sounded c.in_ok-tray.tray c.in_ok-tray.ensures.1 (bytes-known _ c.type_inv.t) c.if-d-tray.false c.if-d-gt128.false c.in_ok-n.ensures

pub returns-in_err-check_room-clause-value : goal.returns-in_err-check_room-clause-value
returns-in_err-check_room-clause-value c =
    let p = err_from_is_err_and c.from_residual-in_err-check_room.result c.from_residual-in_err-check_room.ensures.1 in
    let e = c.in_ok-tray.ensures in
    let f = rw e.1 at c.in_err-check_room.ensures in
    rw (p.1, p.2, f.1) (answer-short _ _ _ e.0 (runs-are c.in_ok-tray.tray e.1) c.if-d-tray.false c.if-d-gt128.false c.in_ok-n.ensures f.0)

pub returns-in_err-check_room-clause-out_after : goal.returns-in_err-check_room-clause-out_after
returns-in_err-check_room-clause-out_after c =
    let p = err_from_is_err_and c.from_residual-in_err-check_room.result c.from_residual-in_err-check_room.ensures.1 in
    rw (p.1, p.2) (leaves-same _ _ _ _)

pub write_index-requires-clause-sounded : goal.write_index-requires-clause-sounded
write_index-requires-clause-sounded c =
    sounded c.in_ok-tray.tray c.in_ok-tray.ensures.1 (bytes-known _ c.type_inv.t) c.if-d-tray.false c.if-d-gt128.false c.in_ok-n.ensures

pub returns-clause-value : goal.returns-clause-value
returns-clause-value c =
    let e = c.in_ok-tray.ensures in
    let room = rw e.1 at c.in_ok-check_room.ensures in
    let size = rw e.1 at c.write_index.ensures.value in
    answer-fits _ _ _ e.0 (runs-are c.in_ok-tray.tray e.1) c.if-d-tray.false c.if-d-gt128.false c.in_ok-n.ensures room size

pub returns-clause-out_after : goal.returns-clause-out_after
returns-clause-out_after c =
    let written = rw c.in_ok-tray.ensures.1 at c.write_index.ensures.out_after in
    leaves-index _ _ _ _ written
