-- `fold::fold` meets its contract: the tests that led to each answer are those of the definition, in its order.
use Rattle.std.proofs.Common.{◌≡◌, ◌≤◌, ◌<◌, Ok, ◌∙◌, List, ℕ, sym, ap, subst}
use Rattle.std.proofs.lemmas.Result.{err_from_is_err_and}
use Rattle.number.specs.Big.{Bytes}
use Rattle.number.proofs.Known.{bytes-known}
use Rattle.tray.specs.declared.Tray.{Tray}
use Rattle.tray.specs.Frame.{run_count}
use Rattle.tray.specs.Check.{check_tray_answer}
use Rattle.fold_merge.specs.Folding.{Folding}
use Rattle.fold.specs.Answers.{answer-frame, answer-outside, answer-refused, answer-sound, folding-is, leaves-same}
use Rattle.fold.proofs.fold.Goals as goal

-- a tray's runs, as its bytes have them
runs-are : (tray : Tray) {t : List ℕ} → tray.bytes.now ≡ t → tray.runs ≡ run_count t
runs-are tray e = tray.frame.runs ∙ ap run_count e

-- the tray that was checked, with bounds that hold
folding : (tray : Tray) {t : List ℕ} {a b n : ℕ} → tray.bytes.now ≡ t → Bytes t → a ≤ b → b < tray.runs → Ok n ≡ check_tray_answer t → Folding tray a b
folding tray e bytes order within c = folding-is tray (subst Bytes (sym e) bytes) order within (c ∙ ap check_tray_answer (sym e))

pub returns-in_err-tray-clause-value : goal.returns-in_err-tray-clause-value
returns-in_err-tray-clause-value c =
    let p = err_from_is_err_and c.from_residual.result c.from_residual.ensures.1 in
    let e = c.in_err-tray.ensures in
    rw (p.1, p.2, e.1) (answer-frame _ _ _ _ e.0)

pub returns-in_err-tray-clause-out_after : goal.returns-in_err-tray-clause-out_after
returns-in_err-tray-clause-out_after c =
    let p = err_from_is_err_and c.from_residual.result c.from_residual.ensures.1 in
    rw (p.1, p.2) (leaves-same _ _ _ _ _)

pub returns-then-b-a-clause-value : goal.returns-then-b-a-clause-value
returns-then-b-a-clause-value c =
    let e = c.in_ok-tray.ensures in
    rw c.from.ensures (answer-outside _ _ _ _ e.0 (runs-are c.in_ok-tray.tray e.1) c.then-b-a.either)

pub returns-then-b-a-clause-out_after : goal.returns-then-b-a-clause-out_after
returns-then-b-a-clause-out_after c = leaves-same _ _ _ _ _

pub returns-in_err-check_tray-clause-value : goal.returns-in_err-check_tray-clause-value
returns-in_err-check_tray-clause-value c =
    let p = err_from_is_err_and c.from_residual-in_err-check_tray.result c.from_residual-in_err-check_tray.ensures.1 in
    let e = c.in_ok-tray.ensures in
    rw (p.1, p.2) (answer-refused _ _ _ _ e.0 (runs-are c.in_ok-tray.tray e.1) c.if-b-a.false c.if-tray-b.false c.in_err-check_tray.ensures)

pub returns-in_err-check_tray-clause-out_after : goal.returns-in_err-check_tray-clause-out_after
returns-in_err-check_tray-clause-out_after c =
    let p = err_from_is_err_and c.from_residual-in_err-check_tray.result c.from_residual-in_err-check_tray.ensures.1 in
    rw (p.1, p.2) (leaves-same _ _ _ _ _)

pub fold_one-requires-clause-folding : goal.fold_one-requires-clause-folding
fold_one-requires-clause-folding c =
    folding c.in_ok-tray.tray c.in_ok-tray.ensures.1 (bytes-known _ c.type_inv.t) c.if-b-a.false c.if-tray-b.false c.in_ok-check_tray.ensures

pub returns-then-eq-clause-value : goal.returns-then-eq-clause-value
returns-then-eq-clause-value c =
    let e = c.in_ok-tray.ensures in
    let told = rw e.1 at c.fold_one.ensures.value in
    answer-sound _ _ _ _ e.0 (runs-are c.in_ok-tray.tray e.1) c.if-b-a.false c.if-tray-b.false c.in_ok-check_tray.ensures told

pub invariant_of-fold_runs : goal.invariant_of-fold_runs
invariant_of-fold_runs c =
    record { holds = folding c.in_ok-tray.tray c.in_ok-tray.ensures.1 (bytes-known _ c.type_inv.t) c.if-b-a.false c.if-tray-b.false c.in_ok-check_tray.ensures }

pub returns-clause-value : goal.returns-clause-value
returns-clause-value c =
    let e = c.in_ok-tray.ensures in
    let told = rw e.1 at c.fold_runs.ensures.value in
    answer-sound _ _ _ _ e.0 (runs-are c.in_ok-tray.tray e.1) c.if-b-a.false c.if-tray-b.false c.in_ok-check_tray.ensures told
