-- Each way out, and each turn, is a law of `RunCode`.
use Rattle.std.proofs.Common.{ℕ, ◌*◌, sym, ap, ◌∙◌}
use Rattle.std.proofs.Math.Nat.{sub-zero}
use Rattle.tray.proofs.RunCode.{last-next, run-kind, run-key, run-next, run-live, last_none}
use Rattle.tray.specs.Run.Laws.{judge-end}
use Rattle.tray_check.proofs.run.check_run.Goals as goal

pub loop-p-init : goal.loop-p-init
loop-p-init c = record { before = last_none _ 0; same = rw sub-zero }

pub loop-p-preserved-then-odd-eq0 : goal.loop-p-preserved-then-odd-eq0
loop-p-preserved-then-odd-eq0 c =
    let stands = ap (λ (k : ℕ). 25 * k) c.from-at.ensures in
    let loop = c.loop-p.invariant in
    let plain = c.odd.ensures c.if-odd-eq0.true in
    record {
      before = last-next _ _ stands c.read-key.ensures;
      same = sym (run-live _ _ stands c.loop-p-test.true plain.0 c.read-key.ensures loop.before plain.1) ∙ loop.same;
    }

pub returns-then-not-kind_right : goal.returns-then-not-kind_right
returns-then-not-kind_right c =
    let stands = ap (λ (k : ℕ). 25 * k) c.from-at.ensures in
    sym (run-kind _ _ stands c.loop-p-test.true c.kind_right.ensures c.if-not-kind_right.true) ∙ c.loop-p.invariant.same

pub returns-then-not-key_right : goal.returns-then-not-key_right
returns-then-not-key_right c =
    let stands = ap (λ (k : ℕ). 25 * k) c.from-at.ensures in
    let loop = c.loop-p.invariant in
    sym (run-key _ _ stands c.loop-p-test.true c.kind_right.ensures c.if-not-kind_right.false c.read-key.ensures loop.before c.key_right.ensures c.if-not-key_right.true)
    ∙ loop.same

pub loop-p-preserved : goal.loop-p-preserved
loop-p-preserved c =
    let stands = ap (λ (k : ℕ). 25 * k) c.from-at.ensures in
    let loop = c.loop-p.invariant in
    record {
      before = last-next _ _ stands c.read-key.ensures;
      same = sym (run-next _ _ stands c.loop-p-test.true c.kind_right.ensures c.if-not-kind_right.false c.read-key.ensures loop.before c.key_right.ensures c.if-not-key_right.false)
          ∙ loop.same;
    }

pub returns : goal.returns
returns c = sym (judge-end _ _ _ c.loop-p-test.false) ∙ c.loop-p.invariant.same
