-- The frames decide first, then the walk, then whether the record found has the very key.
use Rattle.std.specs.Prelude.{Err}
use Rattle.std.proofs.Common.{◌∙◌, sym, ap, arith}
use Rattle.std.proofs.lemmas.Result.{err_from_is_err_and}
use Rattle.answers.specs.Code.{frames-fit, frames-refused}
use Rattle.answers.specs.Get.{get_framed, get_answer}
use Rattle.answers.specs.Get.Code.{value-there, value-other, found-there, got-value, got-none, got-lost}
use Rattle.number.specs.Big.{bytes_of}
use Rattle.tray.specs.Run.{record_at}
use Rattle.walk.specs.Reads.{seek}
use Rattle.seek.proofs.Asked.{asked}
use Rattle.seek.proofs.get.get.Goals as goal

pub returns-in_err-indexed : goal.returns-in_err-indexed
unfolding get_answer
returns-in_err-indexed c =
    let p = err_from_is_err_and c.from_residual.result c.from_residual.ensures.1 in
    rw (p.1, p.2) (sym (frames-refused Err _ _ _ c.in_err-indexed.ensures))

pub returns-in_err-run : goal.returns-in_err-run
unfolding get_answer
returns-in_err-run c =
    let p = err_from_is_err_and c.from_residual-in_err-run.result c.from_residual-in_err-run.ensures.1 in
    let i = c.in_ok-indexed.ensures in
    rw (p.1, p.2) (got-lost _ _ _ c.in_err-run.field-0.0 (asked seek i.1 i.2 c.read-key.ensures c.in_err-run.ensures) ∙ sym (frames-fit Err _ _ _ i.0))

pub returns-in_default : goal.returns-in_default
unfolding get_answer
returns-in_default c =
    let i = c.in_ok-indexed.ensures in
    got-none _ _ _ (asked seek i.1 i.2 c.read-key.ensures (rw c.in_default.is at c.in_ok-run.ensures)) ∙ sym (frames-fit Err _ _ _ i.0)

pub run-bytes-requires : goal.run-bytes-requires
run-bytes-requires c = (found-there _ _ _ c.in-Some.field-0 (rw c.in-Some.is at c.in_ok-run.ensures)).0

pub key_at-requires : goal.key_at-requires
key_at-requires c = omega (arith, c.run-bytes.ensures.records, (found-there _ _ _ c.in-Some.field-0 (rw c.in-Some.is at c.in_ok-run.ensures)).1)

pub value_at-value-requires : goal.value_at-value-requires
value_at-value-requires c = omega (arith, c.run-bytes.ensures.records, (found-there _ _ _ c.in-Some.field-0 (rw c.in-Some.is at c.in_ok-run.ensures)).1)

pub returns-then-key_at-key : goal.returns-then-key_at-key
unfolding get_answer
returns-then-key_at-key c =
    let i = c.in_ok-indexed.ensures in
    let r = c.run-bytes.ensures.bytes in
    let p = c.in-Some.field-0.place.0 in
    let value = value-there _ _ p _ (c.key_at.ensures ∙ ap (λ b. (record_at b p).key) r) c.if-key_at-key.true (c.value_at-value.ensures ∙ ap (λ b. bytes_of 16 (record_at b p).value) r) in
    asked get_framed i.1 i.2 c.read-key.ensures (got-value _ _ _ c.in-Some.field-0 (rw c.in-Some.is at c.in_ok-run.ensures) value) ∙ sym (frames-fit Err _ _ _ i.0)

pub returns : goal.returns
unfolding get_answer
returns c =
    let i = c.in_ok-indexed.ensures in
    let p = c.in-Some.field-0.place.0 in
    let other = value-other _ _ p _ (c.key_at.ensures ∙ ap (λ b. (record_at b p).key) c.run-bytes.ensures.bytes) c.if-key_at-key.false in
    asked get_framed i.1 i.2 c.read-key.ensures (got-value _ _ _ c.in-Some.field-0 (rw c.in-Some.is at c.in_ok-run.ensures) other) ∙ sym (frames-fit Err _ _ _ i.0)
