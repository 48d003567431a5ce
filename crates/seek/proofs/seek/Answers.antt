-- The frames decide first, then the walk.
use Rattle.std.specs.Prelude.{Ok, Err}
use Rattle.std.proofs.Common.{◌∙◌, sym, ap}
use Rattle.std.proofs.lemmas.Result.{err_from_is_err_and}
use Rattle.index.specs.Layout.{segment_count}
use Rattle.answers.specs.declared.Stand.TheVariants.{End}
use Rattle.answers.specs.Code.{frames-fit, frames-refused, seek-found, seek-ends, seek-lost}
use Rattle.answers.specs.Seek.{seek_answer}
use Rattle.walk.specs.Reads.{seek}
use Rattle.seek.proofs.Asked.{asked}
use Rattle.seek.proofs.seek.Goals as goal

pub returns-in_err-indexed : goal.returns-in_err-indexed
unfolding seek_answer
returns-in_err-indexed c =
    let p = err_from_is_err_and c.from_residual.result c.from_residual.ensures.1 in
    rw (p.1, p.2) (sym (frames-refused Err _ _ _ c.in_err-indexed.ensures))

pub returns-in_err-run : goal.returns-in_err-run
unfolding seek_answer
returns-in_err-run c =
    let p = err_from_is_err_and c.from_residual-in_err-run.result c.from_residual-in_err-run.ensures.1 in
    let i = c.in_ok-indexed.ensures in
    rw (p.1, p.2) (seek-lost _ _ _ c.in_err-run.field-0.0 (asked seek i.1 i.2 c.read.ensures c.in_err-run.ensures) ∙ sym (frames-fit Err _ _ _ i.0))

pub returns-in_default : goal.returns-in_default
unfolding seek_answer
returns-in_default c =
    let i = c.in_ok-indexed.ensures in
    ap (λ a. Ok (End a)) c.end.ensures
    ∙ seek-ends _ _ _ (c.in_ok-indexed.indexed.index.frame.count ∙ ap segment_count i.2) (asked seek i.1 i.2 c.read.ensures (rw c.in_default.is at c.in_ok-run.ensures))
    ∙ sym (frames-fit Err _ _ _ i.0)

pub returns : goal.returns
unfolding seek_answer
returns c =
    let i = c.in_ok-indexed.ensures in
    seek-found _ _ _ c.in-Some.field-0 (asked seek i.1 i.2 c.read.ensures (rw c.in-Some.is at c.in_ok-run.ensures)) ∙ sym (frames-fit Err _ _ _ i.0)
