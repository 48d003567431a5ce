-- Each way out says what the walk's end says.
use Rattle.std.proofs.Common.{Ok, Err, ap, sym, ◌∙◌}
use Rattle.std.proofs.lemmas.Result.{err_from_is_err_and}
use Rattle.walk.specs.declared.cursor.Cursor.{Cursor}
use Rattle.answers.specs.declared.Rest.TheVariants.{End}
use Rattle.page.specs.Code.{rest_of}
use Rattle.page.proofs.rest_of.Goals as goal

pub returns-in_err-cursor : goal.returns-in_err-cursor
unfolding rest_of
returns-in_err-cursor c =
    let p = err_from_is_err_and c.from_residual.result c.from_residual.ensures.1 in
    p.1 ∙ ap Err p.2 ∙ ap (rest_of c.args.n) (sym c.in_err-cursor.was)

pub returns-in_default : goal.returns-in_default
unfolding rest_of
returns-in_default c = ap (λ (e : Cursor). Ok (End e)) c.end.ensures ∙ ap (rest_of c.args.n) (sym (c.in_ok-cursor.was ∙ ap Ok c.in_default.is))

pub returns : goal.returns
unfolding rest_of
returns c = ap (rest_of c.args.n) (sym (c.in_ok-cursor.was ∙ ap Ok c.in-Some.is))
