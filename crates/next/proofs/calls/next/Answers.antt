-- The frames decide first, then whether the cursor belongs, then the walk.
use Rattle.std.specs.Prelude.{List, ℕ, Ok, Err}
use Rattle.std.proofs.Common.{◌∙◌, sym, ap, ap₂, arith}
use Rattle.std.proofs.lemmas.Result.{err_from_is_err_and}
use Rattle.refusal.specs.declared.Refusal.TheVariants.{Cursor as NotBelonging}
use Rattle.answers.specs.declared.Stand.TheVariants.{End}
use Rattle.answers.specs.Code.{frames-fit, frames-refused}
use Rattle.answers.specs.Next.{next_framed, next_answer}
use Rattle.walk_cursor.specs.Tested.{belongs-low}
use Rattle.next.specs.Next.{going, next-end}
use Rattle.next.specs.Code.{told-end, next-on, next-off}
use Rattle.next.proofs.calls.next.Goals as goal

pub returns-in_err-indexed : goal.returns-in_err-indexed
unfolding next_answer
returns-in_err-indexed c =
    let p = err_from_is_err_and c.from_residual.result c.from_residual.ensures.1 in
    rw (p.1, p.2) (sym (frames-refused Err _ _ _ c.in_err-indexed.ensures))

pub returns-then-not-belongs : goal.returns-then-not-belongs
unfolding next_answer
returns-then-not-belongs c =
    let i = c.in_ok-indexed.ensures in
    ap (λ (g : ℕ). Err (NotBelonging g)) c.from.ensures
    ∙ next-off c.in_ok-indexed.indexed.walking c.args.from c.belongs.ensures c.if-not-belongs.true
    ∙ ap₂ (λ (t x : List ℕ). next_framed t x c.args.from) i.1 i.2
    ∙ sym (frames-fit Err _ _ _ i.0)

pub next_from-requires : goal.next_from-requires
next_from-requires c =
    let i = c.in_ok-indexed.indexed in
    record {
      going = going i.tray.frame.at.frame i.walking;
      inside = (omega arith, belongs-low i.walking c.args.from c.belongs.ensures c.if-not-belongs.false (omega arith));
    }

pub returns-then-g-indexed : goal.returns-then-g-indexed
unfolding next_answer
returns-then-g-indexed c =
    let i = c.in_ok-indexed.ensures in
    next-on c.in_ok-indexed.indexed.walking c.args.from c.belongs.ensures c.if-not-belongs.false c.next_from.ensures
    ∙ ap₂ (λ (t x : List ℕ). next_framed t x c.args.from) i.1 i.2
    ∙ sym (frames-fit Err _ _ _ i.0)

pub returns : goal.returns
unfolding next_answer
returns c =
    let i = c.in_ok-indexed.ensures in
    let w = c.in_ok-indexed.indexed.walking in
    next-on w c.args.from c.belongs.ensures c.if-not-belongs.false
    (ap (λ k. Ok (End k)) c.end.ensures ∙ told-end w (next-end _ _ c.args.from w.index.count c.if-g-indexed.false))
    ∙ ap₂ (λ (t x : List ℕ). next_framed t x c.args.from) i.1 i.2
    ∙ sym (frames-fit Err _ _ _ i.0)
