-- A way out for each answer.
use Rattle.std.proofs.Common.{◌≡◌, Ok, Result, subst, ap, ◌∙◌, rules}
use Rattle.refusal.specs.declared.Refusal.{Refusal}
use Rattle.answers.specs.declared.Paged.{Paged}
use Rattle.answers.specs.declared.Rest.{Rest}
use Rattle.answers.specs.declared.Rest.TheVariants.{More, End}
use Rattle.answers.specs.Page.{page_answer, page_leaves}
use Rattle.kanyorith.proofs.CodeLaws.Narrow.{page-narrow}
use Rattle.kanyorith.specs.Code.{page-more, page-end, page-refused}
use Rattle.theorems.specs.Cursors.Laws.{narrow_cursor}
use Rattle.theorems.specs.Cursors.{cursor_in}
use Rattle.kanyorith.specs.Promises.{Paging}
use Rattle.kanyorith.proofs.kanyorith_page.Goals as goal

pub returns-in-Ok-More : goal.returns-in-Ok-More
returns-in-Ok-More c =
    let t = c.args.tray.now in
    let x = c.args.index.now in
    let out = c.args.out.now in
    let given = cursor_in c.args.cursor.now in
    let a = c.in-Ok-More.is in
    let b = c.in-Ok-More.field-0-is in
    let e : ◌≡◌ {A = Result Rest Refusal} c.page-p.result.rest (Ok (More c.in-Ok-More.c)) = search rules in
    let left = c.page-p.ensures.out_after ∙ ap (λ k. page_leaves t x k out) c.cursor_in-from.ensures in
    record {
      paging = page-narrow t x given out
          (subst
          (λ (p : Paged). Paging p (page_leaves t x (narrow_cursor given) out) c.args.cursor.now 0 1 c.page-p.result.count c.put_cursor.new.numbers c.page-p.new.out)
          (c.page-p.ensures.value ∙ ap (λ k. page_answer t x k out) c.cursor_in-from.ensures)
          (page-more left e c.put_cursor.ensures));
    }

pub returns-in-Ok-End : goal.returns-in-Ok-End
returns-in-Ok-End c =
    let t = c.args.tray.now in
    let x = c.args.index.now in
    let out = c.args.out.now in
    let given = cursor_in c.args.cursor.now in
    let a = c.in-Ok-End.is in
    let b = c.in-Ok-End.field-0-is in
    let e : ◌≡◌ {A = Result Rest Refusal} c.page-p.result.rest (Ok (End c.in-Ok-End.c)) = search rules in
    let left = c.page-p.ensures.out_after ∙ ap (λ k. page_leaves t x k out) c.cursor_in-from.ensures in
    record {
      paging = page-narrow t x given out
          (subst
          (λ (p : Paged). Paging p (page_leaves t x (narrow_cursor given) out) c.args.cursor.now 0 0 c.page-p.result.count c.put_cursor-in-Ok-End.new.numbers c.page-p.new.out)
          (c.page-p.ensures.value ∙ ap (λ k. page_answer t x k out) c.cursor_in-from.ensures)
          (page-end left e c.put_cursor-in-Ok-End.ensures));
    }

pub returns-in-Err : goal.returns-in-Err
returns-in-Err c =
    let t = c.args.tray.now in
    let x = c.args.index.now in
    let out = c.args.out.now in
    let given = cursor_in c.args.cursor.now in
    let left = c.page-p.ensures.out_after ∙ ap (λ k. page_leaves t x k out) c.cursor_in-from.ensures in
    record {
      paging = page-narrow t x given out
          (subst
          (λ (p : Paged). Paging p (page_leaves t x (narrow_cursor given) out) c.args.cursor.now c.refuse.result c.refuse.new.figure c.page-p.result.count c.args.cursor.now c.page-p.new.out)
          (c.page-p.ensures.value ∙ ap (λ k. page_answer t x k out) c.cursor_in-from.ensures)
          (page-refused left c.in-Err.is c.refuse.ensures));
    }
