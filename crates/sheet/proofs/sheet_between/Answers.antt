-- What the seek came to decides.
use Rattle.std.proofs.lemmas.Result.{err_from_is_err_and}
use Rattle.answers.specs.Get.Code.{found-there}
use Rattle.sheet.specs.Write.{gives-none, gives-off, gives-found, found-low, gives-past}
use Rattle.sheet.proofs.sheet_between.Goals as goal

pub returns-in_err-run : goal.returns-in_err-run
returns-in_err-run c =
    let p = err_from_is_err_and c.from_residual.result c.from_residual.ensures.1 in
    rw (p.1, p.2) (gives-off _ _ _ _ _ c.in_err-run.ensures)

pub returns-in_default : goal.returns-in_default
returns-in_default c = gives-none _ _ _ _ _ (rw c.in_default.is at c.in_ok-run.ensures)

pub head-requires : goal.head-requires
head-requires c =
    let z = found-there _ _ _ c.in-Some.field-0 (rw c.in-Some.is at c.in_ok-run.ensures) in
    record { r_bound = z.0; p_bound = z.1 }

pub returns-then-high-head : goal.returns-then-high-head
returns-then-high-head c =
    gives-past _ _ _ _ _ c.in-Some.field-0 (rw c.in-Some.is at c.in_ok-run.ensures) c.args.indexed.now.walking c.head.ensures.key c.if-high-head.true

pub invariant_of-listing : goal.invariant_of-listing
invariant_of-listing c =
    record {
      inside = found-low _ _ _ c.args.high c.args.out.now c.in-Some.field-0 (rw c.in-Some.is at c.in_ok-run.ensures) c.args.indexed.now.walking;
    }

pub returns : goal.returns
returns c = gives-found _ _ _ _ _ c.in-Some.field-0 (rw c.in-Some.is at c.in_ok-run.ensures) c.list_from.ensures
