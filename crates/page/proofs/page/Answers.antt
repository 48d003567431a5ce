-- The frames, the cursor and the walk decide, in this order.
use Rattle.page.specs.Code.{page-refused, page-low, page-told, page-off}
use Rattle.page.proofs.page.Goals as goal

pub returns-in-Err : goal.returns-in-Err
returns-in-Err c =
    let z = page-refused _ _ c.args.from c.args.out.now c.in-Err.ensures in
    record { value = z.0; out_after = z.1 }

pub invariant_of-listing : goal.invariant_of-listing
invariant_of-listing c =
    let i = c.in-Ok.ensures in
    record { inside = page-low i.0 i.1 i.2 c.in-Ok.indexed.walking c.args.from c.args.out.now c.belongs.ensures c.if-belongs.true }

pub returns-then-belongs : goal.returns-then-belongs
returns-then-belongs c =
    let i = c.in-Ok.ensures in
    let z = page-told i.0 i.1 i.2 c.in-Ok.indexed.walking c.args.from c.args.out.now c.belongs.ensures c.if-belongs.true c.page_from-end.result c.page_from-end.ensures c.rest_of.ensures in
    record { value = z.0; out_after = z.1 }

pub returns : goal.returns
returns c =
    let i = c.in-Ok.ensures in
    let z = page-off i.0 i.1 i.2 c.in-Ok.indexed.walking c.args.from c.args.out.now c.belongs.ensures c.if-belongs.false c.from.ensures in
    record { value = z.0; out_after = z.1 }
