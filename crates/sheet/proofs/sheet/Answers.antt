-- The frames, the prefix and the walk decide, in this order.
use Rattle.std.proofs.Common.{refl, ⊎_elim, arith}
use Rattle.std.proofs.lemmas.Result.{err_from_is_err_and}
use Rattle.answers.specs.Sheet.{sheet_leaves}
use Rattle.sheet.specs.Write.{frames-off, framed-none, framed-long, framed-last, framed-gives}
use Rattle.sheet.proofs.sheet.Goals as goal

pub returns-in_err-indexed : goal.returns-in_err-indexed
returns-in_err-indexed c =
    let p = err_from_is_err_and c.from_residual.result c.from_residual.ensures.1 in
    let z = frames-off _ _ c.args.prefix.now c.args.out.now c.in_err-indexed.ensures in
    rw (p.1, p.2) (record { value = z.0; out_after = z.1 })

pub returns-then-k-eq0 : goal.returns-then-k-eq0
unfolding sheet_leaves
returns-then-k-eq0 c =
    let i = c.in_ok-indexed.ensures in
    record { value = ⊎_elim (framed-none i.0 i.1 i.2 _ _) (λ w. framed-long i.0 i.1 i.2 _ _ w.1) c.then-k-eq0.either; out_after = refl }

pub returns-then-prefix-k : goal.returns-then-prefix-k
unfolding sheet_leaves
returns-then-prefix-k c =
    let i = c.in_ok-indexed.ensures in
    record { value = framed-last i.0 i.1 i.2 _ (omega arith) (omega arith) _ c.if-prefix-k.true; out_after = refl }

pub returns : goal.returns
returns c =
    let i = c.in_ok-indexed.ensures in
    let z = framed-gives i.0 i.1 i.2 _ (omega arith) (omega arith) c.if-prefix-k.false c.low_key.ensures c.high_key.ensures c.sheet_between.ensures in
    record { value = z.0; out_after = z.1 }
