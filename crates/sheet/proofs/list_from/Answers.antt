-- The first pass is lost, or what it counted is written.
use Rattle.std.specs.Prelude.{◌≤◌}
use Rattle.std.proofs.Common.{arith}
use Rattle.std.proofs.lemmas.Result.{err_from_is_err_and}
use Rattle.sheet.specs.Write.{gives-lost, gives-listed}
use Rattle.sheet.proofs.list_from.Goals as goal

pub count_from-counted-requires : goal.count_from-counted-requires
count_from-counted-requires c =
    let byte : c.args.listing.now.indexed.now.index.size ≤ 255 = c.args.listing.now.indexed.now.index.byte in
    omega arith

pub returns-in_err-counted : goal.returns-in_err-counted
returns-in_err-counted c =
    let p = err_from_is_err_and c.from_residual.result c.from_residual.ensures.1 in
    rw (p.1, p.2) (gives-lost c.args.out.now c.count_from-counted.ensures.counts c.in_err-counted.was)

pub returns : goal.returns
returns c = gives-listed c.args.high c.count_from-counted.ensures.counts c.in_ok-counted.was c.write_counted.ensures
