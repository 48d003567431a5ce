-- `drawer_line::answer_frame` meets its contract: a way out for each kind.
use Rattle.std.proofs.Common.{arith}
use Rattle.drawer_spec.specs.Turns.{turned-1, turned-2, turned-3, turned-4, bad-2, bad-3, bad-kind}
use Rattle.drawer_line.proofs.answer_frame.Goals as goal
use Rattle.drawer_line.proofs.answer_frame.Goals.{in_default-via-in-2+else-rest-eq1, in_default-via-in_default-1}

pub returns-in-1 : goal.returns-in-1
returns-in-1 g c = turned-1 c.args.frame.now c.requires.frame_nonzero c.in-1.is c.keep_tray.ensures

pub returns-in-2 : goal.returns-in-2
returns-in-2 g c = turned-2 c.args.frame.now c.requires.frame_nonzero c.in-2.is c.if-rest-eq1.true c.keep_index.ensures

pub returns-in-Ok : goal.returns-in-Ok
returns-in-Ok g c =
    let chunk = c.in-Ok.ensures.1 in
    turned-3 c.args.frame.now c.requires.frame_nonzero c.in-3.is chunk.long chunk.same c.look_up.ensures

pub returns-in-Err : goal.returns-in-Err
returns-in-Err g c = bad-3 c.args.frame.now c.requires.frame_nonzero c.put_bad.ensures c.in-3.is c.in-Err.ensures.1

pub returns-in-4 : goal.returns-in-4
returns-in-4 g c = turned-4 c.args.frame.now c.requires.frame_nonzero c.in-4.is c.list.ensures

pub returns-in_default : goal.returns-in_default
returns-in_default g c =
    elim c.in_default.branch [
      | in_default-via-in-2+else-rest-eq1 w ↦ bad-2 c.args.frame.now c.requires.frame_nonzero c.put_bad-in_default.ensures w.in-2.is w.if-rest-eq1.false
      | in_default-via-in_default-1 w ↦ bad-kind
          c.args.frame.now
          c.requires.frame_nonzero
          c.put_bad-in_default.ensures
          (λ z. omega arith)
          (λ z. omega arith)
          (λ z. omega arith)
          (λ z. omega arith)
    ]
