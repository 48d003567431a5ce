-- `fold::fold_runs` meets its contract: the length of the merge decides on 12, and the size of the folded tray on 7.
use Rattle.std.proofs.Common.{arith}
use Rattle.tray.specs.Meaning.{runs_of}
use Rattle.fold.specs.Answers.{answer-long, answer-fits, answer-short, leaves-tray, leaves-same, noted-folded}
use Rattle.fold.proofs.fold_runs.Goals as goal

pub returns-then-n-gt4096-clause-value : goal.returns-then-n-gt4096-clause-value
returns-then-n-gt4096-clause-value c =
    let w = noted-folded _ _ (runs_of c.args.runs.now.tray.bytes.now) c.merge_runs-n.ensures in answer-long _ _ _ _ w.number (omega arith)

pub returns-then-n-gt4096-clause-out_after : goal.returns-then-n-gt4096-clause-out_after
returns-then-n-gt4096-clause-out_after c = leaves-same _ _ _ _ _

pub folded_size-size-requires-clause-number : goal.folded_size-size-requires-clause-number
folded_size-size-requires-clause-number c = (noted-folded _ _ (runs_of c.args.runs.now.tray.bytes.now) c.merge_runs-n.ensures).number

pub returns-then-out-size-clause-value : goal.returns-then-out-size-clause-value
returns-then-out-size-clause-value c =
    let w = noted-folded _ _ (runs_of c.args.runs.now.tray.bytes.now) c.merge_runs-n.ensures in
    answer-short _ _ _ _ w.number (omega arith) c.folded_size-size.ensures c.if-out-size.true

pub returns-then-out-size-clause-out_after : goal.returns-then-out-size-clause-out_after
returns-then-out-size-clause-out_after c = leaves-same _ _ _ _ _

pub write_tray-requires-clause-are : goal.write_tray-requires-clause-are
write_tray-requires-clause-are c =
    let w = noted-folded _ _ (runs_of c.args.runs.now.tray.bytes.now) c.merge_runs-n.ensures in w.are (omega arith)

pub returns-clause-value : goal.returns-clause-value
returns-clause-value c =
    let w = noted-folded _ _ (runs_of c.args.runs.now.tray.bytes.now) c.merge_runs-n.ensures in
    answer-fits _ _ _ _ w.number (omega arith) c.folded_size-size.ensures c.if-out-size.false

pub returns-clause-out_after : goal.returns-clause-out_after
returns-clause-out_after c = leaves-tray _ _ _ _ _ c.write_tray.ensures
