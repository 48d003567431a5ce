-- `fold::fold_one` meets its contract: the tray is the folded tray.
use Rattle.std.proofs.Common.{refl, ◌∙◌, ap}
use Rattle.number.specs.Big.{put}
use Rattle.fold.specs.Answers.{one-run, answer-fits, answer-short, leaves-tray, leaves-same}
use Rattle.fold.proofs.fold_one.Goals as goal

pub returns-then-out-size-clause-value : goal.returns-then-out-size-clause-value
returns-then-out-size-clause-value c =
    let o = one-run c.requires.folding c.requires.one in answer-short _ _ _ _ refl o.short o.size c.if-out-size.true

pub returns-then-out-size-clause-out_after : goal.returns-then-out-size-clause-out_after
returns-then-out-size-clause-out_after c = leaves-same _ _ _ _ _

pub returns-clause-value : goal.returns-clause-value
returns-clause-value c =
    let o = one-run c.requires.folding c.requires.one in answer-fits _ _ _ _ refl o.short o.size c.if-out-size.false

pub returns-clause-out_after : goal.returns-clause-out_after
returns-clause-out_after c =
    let o = one-run c.requires.folding c.requires.one in leaves-tray _ _ _ _ _ (c.copy.ensures ∙ ap (put c.args.out.now 0) o.copy)
