-- `build_take::put_selectors` meets its contract: record by record.
use Rattle.std.proofs.Common.{arith}
use Rattle.build_marks.specs.Code.Records.{putting-none, putting-more, putting-end, putting-all, old-low, mark-low, spelled}
use Rattle.build_take.proofs.put_selectors.Goals as goal

pub loop-at-init : goal.loop-at-init
loop-at-init g c = record { fits = c.requires.fits; putting = putting-none c.requires.bounds.0 }

pub returns-in_default-clause-stopped : goal.returns-in_default-clause-stopped
returns-in_default-clause-stopped g c = putting-end c.loop-at.invariant.putting c.in_default.ensures

pub loop-at-preserved : goal.loop-at-preserved
loop-at-preserved g c =
    record {
      fits = c.take-kind.ensures.fits_after;
      putting = putting-more
          c.loop-at.invariant.putting c.loop-at-test.true c.requires.bounds.1 c.in-Some.ensures c.old_mark.ensures
          (spelled _ _ _ _ c.take-kind.ensures.kind c.gone_mark.ensures) c.take-kind.ensures.places_after;
    }

pub returns-clause-stopped : goal.returns-clause-stopped
returns-clause-stopped g c = putting-all c.loop-at.invariant.putting c.loop-at-test.false

pub overflow_add-seg : goal.overflow_add-seg
overflow_add-seg g c = omega (arith, old-low _ _ c.old_mark.ensures, mark-low _ c.gone_mark.ensures)

pub overflow_add-seg-in-loop-at : goal.overflow_add-seg-in-loop-at
overflow_add-seg-in-loop-at g c =
    omega (arith, old-low _ _ c.old_mark.ensures, mark-low _ c.gone_mark.ensures, c.in-Some.ensures.run, c.args.tray.now.frame.few)
