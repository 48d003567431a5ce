-- `build_segment::put_offsets` meets its contract: run by run.
use Rattle.std.proofs.Common.{refl, sym, ◌∙◌, arith}
use Rattle.build_marks.specs.Code.Writes.{offsets-start, offsets-end, offsets-next}
use Rattle.build_segment.proofs.put_offsets.Goals as goal

pub loop-r-init : goal.loop-r-init
loop-r-init c = record { long = refl; same = offsets-start _ _ _ }

pub loop-r-preserved : goal.loop-r-preserved
loop-r-preserved c =
    let i = c.loop-r.invariant in
    record {
      long = omega (arith, c.write.auto.out, i.long);
      same = offsets-next c.args.places.now _ c.write.ensures (omega arith) (omega (arith, i.long, c.requires)) ∙ i.same;
    }

pub returns : goal.returns
returns c = sym (offsets-end c.args.places.now _ _ (omega arith)) ∙ c.loop-r.invariant.same
