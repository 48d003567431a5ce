-- `build::segments::put_segment` meets its contract: the stretch of the output is lent and given back.
use Rattle.std.proofs.Common.{◌+◌, ◌*◌, arith}
use Rattle.build_segment.specs.Segment.Loops.{lent-long, lent_back}
use Rattle.build.proofs.segments.put_segment.Goals as goal

pub returns-then-a-w : goal.returns-then-a-w
returns-then-a-w c =
    let out = c.args.out.now in
    let a = c.args.a in
    let e = a + (8 + 2 * c.from.result + c.from-2.result) in
    record {
      old = _;
      new = c.write_segment.new.seg;
      long = lent-long out a e (omega arith) c.if-a-w.true (omega (arith, c.from.ensures, c.from-2.ensures));
      segmented = c.write_segment.ensures;
      placed = λ _. lent_back out c.write_segment.new.seg a e (omega arith) c.if-a-w.true c.write_segment.auto.seg;
    }
