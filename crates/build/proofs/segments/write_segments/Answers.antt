-- `build::segments::write_segments` meets its contract: segment by segment.
use Rattle.std.proofs.Common.{◌<◌, refl, arith}
use Rattle.build_spec.proofs.Build.Bytes.{cuts-few}
use Rattle.build_segment.specs.Segment.Loops.{merging-none, merging-low, merging-end, merging-less, merging-more, writing-none, writing-room, writing-end, writing_more, place-low, sounded-ready, sounded-fits}
use Rattle.build.proofs.segments.write_segments.Goals as goal

pub loop-left-init : goal.loop-left-init
loop-left-init c =
    record { merging = merging-none c.requires c.requires.records; writing = λ _. writing-none c.requires c.requires.records }

pub put_segment-requires : goal.put_segment-requires
put_segment-requires c =
    let l : c.loop-left.g < 4294967296 = omega (arith, c.loop-left.auto.g-fits) in
    (c.requires.most, rw c.segment_at-a.ensures (place-low c.requires l))

pub overflow_sub-left : goal.overflow_sub-left
overflow_sub-left c =
    let w = c.put_segment.ensures in
    (merging-less c.requires c.loop-left.invariant.merging c.loop-left-test.true w.long w.segmented).1

pub overflow_add-g : goal.overflow_add-g
overflow_add-g c =
    omega (
      arith,
      merging-low c.requires c.loop-left.invariant.merging c.loop-left-test.true,
      cuts-few (sounded-ready c.requires) (sounded-fits c.requires),
    )

pub loop-left-smaller : goal.loop-left-smaller
loop-left-smaller c =
    let w = c.put_segment.ensures in
    let less = merging-less c.requires c.loop-left.invariant.merging c.loop-left-test.true w.long w.segmented in
    omega (arith, less.0, less.1)

pub loop-left-preserved : goal.loop-left-preserved
loop-left-preserved c =
    let i = c.loop-left.invariant in
    let w = c.put_segment.ensures in
    record {
      merging = merging-more c.requires i.merging c.loop-left-test.true w.long w.segmented;
      writing = λ room. writing_more c.requires (i.writing room) c.loop-left-test.true room w.long w.segmented c.segment_at-a.ensures
          (w.placed (let fit = writing-room c.requires room (i.writing room) c.loop-left-test.true c.segment_at-a.ensures refl in omega (arith, fit.1, fit.2)));
    }

pub returns-clause-value : goal.returns-clause-value
returns-clause-value c = merging-end c.requires c.loop-left.invariant.merging c.loop-left-test.false

pub returns-clause-out_after : goal.returns-clause-out_after
returns-clause-out_after c = λ room. writing-end c.requires (c.loop-left.invariant.writing room) c.loop-left-test.false
