-- `build_segment::put_segment` meets its contract: one write right after the other.
use Rattle.std.proofs.Common.{◌≡◌, ◌+◌, ◌*◌, ◌-◌, ◌∙◌, ap, arith, length, replicate}
use Rattle.number.specs.Big.{put}
use Rattle.build_marks.specs.Code.Writes.{segmented}
use Rattle.build_segment.proofs.put_segment.Goals as goal

pub returns : goal.returns
returns g c =
    let seg = c.put_keys-end.new.seg in
    let end = c.put_keys-end.result in
    let long : length seg ≡ (8 + 2 * c.from.result) + c.from-2.result =
    omega (arith, c.requires.seg_len, c.write.auto.out, c.put_offsets.auto.seg, c.put_keys-end.auto.seg, c.from.ensures, c.from-2.ensures) in
    segmented c.least_key-anchor.ensures c.write.ensures c.put_offsets.ensures
    (omega (arith, c.from.ensures)) (omega (arith, c.from.ensures, c.from-2.ensures))
    c.put_keys-end.ensures.fills c.put_keys-end.ensures.lower_bound.0 c.put_keys-end.ensures.lower_bound.1
    (c.put_placeholders.ensures ∙ ap (λ n. put seg end (replicate (n - end) 63)) long)
