-- `build_segment::put_placeholders` meets its contract: the stretch that is filled is as long as the rest.
use Rattle.std.proofs.Common.{◌≡◌, ◌-◌, ◌∙◌, sym, ap, arith, length, take, drop, replicate, length-drop, length-take-le}
use Rattle.std.proofs.lemmas.List.{length-replicate}
use Rattle.number.proofs.Big.Writes.{put_mid-put}
use Rattle.build_segment.proofs.put_placeholders.Goals as goal

pub returns : goal.returns
returns c =
    let s = c.args.seg.now in
    let n = length s - c.args.from in
    let long : length (take n (drop c.args.from s)) ≡ n = length-take-le n (drop c.args.from s) (simp length-drop (omega arith)) in
    let filled = c.fill.ensures.after (λ y e. e) ∙ ap (λ k. replicate k 63) long in
    rw filled (put_mid-put _ _ _ _ (sym (length-replicate n 63)))
