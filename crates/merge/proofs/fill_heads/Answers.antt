-- `merge::fill_heads` meets its contract: run by run, then block by block.
use Rattle.std.proofs.Common.{◌+◌, ◌∙◌, ap, arith, get_or}
use Rattle.tray.specs.Frame.{count_of, run_bytes}
use Rattle.merge_lead.specs.Heads.{key_or, next_key}
use Rattle.merge_lead.specs.Heads.Laws.{found_none, found-more, found_all}
use Rattle.merge_lead.specs.Heads.Leads.Laws.{tray-reading, nexts-none, nexts-more, nexts-all, leading-none}
use Rattle.merge.proofs.fill_heads.Goals as goal

pub loop-r-init : goal.loop-r-init
loop-r-init c =
    record { found = found_none c.requires.padded; nexts = nexts-none _ _ c.requires.nexts; tops = c.requires.tops; firsts = c.requires.firsts }

pub loop-r-preserved : goal.loop-r-preserved
unfolding next_key
loop-r-preserved c =
    let t = c.args.tray.now.bytes.now in
    let r = c.loop-r.r in
    let i = c.loop-r.invariant in
    record {
      found = found-more (omega (arith, c.args.tray.now.frame.runs, c.args.tray.now.frame.few)) i.found (omega (arith, c.args.tray.now.frame.runs, c.loop-r-test.true)) c.from-i.ensures
          (c.key_or.ensures ∙ ap (λ j. key_or (run_bytes t r) (count_of t r) (get_or c.args.places.now j 0)) c.from-i.ensures);
      nexts = nexts-more i.nexts (omega (arith, c.args.tray.now.frame.few, c.loop-r-test.true)) c.from-i.ensures
          (c.key_after.ensures ∙ ap (λ j. key_or (run_bytes t r) (count_of t r) (get_or c.args.places.now j 0 + 1)) c.from-i.ensures);
      tops = i.tops;
      firsts = i.firsts;
    }

pub loop-b-init : goal.loop-b-init
loop-b-init c =
    let i = c.loop-r.invariant in
    let runs = c.args.tray.now.frame.runs in
    record {
      caching = found_all (tray-reading c.args.tray.now c.told-places) i.found runs c.loop-r-test.false;
      nexts = nexts-all i.nexts runs c.loop-r-test.false;
      leading = leading-none i.found.padded.room i.tops i.firsts;
    }
