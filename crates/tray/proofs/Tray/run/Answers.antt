-- `cut` says that the stretch handed on is the run.
use Rattle.tray.proofs.FrameCode.{cut}
use Rattle.tray.proofs.Tray.run.Goals as goal

pub slice_bounds-result-count : goal.slice_bounds-result-count
slice_bounds-result-count c = (cut _ c.args.self.now.frame.at c.requires c.from-i.ensures).start

pub slice_bounds-result-start : goal.slice_bounds-result-start
slice_bounds-result-start c = (cut _ c.args.self.now.frame.at c.requires c.from-i.ensures).start

pub slice_bounds-result-end : goal.slice_bounds-result-end
slice_bounds-result-end c = (cut _ c.args.self.now.frame.at c.requires c.from-i.ensures).end

pub returns : goal.returns
returns c =
    let k = cut _ c.args.self.now.frame.at c.requires c.from-i.ensures in
    record { bytes = k.bytes; records = k.whole }
