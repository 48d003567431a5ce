-- The keys of the first r runs are found; then the firsts of b blocks are kept.
use Rattle.std.proofs.Common.{◌≡◌, length}
use Rattle.merge_lead.specs.Heads.{Caching}
use Rattle.merge_lead.specs.Heads.Laws.{Found}
use Rattle.merge_lead.specs.Heads.Leads.{Nexts, Leading}
use Rattle.tray.specs.Frame.{run_count}
use Rattle.merge.proofs.fill_heads.Given as goal

abbrev pub invariant-loop-r : goal.invariant-loop-r
invariant-loop-r l =
    record {
      found : Found l.tray.bytes.now l.places l.heads.keys l.r;
      nexts : Nexts l.tray.bytes.now l.places l.heads.nexts l.r;
      tops : length l.heads.tops ≡ 8;
      firsts : length l.heads.firsts ≡ 8;
    }

abbrev pub invariant-loop-b : goal.invariant-loop-b
invariant-loop-b l =
    record {
      caching : Caching l.tray.bytes.now l.tray.counts l.tray.starts l.places l.heads.keys;
      nexts : Nexts l.tray.bytes.now l.places l.heads.nexts (run_count l.tray.bytes.now);
      leading : Leading l.heads.keys l.heads.tops l.heads.firsts l.b;
    }
