-- The merge of a tray with one run.
use Rattle.std.specs.Prelude.{◌≡◌, ◌*◌, length}
use Rattle.tray.specs.declared.Tray.{Tray}
use Rattle.tray.specs.Frame.{count_of, run_bytes}
use Rattle.merge.specs.declared.merging.One.{One}

-- a tray has one run, and this is it
pub record IsOne (tray : Tray) (one : One) : Type 0 where
  pub one-run : tray.runs ≡ 1
  pub run : one.run.now ≡ run_bytes tray.bytes.now 0
  pub records : one.records ≡ count_of tray.bytes.now 0
  pub long : length one.run.now ≡ 25 * one.records
