-- The first wrong record of a tray, as the rules have it. The laws: `proofs/Check/Laws.antt`.
use Rattle.std.specs.Prelude.{◌≡◌, List}
use Prim.Native.Nat.{ℕ, ◌<◌}
use Rattle.std.proofs.Math.Bool.{true}
use Rattle.tray.specs.Frame.{count_of, run_bytes}
use Rattle.tray.specs.Run.{record_at, kind_wrong, key_wrong}
use Rattle.tray.specs.Run.Laws.{Fine}

module _ (t : List ℕ) where
  -- all records of run r are right
  abbrev pub FineRun : ℕ → Type 0
  FineRun r = (i : ℕ) → i < count_of t r → Fine (run_bytes t r) i

  -- all records of the runs before run r are right
  abbrev pub FineRuns : ℕ → Type 0
  FineRuns r = (q : ℕ) → q < r → FineRun q

  -- the two ways of being wrong
  pub data Wrong (r p : ℕ) : Type 0 where
    kind-wrong : kind_wrong (record_at (run_bytes t r) p) ≡ true → Wrong r p
    key-wrong : key_wrong (run_bytes t r) p ≡ true → Wrong r p
