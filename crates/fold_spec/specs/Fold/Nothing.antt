-- A tray without one of its runs, and a fold that takes a run away and nothing else. The laws: `proofs/Fold/Nothing.antt`.
use Rattle.std.specs.Prelude.{◌≡◌, drop}
use Prim.Native.Nat.{ℕ, suc}
use mathlib.Core.List.{List, ◌++◌}
use Rattle.std.proofs.Math.ListN.{take}
use Rattle.number.specs.Big.{Bytes}
use Rattle.tray.specs.Check.{Sound}
use Rattle.tray.specs.Meaning.{runs_of, tray_bytes}
use Rattle.fold_spec.specs.Fold.{fold_bytes}
use Rattle.fold_spec.specs.Fold.Laws.{Foldable}
use Rattle.fold_spec.specs.Fold.Chains.{merge_of}

-- the runs without run r
unfoldable pub without : {A : Type 0} → ℕ → List A → List A
without r rs = take r rs ++ drop (suc r) rs

-- a tray's bytes without its run r
unfoldable pub without_run : ℕ → List ℕ → List ℕ
without_run r t = tray_bytes (without r (runs_of t))

-- the tray without run r is a sound tray of the other runs
pub record Removed (t : List ℕ) (r : ℕ) : Type 0 where
  pub sound : Sound (without_run r t)
  pub bytes : Bytes (without_run r t)
  pub runs : runs_of (without_run r t) ≡ without r (runs_of t)

-- runs a and a + 1 folded leave the tray without run i, no length refuses them, and what is read stays
pub record AddsNothing (t : List ℕ) (a i : ℕ) : Type 0 where
  pub removed : Removed t i
  pub foldable : Foldable t a (suc a)
  pub folds : fold_bytes a (suc a) (runs_of t) ≡ without_run i t
  pub merge : merge_of (without_run i t) ≡ merge_of t
