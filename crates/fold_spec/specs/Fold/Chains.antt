-- Everything folded at once, and what a fold of a chain gives. The laws of chains: `proofs/Fold/Chains.antt`.
use Rattle.std.specs.Prelude.{◌≡◌, ℕ, ◌-◌, List}
use Rattle.number.specs.Big.{Bytes}
use Rattle.theory.specs.Records.{Record}
use Rattle.theory.specs.Hiding.{same_key}
use Rattle.theory.specs.Merge.{merged}
use Rattle.tray.specs.Frame.{run_count}
use Rattle.tray.specs.Check.{Sound}
use Rattle.tray.specs.Meaning.{runs_of}
use Rattle.fold_spec.specs.Fold.{key_of, folded_run, folded_runs, fold_bytes, fold_size}
use Rattle.fold_spec.specs.Fold.Laws.{Foldable}

-- the merge of all of a tray's runs
abbrev pub merge_of : List ℕ → List Record
merge_of t = merged key_of (same_key key_of) (runs_of t)

-- everything folded at once: its one run
abbrev pub whole_run : List ℕ → List Record
whole_run t = folded_run 0 (run_count t - 1) (runs_of t)

-- u is the folded tray
pub record Gives (t : List ℕ) (a b : ℕ) (u : List ℕ) : Type 0 where
  pub foldable : Foldable t a b
  pub is : u ≡ fold_bytes a b (runs_of t)
  pub sound : Sound u
  pub bytes : Bytes u
  pub means : runs_of u ≡ folded_runs a b (runs_of t)

-- everything folded at once, as bytes, and how many they are
abbrev pub whole_bytes : List ℕ → List ℕ
whole_bytes t = fold_bytes 0 (run_count t - 1) (runs_of t)

abbrev pub whole_size : List ℕ → ℕ
whole_size t = fold_size 0 (run_count t - 1) (runs_of t)
