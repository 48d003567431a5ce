-- What the laws of folds speak of. The laws: `proofs/Fold/Laws.antt`.
use Rattle.std.specs.Prelude.{ℕ, ◌≤◌, ◌<◌, List}
use Rattle.std.proofs.Math.ListN.{length}
use Rattle.number.specs.Big.{Bytes}
use Rattle.theory.specs.Records.{Record}
use Rattle.theory.specs.Hiding.{Rule, same_key}
use Rattle.theory.proofs.Hiding.Laws.{same_key-rule}
use Rattle.tray.specs.Frame.{run_count}
use Rattle.tray.specs.Check.{Sound}
use Rattle.tray.specs.Meaning.{runs_of}
use Rattle.fold_spec.specs.Fold.{key_of, folded_run}

-- edition 0's rule, over any property of records
abbrev pub key_rule : (Ok : Record → Type 0) → Rule Ok key_of (same_key key_of)
key_rule Ok = same_key-rule Ok key_of

-- the bounds hold: a is at most b, and b is a run of the tray
pub record InBounds (t : List ℕ) (a b : ℕ) : Type 0 where
  pub order : a ≤ b
  pub within : b < run_count t

-- a sound tray, bounds that hold, and a folded run that is not too long
pub record Foldable (t : List ℕ) (a b : ℕ) : Type 0 where
  pub sound : Sound t
  pub bytes : Bytes t
  pub bounds : InBounds t a b
  pub short : length (folded_run a b (runs_of t)) ≤ 4096
