-- Runs of records merged (docs/RULES.md, "The sorted view" and "Folding"): one over another, all of a tray, neighbours folded, chains of folds.
-- A tray is a list of runs, newest first; a run is a list of records.
use Rattle.std.specs.Prelude.{ℕ, suc, ◌-◌, ◌≤◌, ◌<◌, Bool, not, List, [], ◌∷◌, ◌++◌, length, take, drop}
use Rattle.theory.specs.Rising.{All, Rises, any, keep, insert_all}

-- some record of the run hides the record
unfoldable pub hidden : {A : Type 0} → (A → A → Bool) → List A → A → Bool
hidden hides run b = any (λ a. hides a b) run

module _ {A : Type 0} (key : A → ℕ) (hides : A → A → Bool) where
  -- two neighbouring runs made one: all of the newer, and of the older what the newer does not hide
  unfoldable pub over : List A → List A → List A
  over newer older = insert_all key newer (keep (λ b. not (hidden hides newer b)) older)

  -- all runs made one
  unfoldable pub merged : List (List A) → List A
  merged [] = []
  merged (r ∷ rs) = over r (merged rs)

  -- runs a to b made one, the others as they are
  unfoldable pub fold : ℕ → ℕ → List (List A) → List (List A)
  fold a b t = take a t ++ (merged (take (suc b - a) (drop a t)) ∷ drop (suc b) t)

  -- a chain of folds, each of runs that the tray has
  pub data Chain : List (List A) → List (List A) → Type 0 where
    done : {t : List (List A)} → Chain t t
    step : {t u : List (List A)} (a b : ℕ) → a ≤ b → b < length t → Chain (fold a b t) u → Chain t u

  -- a chain of at least one fold
  pub data Folds : List (List A) → List (List A) → Type 0 where
    folds : {t u : List (List A)} (a b : ℕ) → a ≤ b → b < length t → Chain (fold a b t) u → Folds t u

-- a run as a sound tray has it: its keys rise strictly and its records are sound
pub record GoodRun {A : Type 0} (Ok : A → Type 0) (key : A → ℕ) (run : List A) : Type 0 where
  pub rises : Rises key run
  pub sound : All Ok run

-- every run of the tray is good
abbrev pub Good : {A : Type 0} (Ok : A → Type 0) (key : A → ℕ) → List (List A) → Type 0
Good Ok key t = All (GoodRun Ok key) t
