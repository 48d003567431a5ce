-- The sorted view of a tray (docs/RULES.md, "The sorted view"): all records of all runs by rising key; equal keys by rising run number,
-- so newest first. A record in the view stands with its run and its place in the run.
use Rattle.std.specs.Prelude.{ℕ, suc, ◌+◌, ◌*◌, ◌<◌, ◌≡◌, ◌⊎◌, Bool, not, ◌&&◌, List, [], ◌∷◌, ◌++◌, take, get_or}
use Rattle.std.proofs.Math.Option.{some}
use Rattle.std.proofs.Math.ListN.{get_elem?}
use Rattle.theory.specs.Rising.{All, Permuted, any, insert_all}
use Rattle.theory.specs.Merge.{hidden}

-- a record with the run it stands in and its place there
pub record Entry (A : Type 0) : Type 0 where
  pub run : ℕ
  pub place : ℕ
  pub item : A

module _ {A : Type 0} where
  -- the records of run i from place j on
  unfoldable pub spread : ℕ → ℕ → List A → List (Entry A)
  spread i j [] = []
  spread i j (a ∷ xs) = (record { run = i; place = j; item = a }) ∷ spread i (suc j) xs

  -- the records of all runs, the first of which is number i
  unfoldable pub entries_from : ℕ → List (List A) → List (Entry A)
  entries_from i [] = []
  entries_from i (r ∷ rs) = spread i 0 r ++ entries_from (suc i) rs

  -- the records of all runs, run 0 first
  abbrev pub entries : List (List A) → List (Entry A)
  entries t = entries_from 0 t

  -- run number i of the tray, or no record
  unfoldable pub run_at : List (List A) → ℕ → List A
  run_at t i = get_or t i []

  -- the entry stands in the tray: its run holds its record at its place
  abbrev pub At : List (List A) → Entry A → Type 0
  At t e = get_elem? (run_at t e.run) e.place ≡ some e.item

  module _ (key : A → ℕ) where
    -- the order of the view: by key, and at one key by run
    abbrev pub Before : Entry A → Entry A → Type 0
    Before e e' = (key e.item < key e'.item) ⊎ ((key e.item ≡ key e'.item) × (e.run < e'.run))

    -- each entry stands before all that follow it
    pub data InOrder : List (Entry A) → Type 0 where
      order-none : InOrder []
      order-more : {e : Entry A} {es : List (Entry A)} → All (Before e) es → InOrder es → InOrder (e ∷ es)

    -- the view in the rules' words: every record of the tray once, in order
    pub record IsView (t : List (List A)) (v : List (Entry A)) : Type 0 where
      pub all : Permuted (entries t) v
      pub sorted : InOrder v

    -- the order as one number, for up to 64 runs
    abbrev pub rank : Entry A → ℕ
    rank e = key e.item * 64 + e.run

    -- the view, computed: by `view-is` and `view-one` the one list that `IsView` admits
    unfoldable pub view : List (List A) → List (Entry A)
    view t = insert_all rank (entries t) []

  module _ (hides : A → A → Bool) where
    -- a lower-numbered run hides it
    unfoldable pub old : List (List A) → Entry A → Bool
    old t e = any (λ r. hidden hides r e.item) (take e.run t)

    -- live and not old
    unfoldable pub visible : (A → Bool) → List (List A) → Entry A → Bool
    visible live t e = live e.item && not (old t e)
