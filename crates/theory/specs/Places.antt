-- How far each run has been read, and what is then left of the view: the ground of building, checking and walking an index.
-- Places are a function: p i is how many records of run i have been read.
use Rattle.std.specs.Prelude.{ℕ, suc, ◌≡◌, cond, List, [], ◌∷◌, ◌++◌, eqb, leb}
use Rattle.std.proofs.Math.Option.{Option, none, some}
use Rattle.std.proofs.Math.ListN.{get_elem?}
use Rattle.theory.specs.Rising.{keep}
use Rattle.theory.specs.View.{Entry, At, view}

-- the place of run i raised by one
unfoldable pub bump : (ℕ → ℕ) → ℕ → ℕ → ℕ
bump p i j = cond (eqb i j) (suc (p j)) (p j)

module _ {A : Type 0} where
  -- what is left of the view
  unfoldable pub rest : (A → ℕ) → List (List A) → (ℕ → ℕ) → List (Entry A)
  rest key t p = keep (λ e. leb (p e.run) e.place) (view key t)

  -- the places after the entries have been read
  unfoldable pub passed : (ℕ → ℕ) → List (Entry A) → ℕ → ℕ
  passed p [] = p
  passed p (e ∷ es) = passed (bump p e.run) es

  -- the entries of run i
  unfoldable pub count : ℕ → List (Entry A) → ℕ
  count i [] = 0
  count i (e ∷ es) = cond (eqb e.run i) (suc (count i es)) (count i es)

  module _ (t : List (List A)) where
    -- e is the next record of its run
    pub record Head (p : ℕ → ℕ) (e : Entry A) : Type 0 where
      pub stands : At t e
      pub next : e.place ≡ p e.run

    -- the entries are read one by one, each the next of its run
    pub data Takes : (ℕ → ℕ) → List (Entry A) → Type 0 where
      take_none : {p : ℕ → ℕ} → Takes p []
      take_more : {p : ℕ → ℕ} {e : Entry A} {es : List (Entry A)} → Head p e → Takes (bump p e.run) es → Takes p (e ∷ es)

  -- the record at place j of run i, if there is one
  unfoldable pub head_of : ℕ → ℕ → Option A → List (Entry A)
  head_of i j none = []
  head_of i j (some a) = (record { run = i; place = j; item = a }) ∷ []

  -- the next record of each run that has one left, the first run being number i
  unfoldable pub heads_from : ℕ → List (List A) → (ℕ → ℕ) → List (Entry A)
  heads_from i [] p = []
  heads_from i (r ∷ rs) p = head_of i (p i) (get_elem? r (p i)) ++ heads_from (suc i) rs p

  -- the versions of key k among the next records, in run order: what a merge of all runs reads where k is the least key left
  unfoldable pub versions : (A → ℕ) → List (List A) → (ℕ → ℕ) → ℕ → List (Entry A)
  versions key t p k = keep (λ e. eqb (key e.item) k) (heads_from 0 t p)
