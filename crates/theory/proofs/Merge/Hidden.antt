-- Laws of `hidden`, and the words in which the laws of merging say what is left.
-- Beside the worked cases only this file looks inside `hidden`.
--     hidden-by, hidden-some       a run that hides a record has one that does, and the other way round
--     hidden-none, none_hidden     a run that does not has none
--     Stays, NotOld                a record of two runs, or of a tray, that nothing newer hides
use Rattle.std.specs.Prelude.{◌≡◌, ◌⊎◌, Bool, true, false, List, ◌∷◌, ◌++◌}
use Rattle.theory.specs.Rising.{Mem, All, any}
use Rattle.theory.proofs.Rising.Kept.{some-any, any_some, none_any, any_none}
use Rattle.theory.specs.Merge.{hidden}

module _ {A : Type 0} (hides : A → A → Bool) where
  pub hidden-by : {x : A} (run : List A) → hidden hides run x ≡ true → (a : A) × Mem a run × (hides a x ≡ true)
  unfolding hidden
  hidden-by {x} run h = any_some (λ a. hides a x) run h

  pub hidden-some : {a x : A} (run : List A) → Mem a run → hides a x ≡ true → hidden hides run x ≡ true
  unfolding hidden
  hidden-some {x = x} run m h = some-any (λ a. hides a x) run m h

  pub hidden-none : {x : A} (run : List A) → All (λ a. hides a x ≡ false) run → hidden hides run x ≡ false
  unfolding hidden
  hidden-none {x} run h = any_none (λ a. hides a x) run h

  pub none_hidden : {a x : A} (run : List A) → hidden hides run x ≡ false → Mem a run → hides a x ≡ false
  unfolding hidden
  none_hidden {x = x} run h m = none_any (λ a. hides a x) run h m

  -- x is a record of the newer run, or of the older one and the newer does not hide it
  abbrev pub Stays : List A → List A → A → Type 0
  Stays newer older x = Mem x newer ⊎ (Mem x older × (hidden hides newer x ≡ false))

  -- x is a record of the tray that no newer run hides
  pub record NotOld (x : A) (t : List (List A)) : Type 0 where
    pub newer : List (List A)
    pub run : List A
    pub older : List (List A)
    pub splits : t ≡ newer ++ (run ∷ older)
    pub stands : Mem x run
    pub unhidden : any (λ r. hidden hides r x) newer ≡ false
