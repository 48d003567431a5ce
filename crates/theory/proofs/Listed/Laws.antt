-- Laws of `listed`: f at the n numbers from i on.
--     length-listed                       it has n members
--     Listed, listed-mem, mem-listed      its members are f at these numbers
--     all_listed                          so a property at each number is one of all members
--     get_elem?-listed, get_elem?-listed-past    the member at a place, and none past the last
--     listed_same                         two that agree number by number are equal
--     Steps, rises-listed, listed-rises   it rises exactly when each member is below the next one
--     laid                                members read from a list and laid end to end again are a part of it
use Rattle.std.specs.Prelude.{◌≡◌, List, [], ◌∷◌, ◌++◌, length, drop}
use Rattle.std.proofs.Math.Path.{refl, ap, subst}
use Rattle.std.proofs.Common.{sym, suc-add, eq-or-lt_of_le, arith, append_assoc}
use Rattle.std.proofs.Math.Logic.{⊎_elim}
use Rattle.std.proofs.Math.Option.{some, none as none-there}
use Prim.Native.Nat.{ℕ, zero, suc, ◌+◌, ◌≤◌, ◌<◌}
use Rattle.std.proofs.Math.Nat.{add-zero, add-suc}
use mathlib.Core.List.Memᴰ
use Rattle.std.proofs.Math.ListN.{get_elem?}
use Rattle.theory.specs.Lists.{all_nil, all_cons}
use Rattle.theory.specs.Rising.{Mem, All, Rises, none, more}
use Rattle.theory.specs.Listed.{listed}

module _ {A : Type 0} where
  pub length-listed : (n i : ℕ) (f : ℕ → A) → length (listed n i f) ≡ n
  unfolding listed
  length-listed zero i f = refl
  length-listed (suc n) i f = ap suc (length-listed n (suc i) f)

  -- x is f at one of the n numbers from i on
  pub record Listed (n i : ℕ) (f : ℕ → A) (x : A) : Type 0 where
    pub number : ℕ
    pub low : i ≤ number
    pub high : number < i + n
    pub is : x ≡ f number

  pub listed-mem : {x : A} (n i : ℕ) (f : ℕ → A) → Mem x (listed n i f) → Listed n i f x
  unfolding listed
  listed-mem zero i f m = absurd (Memᴰ.not-nil m)
  listed-mem (suc n) i f m =
      ⊎_elim (λ e. record { number = i; low = omega arith; high = omega arith; is = e })
      (λ k. later (listed-mem n (suc i) f k)) (Memᴰ.cases_cons m)
    where
      later : {x : A} → Listed n (suc i) f x → Listed (suc n) i f x
      later l = record { number = l.number; low = omega arith; high = omega arith; is = l.is }

  pub mem-listed : (n i : ℕ) (f : ℕ → A) (j : ℕ) → i ≤ j → j < i + n → Mem (f j) (listed n i f)
  unfolding listed
  mem-listed zero i f j l h = absurd (omega arith)
  mem-listed (suc n) i f j l h =
      ⊎_elim (λ e. Memᴰ.head (ap f (sym e))) (λ k. Memᴰ.tail (mem-listed n (suc i) f j k (omega arith)))
      (eq-or-lt_of_le l)

  pub all_listed : (P : A → Type 0) (n i : ℕ) (f : ℕ → A) → ((j : ℕ) → i ≤ j → j < i + n → P (f j)) → All P (listed n i f)
  all_listed P n i f h x m = let l = listed-mem n i f m in subst P (sym l.is) (h l.number l.low l.high)

  pub get_elem?-listed : (n i : ℕ) (f : ℕ → A) (j : ℕ) → j < n → get_elem? (listed n i f) j ≡ some (f (i + j))
  unfolding listed
  get_elem?-listed zero i f j h = absurd (omega arith)
  get_elem?-listed (suc n) i f zero h = rw add-zero
  get_elem?-listed (suc n) i f (suc j) h = rw (get_elem?-listed n (suc i) f j (omega arith), add-suc, suc-add)

  -- past the last member there is none
  pub get_elem?-listed-past : (n i : ℕ) (f : ℕ → A) (j : ℕ) → n ≤ j → get_elem? (listed n i f) j ≡ none-there
  unfolding listed
  get_elem?-listed-past zero i f j h = refl
  get_elem?-listed-past (suc n) i f zero h = absurd (omega arith)
  get_elem?-listed-past (suc n) i f (suc j) h = get_elem?-listed-past n (suc i) f j (omega arith)

  -- two that agree number by number are equal, each from a number of its own
  pub listed_same : (n i k : ℕ) (f g : ℕ → A) → ((j : ℕ) → j < n → f (i + j) ≡ g (k + j)) → listed n i f ≡ listed n k g
  unfolding listed
  listed_same zero i k f g h = refl
  listed_same (suc n) i k f g h =
      let first : f i ≡ g k = simp add-zero at (h 0 (omega arith)) in
      let others : listed n (suc i) f ≡ listed n (suc k) g =
      listed_same n (suc i) (suc k) f g (λ j l. simp (suc-add, ← add-suc) (h (suc j) (omega arith))) in
      cc

  module _ (key : A → ℕ) where
    -- each member is below the next one
    abbrev pub Steps : ℕ → ℕ → (ℕ → A) → Type 0
    Steps n i f = (j : ℕ) → i ≤ j → suc j < i + n → key (f j) < key (f (suc j))

    -- so the one before them is below them all
    above_listed : (n i : ℕ) (f : ℕ → A) → Steps (suc n) i f → All (λ b. key (f i) < key b) (listed n (suc i) f)
    unfolding listed
    above_listed zero i f h = all_nil _
    above_listed (suc n) i f h =
        let first : key (f i) < key (f (suc i)) = h i (omega arith) (omega arith) in
        let others = above_listed n (suc i) f (λ j l u. h j (omega arith) (omega arith)) in
        all_cons first (λ b m. omega (arith, others b m))

    pub rises-listed : (n i : ℕ) (f : ℕ → A) → Steps n i f → Rises key (listed n i f)
    unfolding listed
    rises-listed zero i f h = none
    rises-listed (suc n) i f h = more (above_listed n i f h) (rises-listed n (suc i) f (λ j l u. h j (omega arith) (omega arith)))

    pub listed-rises : (n i : ℕ) (f : ℕ → A) → Rises key (listed n i f) → Steps n i f
    unfolding listed
    listed-rises zero i f r j l u = absurd (omega arith)
    listed-rises (suc n) i f (more h r) j l u =
        let next = mem-listed n (suc i) f (suc i) (omega arith) (omega arith) in
        ⊎_elim (λ e. subst (λ k. key (f k) < key (f (suc k))) e (h (f (suc i)) next))
        (λ k. listed-rises n (suc i) f r j k (omega arith)) (eq-or-lt_of_le l)

-- `flat` lays what `one` makes of each member end to end: members read from s, each from its own place up to the place of the next one
pub laid : {A B : Type 0} (one : A → List B) (flat : List A → List B)
    → flat [] ≡ [] → ((a : A) (xs : List A) → flat (a ∷ xs) ≡ one a ++ flat xs)
    → (s : List B) (f : ℕ → A) (at : ℕ → ℕ) (n i : ℕ)
    → ((j : ℕ) → i ≤ j → j < i + n → one (f j) ++ drop (at (suc j)) s ≡ drop (at j) s)
    → flat (listed n i f) ++ drop (at (i + n)) s ≡ drop (at i) s
unfolding listed
laid one flat flat-nil flat-cons s f at zero i h = rw (flat-nil, add-zero)
laid one flat flat-nil flat-cons s f at (suc n) i h =
    let others : flat (listed n (suc i) f) ++ drop (at (i + suc n)) s ≡ drop (at (suc i)) s =
    rw (add-suc, ← suc-add) (laid one flat flat-nil flat-cons s f at n (suc i) (λ j l u. h j (omega arith) (omega arith))) in
    rw (flat-cons, append_assoc, others) (h i (omega arith) (omega arith))
