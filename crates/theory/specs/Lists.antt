-- Laws of lists that belong to no definition of ours, and that the library does not have: members, places, neighbours and parts.
--     here, all_nil, all_cons, all_tail    the first member; a property of all members, a member at a time
--     no-members                           a list without members is empty
--     none-some                            nothing is not something
--     place-mem, mem-place                 a member stands at a place
--     place-lt, lt-place                   the places are those below the length
--     place-get_or, place_none               the same with a default; past the end there is nothing
--     chain-at                             neighbours anywhere in a chain are related
--     first-before, last-after             the first and the last member of two lists put together
--     part-on, part_end, part-next         a part and what follows it
-- Not here: lists that rise, what is kept of a list and put into one (`Rising`); f at numbers in a row (`Listed`).
use Rattle.std.specs.Prelude.{◌≡◌, refl, ℕ, zero, suc, ◌+◌, ◌≤◌, ◌<◌, length, get_or, take, drop}
use Rattle.std.proofs.Common.{sym, ap, ◌∙◌, ⊎_elim, not-suc-le-zero, arith, length-append, take-append-drop, drop_of_length-le, drop-drop, drop_at}
use Rattle.std.proofs.Math.Option.{Option, none, some, some-injective}
use mathlib.Core.List.Memᴰ
use mathlib.Core.List.{List, [], ◌∷◌, ◌++◌, append-nil, head-eq_of_cons-eq, tail-eq_of_cons-eq, IsChain, rel_of_IsChain-cons-cons, IsChain-of_IsChain-cons}
use Rattle.std.proofs.Math.ListN.{get_elem?}
use Rattle.theory.specs.Tests.{never}
use Rattle.theory.specs.Rising.{Mem, All}

module _ {A : Type 0} where
  -- the first member is a member
  pub here : {a : A} {xs : List A} → Mem a (a ∷ xs)
  here = Memᴰ.head refl

  -- the empty list has no member to ask
  pub all_nil : (P : A → Type 0) → All P []
  all_nil P a m = absurd (Memᴰ.not-nil m)

  -- what holds of the first and of all that follow holds of all
  pub all_cons : {P : A → Type 0} {x : A} {xs : List A} → P x → All P xs → All P (x ∷ xs)
  all_cons p ps a (Memᴰ.head e) = rw e p
  all_cons p ps a (Memᴰ.tail m) = ps a m

  -- what holds of all holds of all that follow the first
  pub all_tail : {P : A → Type 0} {x : A} {xs : List A} → All P (x ∷ xs) → All P xs
  all_tail ps a m = ps a (Memᴰ.tail m)

  -- a list without members is empty
  pub no-members : (xs : List A) → ((a : A) → Mem a xs → ⊥) → xs ≡ []
  no-members [] h = refl
  no-members (a ∷ xs) h = absurd (h a here)

  -- nothing is not something
  pub none-some : {Q : Type 0} {a : A} → ◌≡◌ {A = Option A} none (some a) → Q
  none-some e = never (cc)

  -- what stands at a place is a member
  pub place-mem : (xs : List A) (j : ℕ) {a : A} → get_elem? xs j ≡ some a → Mem a xs
  place-mem [] j e = none-some e
  place-mem (b ∷ xs) zero e = Memᴰ.head (sym (some-injective _ _ e))
  place-mem (b ∷ xs) (suc j) e = Memᴰ.tail (place-mem xs j e)

  -- a member stands at a place
  pub mem-place : {a : A} (xs : List A) → Mem a xs → (j : ℕ) × (get_elem? xs j ≡ some a)
  mem-place [] m = absurd (Memᴰ.not-nil m)
  mem-place {a} (b ∷ xs) m =
      ⊎_elim (λ e. (zero, ap {B = Option A} some (sym e))) (λ n. let w = mem-place xs n in (suc w.0, w.1))
      (Memᴰ.cases_cons m)

  -- a place that holds something is below the length
  pub place-lt : (xs : List A) (j : ℕ) {a : A} → get_elem? xs j ≡ some a → j < length xs
  place-lt [] j e = none-some e
  place-lt (b ∷ xs) zero e = omega arith
  place-lt (b ∷ xs) (suc j) e = let l : j < length xs = place-lt xs j e in omega arith

  -- a place below the length holds something
  pub lt-place : (xs : List A) (j : ℕ) → j < length xs → (a : A) × (get_elem? xs j ≡ some a)
  lt-place [] j l = absurd (omega arith)
  lt-place (b ∷ xs) zero l = (b, refl)
  lt-place (b ∷ xs) (suc j) l = lt-place xs j (omega arith)

  -- what stands at a place, asked for with a default
  pub place-get_or : (xs : List A) (j : ℕ) (d : A) {a : A} → get_elem? xs j ≡ some a → get_or xs j d ≡ a
  place-get_or [] j d e = none-some e
  place-get_or (b ∷ xs) zero d e = some-injective _ _ e
  place-get_or (b ∷ xs) (suc j) d e = place-get_or xs j d e

  -- past the end there is nothing
  pub place_none : (xs : List A) (j : ℕ) → length xs ≤ j → get_elem? xs j ≡ none
  place_none [] j l = refl
  place_none (b ∷ xs) zero l = absurd (omega arith)
  place_none (b ∷ xs) (suc j) l = place_none xs j (omega arith)

  -- neighbours anywhere in a chain are related
  pub chain-at : {R : A → A → Type 0} (us : List A) {x y : A} (vs : List A) → IsChain R (us ++ (x ∷ y ∷ vs)) → R x y
  chain-at [] vs c = rel_of_IsChain-cons-cons c
  chain-at (u ∷ us) vs c = chain-at us vs (IsChain-of_IsChain-cons c)

  -- of two lists put together the first member is the first one's, where that has any
  pub first-before : (g r s : List A) (b : A) → 0 < length g → g ++ r ≡ b ∷ s → (g₂ : List A) × (g ≡ b ∷ g₂)
  first-before [] r s b full e = absurd (not-suc-le-zero full)
  first-before (x ∷ g) r s b full e = (g, ap (λ y. y ∷ g) (head-eq_of_cons-eq e))

  -- of two lists put together the last member is the second one's, where that has any
  pub last-after : (r g s : List A) (a : A) → 0 < length g → r ++ g ≡ s ++ (a ∷ [])
      → (g₁ : List A) × (g ≡ g₁ ++ (a ∷ []))
  last-after [] g s a full e = (s, e)
  last-after (x ∷ r) g [] a full e = absurd (omega (arith, simp length-append at (ap length e)))
  last-after (x ∷ r) g (y ∷ s) a full e = last-after r g s a full (tail-eq_of_cons-eq e)

  -- a part, and the list from its end on
  pub part-on : (a n : ℕ) (s : List A) → take n (drop a s) ++ drop (a + n) s ≡ drop a s
  part-on a n s = rw (← drop-drop n a s) (take-append-drop n (drop a s))

  -- past the end nothing follows
  pub part_end : (xs ys s : List A) (n : ℕ) → length s ≤ n → xs ++ drop n s ≡ ys → xs ≡ ys
  part_end xs ys s n h e = sym (append-nil xs) ∙ (rw (drop_of_length-le s h) at e)

  -- what follows a part that is known
  pub part-next : (a b : ℕ) (s xs : List A) {ys : List A} {n : ℕ}
      → drop a s ≡ xs ++ ys → length xs ≡ n → b ≡ a + n → drop b s ≡ ys
  part-next a b s xs {ys} {n} e l u = rw (u, ← drop-drop n a s, e) (drop_at xs ys n l)
