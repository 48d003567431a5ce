-- What a test says: both of its cases, tests of two parts, and the three cases of two numbers. Everything above splits by these.
--     split, split_at, cases     both cases of a test: for a goal about `cond`, for a hypothesis about it, for any goal
--     never, clash               two constructors are never equal; a test is not both
--     same_test                  two tests that pass together are one
--     and-true, and_left, and_right     a test of two parts that passes
--     or_left, or_right          a test of either part that fails
--     order                      which of two numbers is the lower one
-- Not here: what `ltb`, `leb` and `eqb` say of numbers, which is in the library's `borrow.Author.Tests`.
use Rattle.std.specs.Prelude.{◌≡◌, refl, ℕ, ◌<◌, ◌≤◌, Bool, true, false, cond, ◌&&◌, ◌||◌, ltb}
use Rattle.std.proofs.Common.{sym, arith, ltb-true, ltb-false}

-- a goal about `cond b x y` from both cases of b
pub split {ℓ} : {A : Type 0} (P : A → Type ℓ) (b : Bool) {x y : A} → (b ≡ true → P x) → (b ≡ false → P y) → P (cond b x y)
split P true t f = t refl
split P false t f = f refl

-- the same for a hypothesis
pub split_at {ℓ κ} : {A : Type 0} (P : A → Type ℓ) {Q : Type κ} (b : Bool) {x y : A} → P (cond b x y)
    → (b ≡ true → P x → Q) → (b ≡ false → P y → Q) → Q
split_at P true h t f = t refl h
split_at P false h t f = f refl h

-- both cases of a test
pub cases {ℓ} : {Q : Type ℓ} (b : Bool) → (b ≡ true → Q) → (b ≡ false → Q) → Q
cases true t f = t refl
cases false t f = f refl

-- two constructors are never equal: `never (cc)`
pub never {ℓ} : {Q : Type ℓ} → ◌≡◌ {A = ℕ} 0 1 → Q
never z = absurd (omega arith)

-- a test is not both
pub clash {ℓ} : {Q : Type ℓ} {b : Bool} → b ≡ true → b ≡ false → Q
clash p q = never (cc)

-- two tests that pass together are one
pub same_test : (b c : Bool) → (b ≡ true → c ≡ true) → (c ≡ true → b ≡ true) → b ≡ c
same_test true c to from = sym (to refl)
same_test false true to from = from refl
same_test false false to from = refl

-- a test of two parts
pub and-true : {a b : Bool} → a ≡ true → b ≡ true → (a && b) ≡ true
and-true {a} {b} p q = rw (p, q)

pub and_left : (a b : Bool) → (a && b) ≡ true → a ≡ true
and_left true b h = refl
and_left false b h = h

pub and_right : (a b : Bool) → (a && b) ≡ true → b ≡ true
and_right true b h = h
and_right false b h = clash h refl

-- a test of either part
pub or_left : (a b : Bool) → (a || b) ≡ false → a ≡ false
or_left true b h = h
or_left false b h = refl

pub or_right : (a b : Bool) → (a || b) ≡ false → b ≡ false
or_right true b h = clash refl h
or_right false b h = h

-- which of two numbers is the lower one
pub order {ℓ} : {Q : Type ℓ} (a b : ℕ) → (a < b → Q) → (a ≡ b → Q) → (b < a → Q) → Q
order a b low same_number high =
    cases (ltb a b) (λ t. low (ltb-true _ _ t))
    (λ f. cases (ltb b a) (λ t. high (ltb-true _ _ t)) (λ g. same_number (level (ltb-false _ _ f) (ltb-false _ _ g))))
  where
    level : b ≤ a → a ≤ b → a ≡ b
    level p q = omega arith
