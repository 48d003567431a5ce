-- Which newer record hides which older one (docs/RULES.md, "The sorted view": a record is old when a lower-numbered run has its key).
-- A rule is a test with two laws, and whatever holds over any rule is proved over any rule.
use Rattle.std.specs.Prelude.{ℕ, ◌≡◌, Bool, true, eqb}

-- a rule over the records that are `Ok`: equal keys hide, and what hides a record hides all that this one hides
pub record Rule {A : Type 0} (Ok : A → Type 0) (key : A → ℕ) (hides : A → A → Bool) : Type 0 where
  pub same_key : (a b : A) → key a ≡ key b → hides a b ≡ true
  pub through : (a b c : A) → Ok a → Ok b → Ok c → hides a b ≡ true → hides b c ≡ true → hides a c ≡ true

-- the rule of edition 0: a newer record hides the older ones of its key, and nothing else
abbrev pub same_key : {A : Type 0} → (A → ℕ) → A → A → Bool
same_key key a b = eqb (key a) (key b)
