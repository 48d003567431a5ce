-- Laws of a segment's selectors: placeholders and what stands before them.
--     Ended, Filled                                  after a placeholder come only placeholders; placeholders only
--     ended-none, ended-cons, ended-tail             such a list, selector by selector
--     filled-ended, ended-filled                     once there is a placeholder
--     spelled-end, spelled-more, spelled-mem         the selectors before the first placeholder
--     marks-run, selector_of-run                      a selector's low six bits are the run
use Rattle.std.specs.Prelude.{◌≡◌, ◌⊎◌, ℕ, zero, suc, ◌+◌, ◌%◌, ◌≤◌, ◌<◌, Bool, true, false, cond, List, [], ◌∷◌, length, get_or, eqb}
use Rattle.std.proofs.Common.{◌∙◌, inl, inr, ⊎_elim, arith, eq-eqb, ne_eqb, eqb-true}
use mathlib.Core.List.Memᴰ
use Rattle.std.proofs.lemmas.Bool.{eqb-false}
use Rattle.theory.specs.Records.{Record, live}
use Rattle.theory.specs.Hiding.{same_key}
use Rattle.theory.specs.Rising.{Mem}
use Rattle.theory.specs.Tests.{cases}
use Rattle.theory.specs.View.{old}
use Rattle.index.specs.Rules.{placeholder, key_of, Item, spelled, selector_of}

-- after a placeholder come only placeholders
abbrev pub Ended : List ℕ → Type 0
Ended vs = (i j : ℕ) → i ≤ j → j < length vs → get_or vs i 0 ≡ placeholder → get_or vs j 0 ≡ placeholder

-- placeholders only
abbrev pub Filled : List ℕ → Type 0
Filled vs = (j : ℕ) → j < length vs → get_or vs j 0 ≡ placeholder

pub ended-none : Ended []
ended-none i j l u e = absurd (omega arith)

module _ (v : ℕ) (vs : List ℕ) where
  pub ended-cons : (v ≡ placeholder → ⊥) → Ended vs → Ended (v ∷ vs)
  ended-cons d f zero j l u e = absurd (d e)
  ended-cons d f (suc i) zero l u e = absurd (omega arith)
  ended-cons d f (suc i) (suc j) l u e = f i j (omega arith) (omega arith) e

  pub ended-tail : Ended (v ∷ vs) → Ended vs
  ended-tail f i j l u e = f (suc i) (suc j) (omega arith) (omega arith) e

  pub filled-ended : v ≡ placeholder → Filled vs → Ended (v ∷ vs)
  filled-ended d f i zero l u e = d
  filled-ended d f i (suc j) l u e = f j (omega arith)

  pub ended-filled : v ≡ placeholder → Ended (v ∷ vs) → Filled vs
  ended-filled d f j u = f zero (suc j) (omega arith) (omega arith) d

  pub spelled-end : v ≡ placeholder → spelled (v ∷ vs) ≡ []
  unfolding spelled
  spelled-end e = rw (eq-eqb v placeholder e)

  pub spelled-more : (v ≡ placeholder → ⊥) → spelled (v ∷ vs) ≡ v ∷ spelled vs
  unfolding spelled
  spelled-more d = rw (ne_eqb v placeholder d)

-- in a list of placeholders only every member is one
filled-mem : (v : ℕ) (vs : List ℕ) → Filled vs → Mem v vs → v ≡ placeholder
filled-mem v [] f m = absurd (Memᴰ.not-nil m)
filled-mem v (u ∷ vs) f m =
    ⊎_elim (λ e. e ∙ f zero (omega arith)) (λ k. filled-mem v vs (λ j l. f (suc j) (omega arith)) k) (Memᴰ.cases_cons m)

-- a selector is a placeholder or stands before the first one
pub spelled-mem : (v : ℕ) (vs : List ℕ) → Ended vs → Mem v vs → (v ≡ placeholder) ⊎ Mem v (spelled vs)
spelled-mem v [] f m = inr (absurd (Memᴰ.not-nil m))
spelled-mem v (u ∷ vs) f m =
    cases (eqb u placeholder) (λ y. inl (ends (eqb-true _ _ y)))
    (λ n. goes (eqb-false _ _ n) (spelled-mem v vs (ended-tail u vs f)))
  where
    ends : u ≡ placeholder → v ≡ placeholder
    ends e = ⊎_elim (λ q. q ∙ e) (λ k. filled-mem v vs (ended-filled u vs e f) k) (Memᴰ.cases_cons m)

    goes : (u ≡ placeholder → ⊥) → (Mem v vs → (v ≡ placeholder) ⊎ Mem v (spelled vs))
        → (v ≡ placeholder) ⊎ Mem v (spelled (u ∷ vs))
    goes d later =
        rw (spelled-more u vs d)
        (⊎_elim (λ q. inr (Memᴰ.head q)) (λ k. ⊎_elim (λ e. inl e) (λ n. inr (Memᴰ.tail n)) (later k))
        (Memᴰ.cases_cons m))

-- whatever the marks
pub marks-run : (r : ℕ) (o a : Bool) → r < 64 → (r + (cond o 128 0 + cond a 0 64)) % 64 ≡ r
marks-run r true true l = omega arith
marks-run r true false l = omega arith
marks-run r false true l = omega arith
marks-run r false false l = omega arith

pub selector_of-run : (t : List (List Record)) (e : Item) → e.run < 64 → selector_of t e % 64 ≡ e.run
unfolding selector_of
selector_of-run t e l = marks-run e.run (old (same_key key_of) t e) (live e.item) l
