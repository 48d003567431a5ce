-- A visitor run over stops: a walk that is never lost.
--     after, after-ext               one visit, and what comes after it
--     tour_then, tour                 a visitor at one stop after the other, and then something, or the end
--     tour_then-append                stops end to end
--     tour_then-ext                   what comes after may be told otherwise
--     tour-same                      and so may the visitor, stop by stop
--     tour-kept                      stops that only pass are left out
--     first_of, tour-first            a visitor that only looks for a stop: the first that passes its test
--     Each, each_append, each_at     a property of each member of a list and what follows it
--     each_keep, each_on, each_both, each_all, all-each     the same of what is kept, of a later part, of two properties, and of all members
use Rattle.std.specs.Prelude.{◌≡◌, Bool}
use Rattle.std.proofs.Math.Path.{refl}
use Rattle.std.proofs.Common.{subst}
use Rattle.std.proofs.Math.Bool.{true, false, cond}
use mathlib.Core.List.{List, [], ◌∷◌, ◌++◌, head-eq_of_cons-eq, tail-eq_of_cons-eq}
use Rattle.theory.specs.Tests.{never, split}
use Rattle.theory.specs.Lists.{here, all_nil, all_cons, all_tail}
use Rattle.theory.specs.Rising.{All, keep}
use Rattle.walk.specs.Walk.{Visit, stay, go, Walked, stayed, ended}

module _ {S R : Type 0} where
  -- after one visit
  unfoldable pub after : Visit S R → (S → Walked S R) → Walked S R
  after (stay r) rest = stayed r
  after (go st) rest = rest st

  pub after-ext : (v : Visit S R) {rest rest' : S → Walked S R} → ((st : S) → rest st ≡ rest' st) → after v rest ≡ after v rest'
  unfolding after
  after-ext (stay r) h = refl
  after-ext (go st) h = h st

module _ {A S R : Type 0} where
  module _ (visit : A → S → Visit S R) where
    -- the visitor at one member after the other; after them comes `rest`
    unfoldable pub tour_then : List A → S → (S → Walked S R) → Walked S R
    tour_then [] st rest = rest st
    tour_then (p ∷ ps) st rest = after (visit p st) (λ st'. tour_then ps st' rest)

    -- and then the end
    abbrev pub tour : List A → S → Walked S R
    tour ps st = tour_then ps st ended

  module _ (visit : A → S → Visit S R) where
    pub tour_then-ext : (ps : List A) (st : S) {rest rest' : S → Walked S R} → ((s : S) → rest s ≡ rest' s)
        → tour_then visit ps st rest ≡ tour_then visit ps st rest'
    unfolding tour_then
    tour_then-ext [] st h = h st
    tour_then-ext (p ∷ ps) st h = after-ext (visit p st) (λ s. tour_then-ext ps s h)

    pub tour_then-append : (ps qs : List A) (st : S) (rest : S → Walked S R)
        → tour_then visit (ps ++ qs) st rest ≡ tour_then visit ps st (λ s. tour_then visit qs s rest)
    unfolding tour_then
    tour_then-append [] qs st rest = refl
    tour_then-append (p ∷ ps) qs st rest = after-ext (visit p st) (λ s. tour_then-append ps qs s rest)

    pub tour-same : (f : A → S → Visit S R) (ps : List A) → All (λ p. (st : S) → visit p st ≡ f p st) ps → (st : S)
        → tour visit ps st ≡ tour f ps st
    unfolding tour_then
    tour-same f [] h st = refl
    tour-same f (p ∷ ps) h st = rw (h p here st) (after-ext (f p st) (λ s. tour-same f ps (all_tail h) s))

  -- the answer at the first member, or the end
  unfoldable pub first_of : (A → R) → List A → S → Walked S R
  first_of answer [] st = ended st
  first_of answer (p ∷ ps) st = stayed (answer p)

  pub tour-first : (test : A → Bool) (answer : A → R) (ps : List A) (st : S)
      → tour (λ p s. cond (test p) (stay (answer p)) (go s)) ps st ≡ first_of answer (keep test ps) st
  unfolding tour_then after first_of keep
  tour-first test answer [] st = refl
  tour-first test answer (p ∷ ps) st = step (test p) (tour-first test answer ps st)
    where
      step : (b : Bool) → tour (λ p s. cond (test p) (stay (answer p)) (go s)) ps st ≡ first_of answer (keep test ps) st
          → after (cond b (stay (answer p)) (go st)) (λ s. tour (λ p s. cond (test p) (stay (answer p)) (go s)) ps s)
          ≡ first_of answer (cond b (p ∷ keep test ps) (keep test ps)) st
      step true h = refl
      step false h = h

-- members that only pass are left out
pub tour-kept : {A S R : Type 0} (test : A → Bool) (f : A → S → Visit S R) (ps : List A) (st : S)
    → tour (λ p w. cond (test p) (f p w) (go w)) ps st ≡ tour f (keep test ps) st
unfolding tour_then after keep
tour-kept test f [] st = refl
tour-kept {S = S} test f (p ∷ ps) st = step (test p) (tour-kept test f ps)
  where
    step : (b : Bool) → ((st : S) → tour (λ p w. cond (test p) (f p w) (go w)) ps st ≡ tour f (keep test ps) st)
        → after (cond b (f p st) (go st)) (λ w. tour (λ p w. cond (test p) (f p w) (go w)) ps w)
        ≡ tour f (cond b (p ∷ keep test ps) (keep test ps)) st
    step true h = after-ext (f p st) h
    step false h = h st

module _ {A : Type 0} where
  -- each member and what follows it have the property
  pub data Each (P : A → List A → Type 0) : List A → Type 0 where
    each_none : Each P []
    each_more : {a : A} {xs : List A} → P a xs → Each P xs → Each P (a ∷ xs)

  pub each_append : {P : A → List A → Type 0} {ys xs : List A} → Each (λ a us. P a (us ++ ys)) xs → Each P ys → Each P (xs ++ ys)
  each_append each_none k = k
  each_append (each_more p h) k = each_more p (each_append h k)

  pub each_at : {P : A → List A → Type 0} {xs : List A} → Each P xs → (us : List A) (a : A) (vs : List A) → xs ≡ us ++ (a ∷ vs) → P a vs
  each_at each_none [] a vs e = never (cc)
  each_at each_none (u ∷ us) a vs e = never (cc)
  each_at {P} (each_more {a = c} {xs} p h) [] a vs e =
      subst (λ l. P a l) (tail-eq_of_cons-eq e) (subst (λ b. P b xs) (head-eq_of_cons-eq e) p)
  each_at (each_more p h) (u ∷ us) a vs e = each_at h us a vs (tail-eq_of_cons-eq e)

  -- of what is kept
  pub each_keep : {P : A → List A → Type 0} (test : A → Bool) {xs : List A} → Each (λ a us. P a (keep test us)) xs → Each P (keep test xs)
  unfolding keep
  each_keep test each_none = each_none
  each_keep {P} test (each_more {a} {xs} p h) =
      split (Each P) (test a) (λ _. each_more p (each_keep test h)) (λ _. each_keep test h)

  -- of a later part
  pub each_on : {P : A → List A → Type 0} (us : List A) {vs : List A} → Each P (us ++ vs) → Each P vs
  each_on [] h = h
  each_on (u ∷ us) (each_more p h) = each_on us h

  -- from two properties a third
  pub each_both : {P Q R : A → List A → Type 0} {xs : List A} → Each P xs → Each Q xs
      → ((a : A) (us : List A) → P a us → Q a us → R a us) → Each R xs
  each_both each_none each_none f = each_none
  each_both (each_more {a} {xs} p h) (each_more q k) f = each_more (f a xs p q) (each_both h k f)

  -- whatever follows
  pub each_all : {P : A → Type 0} {xs : List A} → Each (λ a us. P a) xs → All P xs
  each_all each_none = all_nil _
  each_all (each_more p h) = all_cons p (each_all h)

  -- of members, and what follows them being members too
  pub all-each : {P : A → Type 0} (xs : List A) → All P xs → Each (λ a us. P a × All P us) xs
  all-each [] h = each_none
  all-each (a ∷ xs) h = each_more (h a here, all_tail h) (all-each xs (all_tail h))
