-- Laws of `joined` and `groups`. Beside the worked cases only this file looks inside `groups` and `grouped`.
--     joined-append            lists of lists put one after another
--     mem-joined, joined-mem   a member of all is a member of one, and the other way round
--     groups-joined            the groups put together are the list
--     groups-full              no group is empty
--     groups-one               a group has one number
--     Apart, groups-apart, groups-cut     neighbours have different numbers: as a chain, and wherever two stand
--     groups-step              a group before a list without its number is the first group: the step of a merge
use Rattle.std.specs.Prelude.{◌≡◌, ◌⊎◌, ℕ, ◌<◌, length}
use Rattle.std.proofs.Math.Path.{refl, sym, ap}
use Rattle.std.proofs.Common.{◌∙◌, inl, inr, not-suc-le-zero, arith, eqb-true, eq-eqb, ne_eqb}
use mathlib.Core.List.Memᴰ
use mathlib.Core.List.IsChain
use mathlib.Core.List.{List, [], ◌∷◌, ◌++◌, append_assoc, IsChain}
use Rattle.std.proofs.lemmas.Bool.{eqb-false}
use Rattle.theory.specs.Tests.{split}
use Rattle.theory.specs.Lists.{here, all_nil, all_cons, all_tail, chain-at}
use Rattle.theory.specs.Rising.{Mem, All}
use Rattle.theory.specs.Pack.{joined, grouped, groups, OneKey}

module _ {A : Type 0} where
  -- lists of lists put one after another
  pub joined-append : (ss ts : List (List A)) → joined (ss ++ ts) ≡ joined ss ++ joined ts
  unfolding joined
  joined-append [] ts = refl
  joined-append (s ∷ ss) ts = ap (λ xs. s ++ xs) (joined-append ss ts) ∙ sym (append_assoc s (joined ss) (joined ts))

  -- a member of the lists put together is a member of one of them
  pub mem-joined : {a : A} (ss : List (List A)) → Mem a (joined ss) → (s : List A) × Mem a s × Mem s ss
  unfolding joined
  mem-joined [] m = absurd (Memᴰ.not-nil m)
  mem-joined {a} (s ∷ ss) m = go (mem-joined ss) (Memᴰ.append_cases s m)
    where
      go : (Mem a (joined ss) → (t : List A) × Mem a t × Mem t ss) → Mem a s ⊎ Mem a (joined ss)
          → (t : List A) × Mem a t × Mem t (s ∷ ss)
      go later (inl n) = (s, n, here)
      go later (inr n) = let t = later n in (t.0, t.1, Memᴰ.tail t.2)

  -- a member of one of the lists is a member of them put together
  pub joined-mem : {a : A} {s : List A} {ss : List (List A)} → Mem a s → Mem s ss → Mem a (joined ss)
  unfolding joined
  joined-mem m (Memᴰ.head {xs = ss} e) = Memᴰ.append_left (joined ss) (rw e at m)
  joined-mem m (Memᴰ.tail {x = s} n) = Memᴰ.append_right s (joined-mem m n)

  module _ (f : A → ℕ) where
    -- no member of the one list has the number of a member of the other
    abbrev pub Apart : List A → List A → Type 0
    Apart g w = All (λ a. All (λ b. f a ≡ f b → ⊥) w) g

    -- how a list is cut into groups: the cases of `groups`, with what their test found
    data Cuts : List A → List (List A) → Type 0 where
      cuts-none : Cuts [] []
      cuts-one : {a : A} → Cuts (a ∷ []) ((a ∷ []) ∷ [])
      cuts-same : {a b : A} {xs bs : List A} {gs : List (List A)} → f a ≡ f b
          → Cuts (b ∷ xs) ((b ∷ bs) ∷ gs) → Cuts (a ∷ b ∷ xs) ((a ∷ b ∷ bs) ∷ gs)
      cuts-other : {a b : A} {xs bs : List A} {gs : List (List A)} → (f a ≡ f b → ⊥)
          → Cuts (b ∷ xs) ((b ∷ bs) ∷ gs) → Cuts (a ∷ b ∷ xs) ((a ∷ []) ∷ (b ∷ bs) ∷ gs)

    -- one more before a first group
    cut : (a b : A) (xs bs : List A) (gs : List (List A)) → Cuts (b ∷ xs) ((b ∷ bs) ∷ gs)
        → Cuts (a ∷ b ∷ xs) (grouped f a ((b ∷ bs) ∷ gs))
    unfolding grouped
    cut a b xs bs gs c =
        split (Cuts (a ∷ b ∷ xs)) _ (λ e. cuts-same (eqb-true _ _ e) c) (λ e. cuts-other (eqb-false _ _ e) c)

    -- one more before any groups
    cut-more : (a : A) {xs : List A} {gs : List (List A)} → Cuts xs gs → Cuts (a ∷ xs) (grouped f a gs)
    unfolding grouped
    cut-more a cuts-none = cuts-one
    cut-more a cuts-one = cut a _ _ _ _ cuts-one
    cut-more a (cuts-same e c) = cut a _ _ _ _ (cuts-same e c)
    cut-more a (cuts-other e c) = cut a _ _ _ _ (cuts-other e c)

    -- `groups` cuts so
    cuts : (xs : List A) → Cuts xs (groups f xs)
    unfolding groups
    cuts [] = cuts-none
    cuts (a ∷ xs) = cut-more a (cuts xs)

    -- nobody is lost
    cuts-joined : {xs : List A} {gs : List (List A)} → Cuts xs gs → joined gs ≡ xs
    unfolding joined
    cuts-joined cuts-none = refl
    cuts-joined cuts-one = refl
    cuts-joined (cuts-same {a = a} e c) = ap (λ xs. a ∷ xs) (cuts-joined c)
    cuts-joined (cuts-other {a = a} e c) = ap (λ xs. a ∷ xs) (cuts-joined c)

    -- the groups put together are the list
    pub groups-joined : (xs : List A) → joined (groups f xs) ≡ xs
    groups-joined xs = cuts-joined (cuts xs)

    -- a group has the member that began it
    cuts-full : {xs : List A} {gs : List (List A)} → Cuts xs gs → All (λ g. 0 < length g) gs
    cuts-full cuts-none = all_nil _
    cuts-full cuts-one = all_cons (omega arith) (all_nil _)
    cuts-full (cuts-same e c) = all_cons (omega arith) (all_tail (cuts-full c))
    cuts-full (cuts-other e c) = all_cons (omega arith) (cuts-full c)

    -- no group is empty
    pub groups-full : (xs : List A) → All (λ g. 0 < length g) (groups f xs)
    groups-full xs = cuts-full (cuts xs)

    -- members that have the same number as b have one number
    one_key : {b : A} {g : List A} → All (λ a. f a ≡ f b) g → OneKey f g
    one_key same x m y n = same x m ∙ sym (same y n)

    -- whoever joins a group has its number
    cuts-keys : {xs : List A} {gs : List (List A)} → Cuts xs gs → All (OneKey f) gs
    cuts-keys cuts-none = all_nil _
    cuts-keys cuts-one = all_cons (one_key (all_cons refl (all_nil _))) (all_nil _)
    cuts-keys (cuts-same {b = b} e c) =
        all_cons (one_key (all_cons e (λ x m. cuts-keys c _ here x m b here))) (all_tail (cuts-keys c))
    cuts-keys (cuts-other e c) = all_cons (one_key (all_cons refl (all_nil _))) (cuts-keys c)

    -- a group has one number
    pub groups-one : (xs : List A) → All (OneKey f) (groups f xs)
    groups-one xs = cuts-keys (cuts xs)

    -- whoever begins another has not
    cuts-apart : {xs : List A} {gs : List (List A)} → Cuts xs gs → IsChain Apart gs
    cuts-apart cuts-none = IsChain.nil
    cuts-apart cuts-one = IsChain.singleton _
    cuts-apart (cuts-same {b = b} e c) =
        IsChain.cons_of_imp (λ g h. all_cons (λ y n q. h b here y n (sym e ∙ q)) h) (cuts-apart c)
    cuts-apart (cuts-other {b = b} e c) =
        IsChain.cons-cons (all_cons (λ y n q. e (q ∙ cuts-keys c _ here y n b here)) (all_nil _)) (cuts-apart c)

    -- each group stands apart from the next
    pub groups-apart : (xs : List A) → IsChain Apart (groups f xs)
    groups-apart xs = cuts-apart (cuts xs)

    -- the same, wherever the two stand
    pub groups-cut : (xs : List A) (us : List (List A)) {g g' : List A} (vs : List (List A)) {a b : A}
        → groups f xs ≡ us ++ (g ∷ g' ∷ vs) → Mem a g → Mem b g' → f a ≡ f b → ⊥
    groups-cut xs us vs e m n = chain-at us vs (rw e at (groups-apart xs)) _ m _ n

    -- before a list without its number a member is a group of its own
    grouped-other : (a : A) {w : List A} {gs : List (List A)} → Cuts w gs → All (λ b. f a ≡ f b → ⊥) w
        → grouped f a gs ≡ (a ∷ []) ∷ gs
    unfolding grouped
    grouped-other a cuts-none h = refl
    grouped-other a (cuts-one {a = b}) h = simp (ne_eqb (f a) (f b) (h b here))
    grouped-other a (cuts-same {a = b} e c) h = simp (ne_eqb (f a) (f b) (h b here))
    grouped-other a (cuts-other {a = b} e c) h = simp (ne_eqb (f a) (f b) (h b here))

    -- a group before a list without its number is the first group
    pub groups-step : (g w : List A) → 0 < length g → OneKey f g → Apart g w → groups f (g ++ w) ≡ g ∷ groups f w
    unfolding groups grouped
    groups-step [] w full one apart = absurd (not-suc-le-zero full)
    groups-step (a ∷ []) w full one apart = grouped-other a (cuts w) (apart a here)
    groups-step (a ∷ b ∷ g) w full one apart =
        ap (grouped f a) (groups-step (b ∷ g) w (omega arith) (λ x m. all_tail (all_tail one x m)) (all_tail apart))
        ∙ simp (eq-eqb (f a) (f b) (all_tail (one a here) b here))
