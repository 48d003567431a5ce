-- Laws of folds and of chains of folds (docs/RULES.md, "Folding"; demand 3).
--     fold-parts, fold_at                       the tray around the runs that are folded, taken apart and put together
--     length-fold                               b - a runs fewer
--     fold-whole, fold_same                     all runs at once give the merge of all; one run alone, the tray
--     fold-good, fold-merged                    a fold leaves the runs good, and the merge of all as it is
--     folds-chain                               a chain of at least one fold is a chain
--     chain-good, chain-merged, chain-visible   a chain leaves the runs good, the merge of all, and what is live in it
--     chain-ends, chains-meet                   a chain that ends in one run ends in the merge of all, whatever its folds
--     chain-stops                               so that this run is as long as the merge of all
--     run_length, chain_length                  edition 0: no run is longer than the merge of all, also after a chain
--     fold-length, chain-fold-length            nor is what a fold makes, also after a chain
-- Length alone stops a chain to one run exactly when it stops one fold of all: `chain-fold-length` where the merge of all is short enough,
-- `chain-stops` where it is not.
use Rattle.std.specs.Prelude.{◌≡◌, refl, Bool, get_or}
use Rattle.std.proofs.Common.{sym, ◌∙◌, ⊎_elim, take-append-drop, length-append, length-drop, eqb-true}
use Rattle.std.proofs.Math.Path.{ap, subst}
use Prim.Native.Nat.{ℕ, suc, ◌+◌, ◌-◌, ◌≤◌, ◌<◌}
use native.Mathlib.Omega.{arith}
use mathlib.Core.List.Memᴰ
use mathlib.Core.List.{List, [], ◌∷◌, ◌++◌, append-nil}
use Rattle.std.proofs.Math.ListN.{length, take, drop, length-take}
use Rattle.std.proofs.Math.Seq.{drop-cons, split_at, take-append_seam, drop-append_seam, drop-append-add}
use Rattle.theory.specs.Lists.{here, part-on}
use Rattle.theory.specs.Rising.{Mem, keep}
use Rattle.theory.proofs.Rising.Laws.{rises-length}
use Rattle.theory.specs.Hiding.{Rule, same_key}
use Rattle.theory.proofs.Hiding.Laws.{same_key-rule}
use Rattle.theory.specs.Merge.{merged, fold, Chain, done, step, Folds, folds, Good}
use Rattle.theory.proofs.Merge.Hidden.{hidden-by}
use Rattle.theory.proofs.Merge.Laws.{merged-good, merged-one, merged-front, merged-append, merged-covers}

pub fold-parts : {A : Type 0} (a b : ℕ) (t : List A) → a ≤ b → t ≡ take a t ++ (take (suc b - a) (drop a t) ++ drop (suc b) t)
fold-parts a b t l =
    let e : a + (suc b - a) ≡ suc b = omega arith in
    sym (ap (λ u. take a t ++ u) (rw e at (part-on a (suc b - a) t)) ∙ take-append-drop a t)

module _ {A : Type 0} (key : A → ℕ) (hides : A → A → Bool) where
  pub fold_at : (s m u : List (List A)) (b : ℕ) → suc b ≡ length s + length m
      → fold key hides (length s) b (s ++ (m ++ u)) ≡ s ++ (merged key hides m ∷ u)
  unfolding fold
  fold_at s m u b e =
      let n : suc b - length s ≡ length m = omega arith in
      rw (n, e, take-append_seam, drop-append_seam, take-append_seam, drop-append-add, drop-append_seam)

  pub length-fold : (a b : ℕ) (t : List (List A)) → a ≤ b → b < length t → length (fold key hides a b t) ≡ length t - (b - a)
  unfolding fold
  length-fold a b t l h = simp (length-append, length-take, length-drop) (omega arith)

  pub fold-whole : (t : List (List A)) → 0 < length t → fold key hides 0 (length t - 1) t ≡ merged key hides t ∷ []
  fold-whole t l = rw append-nil at (fold_at [] t [] (length t - 1) (omega arith))

  pub folds-chain : {t u : List (List A)} → Folds key hides t u → Chain key hides t u
  folds-chain (folds a b l h c) = step a b l h c

  module _ {Ok : A → Type 0} (R : Rule Ok key hides) where
    -- the runs m of a good tray made one
    parts-good : (s m u : List (List A)) → Good Ok key (s ++ (m ++ u)) → Good Ok key (s ++ (merged key hides m ∷ u))
    parts-good s m u g r w =
        ⊎_elim
        (λ n. g r (Memᴰ.append_left (m ++ u) n))
        (λ n. ⊎_elim
        (λ e. rw e (merged-good key hides R m (λ q k. g q (Memᴰ.append_right s (Memᴰ.append_left u k)))))
        (λ k. g r (Memᴰ.append_right s (Memᴰ.append_right m k))) (Memᴰ.cases_cons n))
        (Memᴰ.append_cases s w)

    parts-merged : (s m u : List (List A)) → Good Ok key (s ++ (m ++ u))
        → merged key hides (s ++ (merged key hides m ∷ u)) ≡ merged key hides (s ++ (m ++ u))
    unfolding merged
    parts-merged s m u g =
        merged-front key hides s (merged key hides m ∷ u) (m ++ u)
        (sym (merged-append key hides R m u
        (λ q k. g q (Memᴰ.append_right s (Memᴰ.append_left u k))) (λ q k. g q (Memᴰ.append_right s (Memᴰ.append_right m k)))))

    pub fold-good : {t : List (List A)} {a b : ℕ} → Good Ok key t → a ≤ b → Good Ok key (fold key hides a b t)
    unfolding fold
    fold-good {t} {a} {b} g l =
        parts-good (take a t) (take (suc b - a) (drop a t)) (drop (suc b) t) (rw (fold-parts a b t l) at g)

    pub fold-merged : {t : List (List A)} {a b : ℕ} → Good Ok key t → a ≤ b → merged key hides (fold key hides a b t) ≡ merged key hides t
    unfolding fold
    fold-merged {t} {a} {b} g l =
        parts-merged (take a t) (take (suc b - a) (drop a t)) (drop (suc b) t) (rw (fold-parts a b t l) at g)
        ∙ ap (merged key hides) (sym (fold-parts a b t l))

    pub fold_same : {t : List (List A)} {a : ℕ} → Good Ok key t → a < length t → fold key hides a a t ≡ t
    unfolding fold
    fold_same {t} {a} g l =
        let one : suc a - a ≡ 1 = omega arith in
        let parts : t ≡ take a t ++ (get_or t a [] ∷ drop (suc a) t) = split_at t a [] l in
        let m : Mem (get_or t a []) t = subst (Mem (get_or t a [])) (sym parts) (Memᴰ.append_right (take a t) here) in
        rw (one, drop-cons t a [] l, merged-one key hides R (g _ m)) (sym parts)

    pub chain-good : {t u : List (List A)} → Good Ok key t → Chain key hides t u → Good Ok key u
    chain-good g done = g
    chain-good g (step a b l h c) = chain-good (fold-good g l) c

    pub chain-merged : {t u : List (List A)} → Good Ok key t → Chain key hides t u → merged key hides u ≡ merged key hides t
    chain-merged g done = refl
    chain-merged g (step a b l h c) = chain-merged (fold-good g l) c ∙ fold-merged g l

    pub chain-visible : {t u : List (List A)} (live : A → Bool) → Good Ok key t → Chain key hides t u
        → keep live (merged key hides u) ≡ keep live (merged key hides t)
    chain-visible live g c = ap (keep live) (chain-merged g c)

    pub chain-ends : {t : List (List A)} {r : List A} → Good Ok key t → Chain key hides t (r ∷ []) → r ≡ merged key hides t
    chain-ends {t} {r} g c = sym (merged-one key hides R (chain-good g c r here)) ∙ chain-merged g c

    pub chains-meet : {t : List (List A)} {r q : List A} → Good Ok key t → Chain key hides t (r ∷ []) → Chain key hides t (q ∷ [])
        → r ≡ q
    chains-meet g c d = chain-ends g c ∙ sym (chain-ends g d)

    pub chain-stops : {t : List (List A)} {r : List A} → Good Ok key t → Chain key hides t (r ∷ [])
        → length r ≡ length (merged key hides t)
    chain-stops g c = ap length (chain-ends g c)

-- edition 0, where each key of a run is the key of a record of the merge
module _ {A : Type 0} (key : A → ℕ) {Ok : A → Type 0} where
  pub run_length : {t : List (List A)} {r : List A} → Good Ok key t → Mem r t → length r ≤ length (merged key (same_key key) t)
  run_length {t} g m =
      let R = same_key-rule Ok key in
      rises-length key (g _ m).rises (merged-good key (same_key key) R t g).rises
      (λ x n. let w = hidden-by (same_key key) _ (merged-covers key (same_key key) R t g m n) in (w.0, w.1, eqb-true _ _ w.2))

  pub chain_length : {t u : List (List A)} {r : List A} → Good Ok key t → Chain key (same_key key) t u → Mem r u
      → length r ≤ length (merged key (same_key key) t)
  chain_length g c m =
      let R = same_key-rule Ok key in
      rw (chain-merged key (same_key key) R g c) at (run_length (chain-good key (same_key key) R g c) m)

  pub fold-length : {t : List (List A)} {a b : ℕ} → Good Ok key t → a ≤ b → b < length t
      → length (merged key (same_key key) (take (suc b - a) (drop a t))) ≤ length (merged key (same_key key) t)
  unfolding fold
  fold-length {t} {a} {b} g l h = chain_length g (step a b l h done) (Memᴰ.append_right (take a t) here)

  pub chain-fold-length : {t u : List (List A)} {a b : ℕ} → Good Ok key t → Chain key (same_key key) t u → a ≤ b → b < length u
      → length (merged key (same_key key) (take (suc b - a) (drop a u))) ≤ length (merged key (same_key key) t)
  chain-fold-length g c l h =
      let R = same_key-rule Ok key in
      rw (chain-merged key (same_key key) R g c) at (fold-length (chain-good key (same_key key) R g c) l h)
