-- What adds nothing (demand 3): an empty run, and an older neighbour that is a copy. In the merge of all, and when it is folded.
--     empty-adds-nothing, copy-adds-nothing           the merge of all is the same without it
--     fold_pair                                       a fold of two neighbours
--     fold-empty-newer, fold-empty-older, fold-copy   folded with its neighbour it leaves the neighbour
use Rattle.std.specs.Prelude.{◌≡◌, ℕ, ◌+◌, Bool, List, [], ◌∷◌, ◌++◌, length}
use Rattle.std.proofs.Common.{sym, ◌∙◌, arith}
use Rattle.std.proofs.Math.Path.{ap}
use Rattle.theory.specs.Hiding.{Rule}
use Rattle.theory.specs.Merge.{over, merged, fold, GoodRun, Good}
use Rattle.theory.proofs.Merge.Laws.{over-assoc, over-nil-left, over-nil-right, over-self, nil-good, merged-one, merged-good, merged-front}
use Rattle.theory.proofs.Merge.Chains.{fold_at}

module _ {A : Type 0} (key : A → ℕ) (hides : A → A → Bool) where
  pub empty-adds-nothing : (s t : List (List A)) → merged key hides (s ++ ([] ∷ t)) ≡ merged key hides (s ++ t)
  unfolding merged
  empty-adds-nothing s t = merged-front key hides s ([] ∷ t) t (over-nil-left key hides (merged key hides t))

  module _ {Ok : A → Type 0} (R : Rule Ok key hides) where
    pub copy-adds-nothing : (s t : List (List A)) {r : List A} → GoodRun Ok key r → Good Ok key t
        → merged key hides (s ++ (r ∷ r ∷ t)) ≡ merged key hides (s ++ (r ∷ t))
    unfolding merged
    copy-adds-nothing s t {r} g h =
        merged-front key hides s (r ∷ r ∷ t) (r ∷ t)
        (sym (over-assoc key hides R g g (merged-good key hides R t h))
        ∙ ap (λ q. over key hides q (merged key hides t)) (over-self key hides R g))

    pub fold_pair : (s t : List (List A)) (q : List A) {r : List A} → GoodRun Ok key r
        → fold key hides (length s) (length s + 1) (s ++ (q ∷ r ∷ t)) ≡ s ++ (over key hides q r ∷ t)
    unfolding merged
    fold_pair s t q {r} g =
        fold_at key hides s (q ∷ r ∷ []) t (length s + 1) (omega arith)
        ∙ ap (λ p. s ++ (over key hides q p ∷ t)) (merged-one key hides R g)

    pub fold-empty-newer : (s t : List (List A)) {r : List A} → GoodRun Ok key r
        → fold key hides (length s) (length s + 1) (s ++ ([] ∷ r ∷ t)) ≡ s ++ (r ∷ t)
    fold-empty-newer s t {r} g = fold_pair s t [] g ∙ ap (λ p. s ++ (p ∷ t)) (over-nil-left key hides r)

    pub fold-empty-older : (s t : List (List A)) {r : List A} → GoodRun Ok key r
        → fold key hides (length s) (length s + 1) (s ++ (r ∷ [] ∷ t)) ≡ s ++ (r ∷ t)
    fold-empty-older s t {r} g = fold_pair s t r (nil-good key hides R) ∙ ap (λ p. s ++ (p ∷ t)) (over-nil-right key hides R g)

    pub fold-copy : (s t : List (List A)) {r : List A} → GoodRun Ok key r
        → fold key hides (length s) (length s + 1) (s ++ (r ∷ r ∷ t)) ≡ s ++ (r ∷ t)
    fold-copy s t {r} g = fold_pair s t r g ∙ ap (λ p. s ++ (p ∷ t)) (over-self key hides R g)
