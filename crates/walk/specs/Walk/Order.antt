-- The order of stops: those that follow one stand at later selectors of its segment, or in later segments.
--     in-segment, in-selector     the stops of a segment have its number, and selectors from the first on
--     from-segment                the stops from a segment on have its number or a higher one
--     After, stop-order           each stop, and those that follow it
use Rattle.std.specs.Prelude.{◌≡◌, ℕ, zero, suc, ◌+◌, ◌≤◌, ◌<◌, take}
use Rattle.std.proofs.Math.Path.{ap}
use Rattle.std.proofs.Math.Logic.{⊎_elim}
use Rattle.std.proofs.Common.{arith}
use mathlib.Core.List.Memᴰ
use mathlib.Core.List.{List, [], ◌∷◌, ◌++◌}
use Rattle.theory.specs.Rising.{Mem, All}
use Rattle.index.specs.Rules.{Item}
use Rattle.walk.specs.Walk.{Spot}
use Rattle.walk.specs.Walk.Spots.{Reading, Stop, spots_in, spells, spots_from, spots}
use Rattle.walk.specs.Walk.Tours.{Each}
use Rattle.walk.specs.Walk.Pieces.{each-spots}
use Rattle.walk.specs.Walk.Laws.{each_in}

module _ (g : ℕ) where
  pub in-segment : (s : ℕ) (b es : List Item) (p : Stop) → Mem p (spots_in g s b es) → p.spot.segment ≡ g
  unfolding spots_in
  in-segment s b [] p m = absurd (Memᴰ.not-nil m)
  in-segment s b (e ∷ es) p m =
      ⊎_elim (λ q. ap (λ y. y.spot.segment) q) (λ k. in-segment (s + 1) (b ++ (e ∷ [])) es p k) (Memᴰ.cases_cons m)

  pub in-selector : (s : ℕ) (b es : List Item) (p : Stop) → Mem p (spots_in g s b es) → s ≤ p.spot.selector
  unfolding spots_in
  in-selector s b [] p m = absurd (Memᴰ.not-nil m)
  in-selector s b (e ∷ es) p m =
      ⊎_elim (λ q. omega (arith, ap (λ (y : Stop). y.spot.selector) q))
      (λ k. omega (arith, in-selector (s + 1) (b ++ (e ∷ [])) es p k)) (Memᴰ.cases_cons m)

pub from-segment : (t x : List ℕ) (k g : ℕ) (b w : List Item) (p : Stop) → Mem p (spots_from t x k g b w) → g ≤ p.spot.segment
unfolding spots_from
from-segment t x zero g b w p m = absurd (Memᴰ.not-nil m)
from-segment t x (suc k) g b w p m =
    ⊎_elim (λ n. omega (arith, in-segment g 0 b (take (spells t x g) w) p n))
    (λ n. omega (arith, from-segment t x k (g + 1) _ _ p n)) (Memᴰ.append_cases (spots_in g 0 b (take (spells t x g) w)) m)

-- in its own segment the second cursor stands after the first
abbrev pub After : Spot → Spot → Type 0
After c d = d.segment ≡ c.segment → c.selector < d.selector

pub stop-order : {t x : List ℕ} → Reading t x → Each (λ p qs. All (λ q. After p.spot q.spot) qs) (spots t x)
stop-order {t} {x} r =
    each-spots r (λ k g b own left piece. each_in _ g b own (λ s us e es _ _ q m same.
    let first = spots_in g (s + 1) (b ++ us ++ (e ∷ [])) es in let later = spots_from t x k (g + 1) (b ++ own) left in
    ⊎_elim (λ (n : Mem q first). omega (arith, in-selector g (s + 1) (b ++ us ++ (e ∷ [])) es q n))
    (λ (n : Mem q later). absurd (omega (arith, from-segment t x k (g + 1) (b ++ own) left q n))) (Memᴰ.append_cases first m)))
