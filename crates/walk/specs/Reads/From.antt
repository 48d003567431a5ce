-- The visible stops rise by key, so those from a key on are the last ones.
--     key_at, shown-rises     a stop's key, and that the visible ones rise by it
--     from_on                those from a key on are the last ones
use Rattle.std.specs.Prelude.{◌≡◌, refl, ℕ, List, [], ◌∷◌, ◌++◌, map}
use Rattle.std.proofs.Common.{sym, ap, subst, arith, leb-true, le-leb}
use mathlib.Core.List.Memᴰ
use Rattle.theory.specs.Rising.{Rises, none, more, keep}
use Rattle.theory.proofs.Rising.Kept.{keep_all}
use Rattle.theory.specs.Tests.{cases}
use Rattle.index.specs.Rules.{key_of}
use Rattle.walk.specs.Walk.Spots.{Reading, Stop}
use Rattle.walk.specs.Reads.Shown.{point_of, shown, shown-merged}
use Rattle.walk.specs.Reads.Seek.{is_from, from, points-rise}

-- the stop's key
abbrev pub key_at : Stop → ℕ
key_at p = key_of (point_of p)

rises-back : {A B : Type 0} (f : B → ℕ) (g : A → B) (xs : List A) → Rises f (map g xs) → Rises (λ a. f (g a)) xs
rises-back f g [] r = none
rises-back f g (a ∷ xs) (more h r) = more (λ b m. h (g b) (Memᴰ.map g m)) (rises-back f g xs r)

-- of rising stops those from a key on are the last ones
from_last : (key : ℕ) {ps : List Stop} → Rises key_at ps → (us : List Stop) × (ps ≡ us ++ keep (is_from key) ps)
unfolding keep
from_last key none = ([], refl)
from_last key (more {a = p} {xs = ps} above up) =
    cases (is_from key p)
    (λ y. let l = leb-true key (key_at p) y in
    ([], sym (rw y (ap (λ l. p ∷ l) (keep_all (is_from key) ps (λ q m. le-leb key (key_at q) (omega (arith, above q m))))))))
    (λ n. let w = from_last key up in (p ∷ w.0, rw n (ap (λ l. p ∷ l) w.1)))

module _ {t x : List ℕ} (r : Reading t x) where
  pub shown-rises : Rises key_at (shown t x)
  shown-rises = rises-back key_of point_of (shown t x) (subst (Rises key_of) (sym (shown-merged r)) (points-rise r))

  -- the visible stops from a key on are the last ones
  pub from_on : (key : ℕ) → (us : List Stop) × (shown t x ≡ us ++ from t x key)
  from_on key = from_last key shown-rises
