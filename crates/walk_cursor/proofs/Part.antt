-- A stretch of a list: m elements from element a on.
use Rattle.std.proofs.Common.{◌≡◌, ℕ, ◌+◌, ◌<◌, ◌∙◌, List, length, take, drop, get_or, arith, length-take}
use Rattle.std.proofs.lemmas.List.{get_or-take, get_or-drop}

pub part-at : {A : Type 0} (a m : ℕ) (xs : List A) (i : ℕ) (d : A) → i < length (take m (drop a xs)) → get_or (take m (drop a xs)) i d ≡ get_or xs (a + i) d
part-at {A} a m xs i d l = get_or-take m (drop a xs) i d (omega (arith, length-take m (drop a xs))) ∙ get_or-drop a xs i d
