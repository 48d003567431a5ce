-- Worked cases of `groups` and `pack`, computed: a definition that differs on one of them is refused here.
-- The lists are keys; the letters are rows of docs/RULES.md, "Small trays to prove".
use Rattle.std.specs.Prelude.{◌≡◌, refl, List, [], ◌∷◌, ℕ}
use Rattle.theory.specs.Pack.{grouped, groups, pack_on, pack}

-- the segments of a view of these keys
segments : ℕ → List ℕ → List (List ℕ)
segments d ks = pack d (groups (λ k. k) ks)

-- the versions of a key are one group
groups-versions : groups (λ (k : ℕ). k) (5 ∷ 5 ∷ 9 ∷ []) ≡ (5 ∷ 5 ∷ []) ∷ (9 ∷ []) ∷ []
unfolding groups grouped
groups-versions = refl

-- a number that comes back later begins a new group
groups-back : groups (λ (k : ℕ). k) (5 ∷ 9 ∷ 5 ∷ []) ≡ (5 ∷ []) ∷ (9 ∷ []) ∷ (5 ∷ []) ∷ []
unfolding groups grouped
groups-back = refl

-- no record, no segment
row-a : segments 2 [] ≡ []
unfolding segments pack groups
row-a = refl

-- two versions fill a segment, and the next key opens one
row-b : segments 2 (5 ∷ 5 ∷ 9 ∷ []) ≡ (5 ∷ 5 ∷ []) ∷ (9 ∷ []) ∷ []
unfolding segments pack pack_on groups grouped
row-b = refl

-- both versions of 3 move on to a new segment, and the first keeps one place free
row-c : segments 2 (1 ∷ 3 ∷ 3 ∷ []) ≡ (1 ∷ []) ∷ (3 ∷ 3 ∷ []) ∷ []
unfolding segments pack pack_on groups grouped
row-c = refl

-- no segment ends before it has to
row-h : segments 4 (1 ∷ 2 ∷ []) ≡ (1 ∷ 2 ∷ []) ∷ []
unfolding segments pack pack_on groups grouped
row-h = refl

-- a group that just fits goes in
pack-exact : segments 3 (1 ∷ 3 ∷ 3 ∷ 4 ∷ []) ≡ (1 ∷ 3 ∷ 3 ∷ []) ∷ (4 ∷ []) ∷ []
unfolding segments pack pack_on groups grouped
pack-exact = refl
