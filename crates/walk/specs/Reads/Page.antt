-- What a page writes: the records of a list, one after the other. Its laws: `proofs/ReadsLaws/Page.antt`.
use Rattle.std.specs.Prelude.{ℕ, ◌*◌, ◌/◌, length, take, drop}
use mathlib.Core.List.{List, [], ◌∷◌, ◌++◌, map}
use Rattle.theory.specs.Records.{Record}
use Rattle.walk.specs.Walk.{Spot, Walked}
use Rattle.walk.specs.Walk.Spots.{Stop}
use Rattle.walk.specs.Walk.Tours.{first_of}
use Rattle.walk.specs.Reads.Shown.{point_of}
use Rattle.walk.specs.Reads.{Written, listed_bytes}

-- the bytes of some records, 24 each
unfoldable pub listing : List Record → List ℕ
listing [] = []
listing (e ∷ es) = listed_bytes e ++ listing es

-- the output with some records written, and the rest as it was
unfoldable pub written : List Record → List ℕ → Written
written es out = record { count = length es; out = listing es ++ drop (24 * length es) out }

-- how many records fit
abbrev pub room : List ℕ → ℕ
room out = length out / 24

-- what a page of these stops comes to: the first that fit are written; it stays at the first that does not, or ends
unfoldable pub paged : List Stop → List ℕ → Walked Written (Written × Spot)
paged qs out =
    let done = written (map point_of (take (room out) qs)) out in first_of (λ p. (done, p.spot)) (drop (room out) qs) done
