-- The segments that are built, as they are read. The laws: `proofs/Build/Read.antt`.
use Rattle.std.specs.Prelude.{replicate}
use Prim.Native.Nat.{ℕ, ◌-◌}
use mathlib.Core.List.{List, [], ◌∷◌, ◌++◌, map}
use Rattle.std.proofs.Math.ListN.{length}
use Rattle.theory.specs.Records.{Record}
use Rattle.theory.specs.Places.{count}
use Rattle.theory.specs.Listed.{listed}
use Rattle.index.specs.Layout.{Segment}
use Rattle.index.specs.Rules.{Item, placeholder, selector_of}
use Rattle.build_spec.specs.Build.{anchor_of}

-- a segment as it is written, after the records before it
unfoldable pub built_segment : ℕ → List (List Record) → List Item → List Item → Segment
built_segment d t before own =
    record {
      anchor = anchor_of own;
      offsets = listed (length t) 0 (λ r. count r before);
      selectors = map (selector_of t) own ++ replicate (d - length own) placeholder;
    }

-- segments as they are written, after the records before them
unfoldable pub built_segments : ℕ → List (List Record) → List Item → List (List Item) → List Segment
built_segments d t before [] = []
built_segments d t before (own ∷ rest) = built_segment d t before own ∷ built_segments d t (before ++ own) rest
