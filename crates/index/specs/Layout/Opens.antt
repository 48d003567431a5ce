-- What opening an index promises.
use Rattle.std.specs.Prelude.{◌≡◌, ℕ, ◌≤◌, List, true, false, Result, MatchResult}
use Rattle.refusal.specs.declared.Refusal.{Refusal}
use Rattle.refusal.specs.declared.Refusal.TheVariants.{IndexFrame}
use Rattle.index.specs.declared.Index.{Index}
use Rattle.index.specs.Layout.{index_framed}

-- the index where its frame fits a tray of h runs, and else refusal 4
abbrev pub Opens : ℕ → List ℕ → Result Index Refusal → Type 0
Opens h x o =
    MatchResult o (λ (i : Index). (index_framed h x ≡ true) × (i.bytes.now ≡ x) × (i.runs ≡ h) × (h ≤ i.size) × (i.size ≤ 128)) (λ (e : Refusal). (index_framed h x ≡ false) × (e ≡ IndexFrame))
