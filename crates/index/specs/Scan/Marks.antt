-- Marks by neighbours: what the scan compares selectors with, and that in the view these are the true marks.
--     marks              the selectors of records that follow c, each old exactly where it has the key of the one before it
--     first-mark         the first record after a cut is not old
--     true-marks         the others are old exactly where the one before them has their key
use Rattle.std.specs.Prelude.{◌≡◌, ℕ, ◌≤◌, false, length, eqb}
use Rattle.std.proofs.Math.Path.{refl, sym, ap}
use Rattle.std.proofs.Common.{◌∙◌}
use mathlib.Core.List.Memᴰ
use mathlib.Core.List.{List, [], ◌∷◌, ◌++◌, map}
use Rattle.std.proofs.Math.Seq.{append_snoc}
use Rattle.theory.specs.Records.{Record, SoundRecord}
use Rattle.theory.specs.Rising.{Mem}
use Rattle.theory.specs.Tests.{cases}
use Rattle.theory.specs.Hiding.{same_key}
use Rattle.theory.specs.Merge.{Good}
use Rattle.theory.specs.View.{view, old}
use Rattle.theory.proofs.View.Old.{old-before, old-neighbour}
use Rattle.index.specs.Rules.{key_of, Item, selector_of}
use Rattle.index.specs.Rules.Cuts.{Cut}
use Rattle.index.specs.Scan.{marked}

-- the selectors of es after the record c
unfoldable pub marks : Item → List Item → List ℕ
marks c [] = []
marks c (e ∷ es) = marked e.run e.item (eqb (key_of c.item) (key_of e.item)) ∷ marks e es

module _ {t : List (List Record)} (good : Good SoundRecord key_of t) (few : length t ≤ 64) where
  first-new : (b : List Item) (c : Item) (w : List Item) → Cut t b (c ∷ w) → old (same_key key_of) t c ≡ false
  first-new b c w cut =
      cases (old (same_key key_of) t c) (λ y. absurd (not-old (old-before good few b c w cut.whole y))) (λ n. n)
    where
      not-old : (x : Item) × Mem x b × (key_of x.item ≡ key_of c.item) → ⊥
      not-old o = cut.apart o.0 c o.1 (Memᴰ.head refl) o.2

  pub first-mark : (b : List Item) (c : Item) (w : List Item) → Cut t b (c ∷ w) → selector_of t c ≡ marked c.run c.item false
  unfolding selector_of marked
  first-mark b c w cut = ap (marked c.run c.item) (first-new b c w cut)

  pub true-marks : (b : List Item) (c : Item) (es w : List Item)
      → view key_of t ≡ b ++ (c ∷ (es ++ w)) → map (selector_of t) es ≡ marks c es
  unfolding marks selector_of marked
  true-marks b c [] w is = refl
  true-marks b c (e ∷ es) w is =
      let here : selector_of t e ≡ marked e.run e.item (eqb (key_of c.item) (key_of e.item)) =
      ap (marked e.run e.item) (old-neighbour good few b c e (es ++ w) is) in
      let later = true-marks (b ++ (c ∷ [])) e es w (is ∙ sym (append_snoc b c (e ∷ (es ++ w)))) in
      cc
