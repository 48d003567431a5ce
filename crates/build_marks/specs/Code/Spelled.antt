-- What the code writes of records: their selectors, each old where it has the key of the one before it.
--     marks_on, last_key                  the selectors of records after one with a key, and the key of the last
--     marks_on-snoc, last_key-snoc, ..    one record more
--     spells                            of records after a cut these are the selectors
use Rattle.std.specs.Prelude.{◌≡◌, refl, ℕ, suc, List, [], ◌∷◌, ◌++◌, map, length, eqb}
use Rattle.std.proofs.Common.{ap, ne_eqb}
use Rattle.tray.specs.Meaning.{runs_of}
use Rattle.index.specs.Rules.{Item, key_of, selector_of}
use Rattle.index.specs.Rules.Cuts.{Cut, last_of}
use Rattle.index.specs.Scan.{marked}
use Rattle.index.specs.Scan.Marks.{marks, first-mark, true-marks}
use Rattle.build_spec.specs.Build.{item_key}
use Rattle.build_spec.specs.Build.Laws.{Ready}
use Rattle.build_spec.proofs.Build.Laws.{below_64}

-- the selectors of records after one with key k
unfoldable pub marks_on : ℕ → List Item → List ℕ
marks_on k [] = []
marks_on k (e ∷ es) = marked e.run e.item (eqb k (item_key e)) ∷ marks_on (item_key e) es

-- the key of the last record, or k
unfoldable pub last_key : ℕ → List Item → ℕ
last_key k [] = k
last_key k (e ∷ es) = last_key (item_key e) es

pub last_key-snoc : (k : ℕ) (es : List Item) (e : Item) → last_key k (es ++ (e ∷ [])) ≡ item_key e
unfolding last_key
last_key-snoc k [] e = refl
last_key-snoc k (x ∷ es) e = last_key-snoc (item_key x) es e

pub marks_on-snoc : (k : ℕ) (es : List Item) (e : Item)
    → marks_on k (es ++ (e ∷ [])) ≡ marks_on k es ++ (marked e.run e.item (eqb (last_key k es) (item_key e)) ∷ [])
unfolding marks_on last_key
marks_on-snoc k [] e = refl
marks_on-snoc k (x ∷ es) e = ap (λ l. marked x.run x.item (eqb k (item_key x)) ∷ l) (marks_on-snoc (item_key x) es e)

pub length-marks_on : (k : ℕ) (es : List Item) → length (marks_on k es) ≡ length es
unfolding marks_on
length-marks_on k [] = refl
length-marks_on k (e ∷ es) = ap suc (length-marks_on (item_key e) es)

pub last_key-last : (k : ℕ) (c : Item) (es : List Item) → last_key k (c ∷ es) ≡ key_of (last_of c es).item
unfolding last_key last_of
last_key-last k c [] = refl
last_key-last k c (e ∷ es) = last_key-last (item_key c) e es

marks_on-marks : (c : Item) (es : List Item) → marks_on (item_key c) es ≡ marks c es
unfolding marks_on marks
marks_on-marks c [] = refl
marks_on-marks c (e ∷ es) = ap (λ l. marked e.run e.item (eqb (item_key c) (item_key e)) ∷ l) (marks_on-marks e es)

-- after a cut, and after a key that is not the first one's, these are the selectors
pub spells : {d : ℕ} (t : List ℕ) → Ready d (runs_of t) → (k : ℕ) (b : List Item) (c : Item) (es v : List Item) → Cut (runs_of t) b (c ∷ (es ++ v)) → (k ≡ item_key c → ⊥)
    → marks_on k (c ∷ es) ≡ map (selector_of (runs_of t)) (c ∷ es)
unfolding marks_on
spells t ready k b c es v cut n =
    let first = first-mark ready.good (below_64 ready) b c (es ++ v) cut in
    let others = true-marks ready.good (below_64 ready) b c es v cut.whole in
    let old = ne_eqb k (item_key c) n in
    let rest = marks_on-marks c es in
    cc
