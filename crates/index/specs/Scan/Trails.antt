-- Selectors that spell records read one by one, in order, with marks by neighbours: what the scan goes by, selector by selector.
--     Trails                                   the selectors vs spell the records es, read after b, the last of which is c
--     Joint                                    the first selector joins, and the others trail it
--     trails_none, trails-end, joint-trails    no selector, placeholders, and one that joins
--     trails-empty, trails-ends, trails-joint  and there is no other way
--     takes-head                               the first record that is read
use Rattle.std.specs.Prelude.{◌≡◌, refl, ℕ, ◌<◌, eqb}
use Rattle.std.proofs.Math.Path.{sym, ap₂}
use Rattle.std.proofs.Common.{◌∙◌, arith}
use mathlib.Core.List.Memᴰ
use mathlib.Core.List.{List, [], ◌∷◌, ◌++◌}
use borrow.Author.Tests.{eqb-true, eqb-false}
use Rattle.theory.specs.Records.{Record}
use Rattle.theory.specs.Rising.{All, Rises, none, more}
use Rattle.theory.specs.Tests.{cases, never}
use Rattle.theory.specs.View.{rank}
use Rattle.theory.specs.Places.{bump, Head, Takes, take_none, take_more}
use Rattle.index.specs.Rules.{placeholder, key_of, Item, spelled}
use Rattle.index.specs.Rules.Laws.{Ended, Filled, ended-none, ended-cons, ended-tail, ended-filled, spelled-end, spelled-more}
use Rattle.index.specs.Rules.Cuts.{first-least}
use Rattle.index.specs.Scan.{marked}
use Rattle.index.specs.Scan.Marks.{marks}
use Rattle.index.specs.Scan.Entry.{read, read-snoc}

module _ (t : List (List Record)) where
  -- after the records b, of which c is the last, the selectors vs spell es and then placeholders
  pub record Trails (b : List Item) (c : Item) (vs : List ℕ) (es : List Item) : Type 0 where
    pub takes : Takes t (read b) es
    pub rises : Rises (rank key_of) (c ∷ es)
    pub spells : spelled vs ≡ marks c es
    pub ended : Ended vs

  -- the selector v joins with the record e, and vs and es trail it
  pub record Joint (b : List Item) (c : Item) (v : ℕ) (vs : List ℕ) (e : Item) (es : List Item) : Type 0 where
    pub spells : v ≡ placeholder → ⊥
    pub head : Head t (read b) e
    pub up : rank key_of c < rank key_of e
    pub mark : v ≡ marked e.run e.item (eqb (key_of c.item) (key_of e.item))
    pub later : Trails (b ++ (e ∷ [])) e vs es

-- one record alone rises
one-rises : (c : Item) → Rises (rank key_of) (c ∷ [])
one-rises c = more (λ e m. absurd (Memᴰ.not-nil m)) none

-- of two and more the first is below the second
rises-head : {c e : Item} {es : List Item} → Rises (rank key_of) (c ∷ e ∷ es)
    → (rank key_of c < rank key_of e) × Rises (rank key_of) (e ∷ es)
rises-head {e = e} (more h r) = (h e (Memᴰ.head refl), r)

-- the first record that is read is the next one of its run
pub takes-head : {t : List (List Record)} {p : ℕ → ℕ} {e : Item} {es : List Item}
    → Takes t p (e ∷ es) → Head t p e × Takes t (bump p e.run) es
takes-head (take_more h k) = (h, k)

module _ {t : List (List Record)} {b : List Item} {c : Item} where
  pub trails_none : Trails t b c [] []
  unfolding spelled marks
  trails_none = record { takes = take_none; rises = one-rises c; spells = refl; ended = ended-none }

  pub trails-end : {v : ℕ} {vs : List ℕ} → v ≡ placeholder → Ended (v ∷ vs) → Trails t b c (v ∷ vs) []
  unfolding marks
  trails-end {v} {vs} e f = record { takes = take_none; rises = one-rises c; spells = spelled-end v vs e; ended = f }

  -- where no selector is left, no record is
  pub trails-empty : {e : Item} {es : List Item} {Q : Type 0} → Trails t b c [] (e ∷ es) → Q
  unfolding spelled marks
  trails-empty k = let z = k.spells in never (cc)

  -- where no record is left, only placeholders are
  pub trails-ends : {v : ℕ} {vs : List ℕ} → Trails t b c (v ∷ vs) [] → (v ≡ placeholder) × Filled vs
  unfolding marks
  trails-ends {v} {vs} k =
      let d = cases (eqb v placeholder) (λ y. eqb-true _ _ y) (λ n. not_more (eqb-false _ _ n)) in
      (d, ended-filled v vs d k.ended)
    where
      not_more : (v ≡ placeholder → ⊥) → v ≡ placeholder
      not_more d = let z = sym (spelled-more v vs d) ∙ k.spells in never (cc)

  module _ {v : ℕ} {vs : List ℕ} {e : Item} {es : List Item} where
    pub joint-trails : Joint t b c v vs e es → Trails t b c (v ∷ vs) (e ∷ es)
    unfolding marks
    joint-trails j =
        let k = j.later in
        let above : All (λ x. rank key_of c < rank key_of x) (e ∷ es) = λ x n. omega (arith, first-least k.rises n, j.up) in
        record {
          takes = take_more j.head (rw read-snoc at k.takes);
          rises = more above k.rises;
          spells = spelled-more v vs j.spells ∙ ap₂ {C = List ℕ} (λ a l. a ∷ l) j.mark k.spells;
          ended = ended-cons v vs j.spells k.ended;
        }

    pub trails-joint : Trails t b c (v ∷ vs) (e ∷ es) → Joint t b c v vs e es
    unfolding marks
    trails-joint k =
        let is = sym (spelled-more v vs spells) ∙ k.spells in
        let read-on = takes-head k.takes in let up = rises-head k.rises in
        record {
          spells = spells;
          head = read-on.0;
          up = up.0;
          mark = cc;
          later = record { takes = rw read-snoc read-on.1; rises = up.1; spells = cc; ended = ended-tail v vs k.ended };
        }
      where
        spells : v ≡ placeholder → ⊥
        spells p = let z = sym (spelled-end v vs p) ∙ k.spells in never (cc)
