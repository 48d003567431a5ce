-- What the calls need of a cursor's test.
--     belongs-low           one that belongs and is not the end stands at a selector
use Rattle.std.specs.Prelude.{◌≡◌, ℕ, ◌<◌, Bool, true, List, ltb}
use Rattle.std.proofs.Common.{sym, ◌∙◌}
use borrow.Author.Tests.{ltb-true, ltb-false}
use Rattle.theory.specs.Tests.{cases, clash}
use Rattle.walk.specs.declared.cursor.Cursor.{Cursor}
use Rattle.walk.specs.Reads.{belongs}
use Rattle.walk.specs.Code.{Walking, spot_of}
use Rattle.walk_cursor.specs.Standing.{belongs-past}

module _ {t x : List ℕ} {h d n : ℕ} {counts : List ℕ} (w : Walking t x h d n counts) (c : Cursor) {b : Bool} (told : b ≡ belongs h x (spot_of c)) where
  -- one that belongs and is not the end stands at a selector
  pub belongs-low : b ≡ true → c.segment.0 < n → c.selector < d
  unfolding spot_of
  belongs-low y l =
      cases (ltb c.selector d) (λ a. ltb-true c.selector d a)
      (λ a. clash (sym told ∙ y) (sym (belongs-past w.index (spot_of c) l (ltb-false c.selector d a))))
