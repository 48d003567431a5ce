-- What the code needs where a selector's record is looked up and read.
--     step-none, step-not, step-read   one selector after another record
--     begin-none, begin-not, begin-other, begin-read   the first selector of a segment
use Rattle.std.specs.Prelude.{◌≡◌, ℕ, ◌%◌, ◌+◌, Bool, true, false, List, get_or, set, ltb, Some, None}
use Rattle.std.proofs.Math.Path.{sym, ap}
use Rattle.std.proofs.Common.{◌∙◌}
use borrow.Author.Tests.{lt-ltb, le-ltb, ltb-true, eq-eqb, ne_eqb}
use Rattle.theory.specs.Tests.{cases}
use Rattle.tray.specs.Frame.{count_of, run_bytes}
use Rattle.tray.specs.Run.{record_at}
use Rattle.tray.specs.declared.Head.{Head}
use Rattle.tray.specs.declared.Place.{Place}
use Rattle.index.specs.Scan.{lost, kept, next_in, has_next, names, raise, begins, joins}
use Rattle.index.specs.Scan.Code.{NextPlace, step_of, begin_of, trailed}
use Rattle.tray.specs.Run.Code.{HeadOf, headed}
use Rattle.index.specs.Scan.Code.Select.{begins-head, joins-head}

module _ (t : List ℕ) (h : ℕ) (places : List ℕ) (v : ℕ) where
  module _ (next : NextPlace t h places (v % 64) None) where
    names-none : names t h places v ≡ false
    unfolding names has_next
    names-none =
        cases (ltb (v % 64) h)
        (λ y. rw (y, le-ltb (get_or places (v % 64) 0) (count_of t (v % 64)) (next (ltb-true (v % 64) h y))))
        (λ n. rw n)

    pub step-none : (last before : ℕ) → lost ≡ step_of t h places v last before
    unfolding step_of
    step-none last before = rw names-none

    pub begin-none : (anchor : ℕ) → lost ≡ begin_of t h places v anchor
    unfolding begin_of
    begin-none anchor = rw names-none

  module _ (p : Place) {e : Head} (next : NextPlace t h places (v % 64) (Some p)) (head : HeadOf e (record_at (run_bytes t (v % 64)) p.0)) where
    names-next : names t h places v ≡ true
    unfolding names has_next
    names-next = rw (lt-ltb (v % 64) h next.0, lt-ltb (get_or places (v % 64) 0) (count_of t (v % 64)) next.1)

    whole : HeadOf e (next_in t places (v % 64))
    unfolding next_in
    whole = let z = next.2 in rw z at head

    module _ (last before : ℕ) {b : Bool} (told : b ≡ joins last before v (headed e)) where
      follows : joins last before v (next_in t places (v % 64)) ≡ b
      follows = sym (told ∙ joins-head whole last before v)

      pub step-not : b ≡ false → lost ≡ step_of t h places v last before
      unfolding step_of
      step-not f = rw (names-next, follows ∙ f)

      pub step-read : b ≡ true → trailed (Some e.key) (set places (v % 64) (p.0 + 1)) ≡ step_of t h places v last before
      unfolding step_of trailed raise
      step-read y = let z = next.2 in rw (names-next, follows ∙ y, z) (ap (kept (raise places (v % 64))) whole.key)

    module _ (anchor : ℕ) {b : Bool} (told : b ≡ begins v (headed e)) where
      starts-so : begins v (next_in t places (v % 64)) ≡ b
      starts-so = sym (told ∙ begins-head whole v)

      pub begin-not : b ≡ false → lost ≡ begin_of t h places v anchor
      unfolding begin_of
      begin-not f = rw (names-next, starts-so ∙ f)

      pub begin-other : b ≡ true → (anchor ≡ e.key → ⊥) → lost ≡ begin_of t h places v anchor
      unfolding begin_of
      begin-other y k = rw (names-next, starts-so ∙ y, ne_eqb anchor (next_in t places (v % 64)).key (λ z. k (z ∙ sym whole.key)))

      pub begin-read : b ≡ true → anchor ≡ e.key → trailed (Some e.key) (set places (v % 64) (p.0 + 1)) ≡ begin_of t h places v anchor
      unfolding begin_of trailed raise
      begin-read y k =
          let z = next.2 in
          rw (names-next, starts-so ∙ y, eq-eqb anchor (next_in t places (v % 64)).key (k ∙ whole.key), z) (ap (kept (raise places (v % 64))) whole.key)
