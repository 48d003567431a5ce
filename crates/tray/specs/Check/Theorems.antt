-- When check tray gives which number. That it does: `proofs/Check/Theorems.antt`.
use Rattle.std.specs.Prelude.{◌≡◌, ℕ, true, false, List}
use Rattle.tray.specs.Frame.{run_bytes, Framed}
use Rattle.tray.specs.Run.{record_at, kind_wrong, key_wrong}
use Rattle.tray.specs.Check.{Numbered, RightBefore}

module _ (t : List ℕ) where
  -- record n stands at place p of run r, in a tray with the frame, and every record before it is right
  pub record First (n r p : ℕ) : Type 0 where
    pub frame : Framed t
    pub numbered : Numbered t n r p
    pub before : RightBefore t n

  -- record n is the first wrong one, its kind is right, and its key is not above the one before it in its run
  abbrev pub WrongKeyAt : ℕ → Type 0
  WrongKeyAt n = (r : ℕ) × (p : ℕ) × First n r p × (kind_wrong (record_at (run_bytes t r) p) ≡ false) × (key_wrong (run_bytes t r) p ≡ true)

  -- record n is the first wrong one: its kind is above 1, or it is gone and has a value
  abbrev pub WrongKindAt : ℕ → Type 0
  WrongKindAt n = (r : ℕ) × (p : ℕ) × First n r p × (kind_wrong (record_at (run_bytes t r) p) ≡ true)
