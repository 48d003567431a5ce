-- A record of a tray as three numbers (docs/FORMAT.md, "The tray"): key, kind and value.
use Rattle.std.specs.Prelude.{ℕ, ◌≤◌, ◌≡◌, Bool, eqb}

pub record Record : Type 0 where
  pub key : ℕ
  pub kind : ℕ
  pub value : ℕ

-- kind 0 is live
abbrev pub live : Record → Bool
live e = eqb e.kind 0

-- kind 0 is live, 1 is gone; a gone record's value is all zero
pub record SoundRecord (e : Record) : Type 0 where
  pub known : e.kind ≤ 1
  pub gone : e.kind ≡ 1 → e.value ≡ 0
