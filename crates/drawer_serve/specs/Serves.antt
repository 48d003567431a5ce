-- What a piece of the input does to what is carried: each of its bytes is fed once, in order, and the output holds the end of what was said. What
-- was said before that has left the output; that it was written no contract can say.
pub mod Laws
use Rattle.std.specs.Prelude.{◌≡◌, ◌⊎◌, ℕ, ◌≤◌, List, [], ◌++◌, length, take}
use Rattle.drawer_spec.specs.declared.Drawer.{Drawer}
use Rattle.drawer_spec.specs.declared.Carried.{Carried}
use Rattle.drawer_spec.specs.Filled.{filled}
use Rattle.drawer_spec.specs.Turns.{Roomy}
use Rattle.drawer_spec.specs.Feed.{Progress, feed}
use Rattle.drawer_spec.specs.Feed.Code.{Stands}

-- room made in a drawer: what stood in the output stands there still, or all of it is written
pub record Room {n : ℕ} (before after : Drawer n) : Type 0 where
  pub tray : filled after.tray ≡ filled before.tray
  pub index : filled after.index ≡ filled before.index
  pub number : after.number ≡ before.number
  pub held-or-written : (filled after.output ≡ filled before.output) ⊎ (filled after.output ≡ [])
  pub low : Roomy after

-- the same progress, with bytes said before all of it
unfoldable pub preceded : List ℕ → Progress → Progress
preceded written p = record { tray = p.tray; index = p.index; number = p.number; line = p.line; said = written ++ p.said }

-- what is carried is this progress, but for what is written of what was said
pub record Leaves (all : Progress) (carried : Carried) : Type 0 where
  pub written : List ℕ
  pub left : Progress
  pub is : all ≡ preceded written left
  pub stands : Stands carried left

-- a piece, whole
abbrev pub Serves : List ℕ → Carried → Carried → Type 0
Serves piece before after = (p : Progress) → Stands before p → Leaves (feed p piece) after

-- the piece has been taken up to a place
pub record Serving (piece : List ℕ) (before now : Carried) (at : ℕ) : Type 0 where
  pub low : Roomy now.drawer
  pub high : at ≤ length piece
  pub serves : Serves (take at piece) before now
