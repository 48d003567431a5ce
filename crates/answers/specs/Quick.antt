-- What the quick calls share: cursors as values of the library, and the frames that they test first (docs/RULES.md, "Refusals by number").
use Rattle.std.specs.Prelude.{ℕ, cond, List, map}
use Rattle.refusal.specs.declared.Refusal.{Refusal}
use Rattle.refusal.specs.declared.Refusal.TheVariants.{TrayFrame, IndexFrame}
use Rattle.tray.specs.Frame.{run_count, framed}
use Rattle.index.specs.Layout.{index_framed}
use Rattle.walk.specs.declared.cursor.Cursor.{Cursor}
use Rattle.walk.specs.Walk.{Spot}

-- a cursor as a value of the library
unfoldable pub cursor_of : Spot → Cursor
cursor_of c = record { segment = record { 0 = c.segment }; selector = c.selector; places = map (λ (p : ℕ). record { 0 = p }) c.places }

-- the quick calls ask 1, then 4, and then what they ask where both frames fit
unfoldable pub in_frames : {A : Type 0} → (Refusal → A) → List ℕ → List ℕ → A → A
in_frames refused t x fits = cond (framed t) (cond (index_framed (run_count t) x) fits (refused IndexFrame)) (refused TrayFrame)
