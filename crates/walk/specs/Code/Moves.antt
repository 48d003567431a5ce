-- The moves of a cursor over a selector (docs/RULES.md, "Walk"): passing a record raises its run's place by one.
use Rattle.std.specs.Prelude.{◌≡◌, refl, ℕ, ◌+◌, ◌<◌, List, get_or, set, replicate}
use Rattle.std.proofs.Common.{sym, ap, subst}
use Rattle.tray.specs.declared.Place.{Place}
use Rattle.index.specs.Scan.{raise}
use Rattle.walk.specs.declared.cursor.Cursor.{Cursor}
use Rattle.walk.specs.Walk.{Spot}
use Rattle.walk.specs.Code.{placed, raise-numbers, spot_of}

-- the end of an index of n segments
abbrev pub end_at : ℕ → Cursor
end_at n = record { segment = record { 0 = n }; selector = 0; places = replicate 63 (placed 0) }

-- past a placeholder
unfoldable pub past_gap : Spot → Spot
past_gap c = record { segment = c.segment; selector = c.selector + 1; places = c.places }

-- past a record of run r
unfoldable pub past_record : Spot → ℕ → Spot
past_record c r = record { segment = c.segment; selector = c.selector + 1; places = raise c.places r }

-- a cursor moved so
pub moved-gap : (c : Cursor) → spot_of (record { segment = c.segment; selector = c.selector + 1; places = c.places }) ≡ past_gap (spot_of c)
unfolding past_gap spot_of
moved-gap c = refl

pub moved-record : (c : Cursor) {r i : ℕ} → i ≡ r
    → spot_of (record { segment = c.segment; selector = c.selector + 1; places = set c.places i (placed ((get_or c.places i (placed 0)).0 + 1)) })
    ≡ past_record (spot_of c) r
unfolding past_record spot_of
moved-record c {r} e = ap (λ (ps : List ℕ). record { segment = c.segment.0; selector = c.selector + 1; places = ps }) (raise-numbers c.places e)

-- a place read by its run's number
pub same_place : (ps : List Place) {r i n : ℕ} → i ≡ r → (get_or ps r (placed 0)).0 < n → (get_or ps i (placed 0)).0 < n
same_place ps {n = n} e l = subst (λ (k : ℕ). (get_or ps k (placed 0)).0 < n) (sym e) l
