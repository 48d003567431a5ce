-- What the code of the quick calls needs of the definitions.
--     cursor-back, end-at              a cursor is the one of its spot; the end of an index as the code has it
--     frames-fit, frames-refused       the frames decide
--     seek-found, seek-ends, seek-lost     what the code's walk hands over is seek's answer
use Rattle.std.specs.Prelude.{◌≡◌, ℕ, Bool, true, false, cond, List, [], ◌∷◌, map, Ok, Err, Option, Some, None}
use Rattle.std.proofs.Common.{refl, sym, ap, ◌∙◌}
use Rattle.refusal.specs.declared.Refusal.{Refusal}
use Rattle.refusal.specs.declared.Refusal.TheVariants.{TrayFrame, IndexFrame, Lost}
use Rattle.tray.specs.declared.Place.{Place}
use Rattle.tray.specs.Frame.{run_count, framed}
use Rattle.index.specs.Layout.{segment_count, index_framed}
use Rattle.walk.specs.declared.cursor.Cursor.{Cursor}
use Rattle.walk.specs.declared.cursor.Sighting.{Sighting}
use Rattle.walk.specs.declared.cursor.Lost.{Lost as LostAt}
use Rattle.answers.specs.declared.Stand.TheVariants.{Found, End}
use Rattle.walk.specs.Opens.{frames}
use Rattle.walk.specs.Reads.{seek, end_spot}
use Rattle.walk.specs.Code.{numbers, spot_of, sought_of}
use Rattle.walk.specs.Code.Moves.{end_at}
use Rattle.answers.specs.Quick.{cursor_of, in_frames}
use Rattle.answers.specs.Seek.{seek_told, seek_framed}

-- a cursor is the one of its spot
places-back : (ps : List Place) → map (λ (p : ℕ). record { 0 = p }) (numbers ps) ≡ ps
unfolding numbers
places-back [] = refl
places-back (p ∷ ps) = ap (λ (l : List Place). p ∷ l) (places-back ps)

pub cursor-back : (c : Cursor) → cursor_of (spot_of c) ≡ c
unfolding cursor_of spot_of
cursor-back c = ap (λ (ps : List Place). record { segment = c.segment; selector = c.selector; places = ps }) (places-back c.places)

-- the end of an index as the code has it
pub end-at : (x : List ℕ) {n : ℕ} → n ≡ segment_count x → end_at n ≡ cursor_of (end_spot x)
unfolding cursor_of end_spot
end-at x e = ap end_at e

-- the frames decide
module _ {A : Type 0} (refused : Refusal → A) (t x : List ℕ) (fits : A) where
  by-tests : (a b : Bool) (o : Option Refusal) → cond a (cond b None (Some IndexFrame)) (Some TrayFrame) ≡ o
      → cond a (cond b fits (refused IndexFrame)) (refused TrayFrame) ≡ elim o [ None ↦ fits | Some r ↦ refused r ]
  by-tests true true o e = rw (← e)
  by-tests true false o e = rw (← e)
  by-tests false b o e = rw (← e)

  pub frames-fit : frames t x ≡ None → in_frames refused t x fits ≡ fits
  unfolding frames in_frames
  frames-fit e = by-tests (framed t) (index_framed (run_count t) x) None e

  pub frames-refused : {r : Refusal} → frames t x ≡ Some r → in_frames refused t x fits ≡ refused r
  unfolding frames in_frames
  frames-refused {r} e = by-tests (framed t) (index_framed (run_count t) x) (Some r) e

-- what the code's walk hands over is seek's answer
module _ (t x : List ℕ) (key : ℕ) where
  pub seek-found : (f : Sighting) → sought_of (Ok (Some f)) ≡ seek t x key → Ok (Found f.run f.place f.cursor) ≡ seek_framed t x key
  unfolding sought_of seek_framed seek_told
  seek-found f e = ap (λ (c : Cursor). Ok (Found f.run f.place c)) (sym (cursor-back f.cursor)) ∙ ap (seek_told x) e

  pub seek-ends : {n : ℕ} → n ≡ segment_count x → sought_of (Ok None) ≡ seek t x key → Ok (End (end_at n)) ≡ seek_framed t x key
  unfolding sought_of seek_framed seek_told
  seek-ends n e = ap (λ (c : Cursor). Ok (End c)) (end-at x n) ∙ ap (seek_told x) e

  pub seek-lost : (l : LostAt) → sought_of (Err l) ≡ seek t x key → Err (Lost l.segment l.selector) ≡ seek_framed t x key
  unfolding sought_of seek_framed seek_told
  seek-lost l e = ap (seek_told x) e
