-- What a reader sees through an accepted index, by key and value alone: get, seek, and pages from a key on, as answers of the calls, are those of
-- the live part of the full merge, whichever index it is.
--     fits-frames                 both frames fit
--     get-answers                 get's answer
--     Point, point_at, seek-answers     the record that seek finds, by key and value
--     onward, onward-are          the visible records from a key on
--     prefixed, sheet-answers, sheet-records     sheet's answer, and the records that it lists
use Rattle.std.specs.Prelude.{◌≡◌, refl, List, [], ◌∷◌, map, length, Ok, Err, Result}
use Rattle.std.proofs.Math.Path.{ap}
use Rattle.std.proofs.Common.{◌∙◌}
use Prim.Native.Nat.{ℕ}
use Rattle.std.proofs.Math.Bool.{cond}
use Rattle.std.proofs.Math.Dec.{leb}
use Rattle.number.specs.Big.{be}
use Rattle.refusal.specs.declared.Refusal.{Refusal}
use Rattle.refusal.specs.declared.Refusal.TheVariants.{Bounds, PrefixEnd}
use Rattle.theory.specs.Lists.{here}
use Rattle.theory.specs.Records.{Record}
use Rattle.theory.specs.Rising.{All, keep}
use Rattle.theory.proofs.Rising.Kept.{keep-mem}
use Rattle.tray.specs.Frame.{run_count, run_bytes}
use Rattle.tray.specs.Frame.Laws.{fits-framed}
use Rattle.tray.specs.Run.{record_at}
use Rattle.index.specs.Layout.Laws.{fits-index}
use Rattle.answers.specs.declared.Stand.{Stand}
use Rattle.answers.specs.declared.Stand.TheVariants.{Found, End}
use Rattle.walk.specs.Walk.{Walked}
use Rattle.walk.specs.Walk.Spots.{Reading, Stop}
use Rattle.walk.specs.Walk.Tours.{first_of}
use Rattle.walk.specs.Reads.{low_key, high_key, sheet}
use Rattle.walk.specs.Reads.Kept.{keep-map}
use Rattle.walk.specs.Reads.Shown.{found_at, point_of, shown, Shows, shown-merged}
use Rattle.walk.specs.Reads.Sheet.{Lists, to-bound, to_end, within}
use Rattle.walk.proofs.ReadsLaws.Sheet.{sheet-is}
use Rattle.walk.specs.Reads.Seek.{is_from, from, lookup, points, seek_is, get-is, shown-shows}
use Rattle.answers.specs.Sheet.{prefix_long, prefix_last, listed_in, sheet_told, records_of, sheet_framed, sheet_answer}
use Rattle.answers.specs.Quick.{in_frames}
use Rattle.answers.specs.Seek.{seek_told, seek_framed, seek_answer}
use Rattle.answers.specs.Get.{got_told, get_framed, get_answer}

-- a point as a reader sees it: key and value
pub data Point : Type 0 where
  point : ℕ → ℕ → Point
  no-point : Point
  no_answer : Refusal → Point

-- the record that seek's answer names
unfoldable pub point_at : List ℕ → Result Stand Refusal → Point
point_at t (Ok (Found run place c)) = let e = record_at (run_bytes t run.0) place.0 in point e.key e.value
point_at t (Ok (End c)) = no-point
point_at t (Err r) = no_answer r

-- the first of some records
unfoldable pub first_point : List Record → Point
first_point [] = no-point
first_point (e ∷ es) = point e.key e.value

-- the live records of the full merge from a key on
unfoldable pub onward : List ℕ → ℕ → List Record
onward t key = keep (λ e. leb key e.key) (points t)

module _ {t x : List ℕ} (r : Reading t x) where
  -- both frames fit
  pub fits-frames : {A : Type 0} (off : Refusal → A) (fits : A) → in_frames off t x fits ≡ fits
  unfolding in_frames
  fits-frames off fits = rw (fits-framed t r.sound.frame, fits-index (run_count t) x r.frame)

  pub get-answers : (key : List ℕ) → get_answer t x key ≡ got_told (lookup (be 8 key 0) (points t))
  unfolding get_answer get_framed
  get-answers key = fits-frames Err (get_framed t x (be 8 key 0)) ∙ ap got_told (get-is r (be 8 key 0))

  -- the visible records from a key on
  pub onward-are : (key : ℕ) → map point_of (from t x key) ≡ onward t key
  unfolding onward
  onward-are key = keep-map point_of (λ e. leb key e.key) (shown t x) ∙ ap (keep (λ e. leb key e.key)) (shown-merged r)

  pub seek-answers : (key : List ℕ) → point_at t (seek_answer t x key) ≡ first_point (onward t (be 8 key 0))
  unfolding seek_answer seek_framed seek_told point_at first_point first_of found_at
  seek-answers key =
      ap (point_at t) (fits-frames Err (seek_framed t x k))
      ∙ ap (λ w. point_at t (seek_told x w)) (seek_is r k)
      ∙ first (from t x k) (λ p m. shown-shows r p (keep-mem (is_from k) (shown t x) m).0)
      ∙ ap first_point (onward-are k)
    where
      k : ℕ
      k = be 8 key 0

      first : (ps : List Stop) → All (Shows t) ps → point_at t (seek_told x (first_of found_at ps 0)) ≡ first_point (map point_of ps)
      first [] h = refl
      first (p ∷ ps) h = ap (λ (e : Record). point e.key e.value) (h p here).reads

-- what sheet lists, whichever way its walk ended
lists-told : {w : Walked (List Record) (List Record)} {es : List Record} (room : ℕ) → Lists w es → sheet_told room w ≡ listed_in room es
unfolding sheet_told
lists-told room to-bound = refl
lists-told room to_end = refl

lists-records : {w : Walked (List Record) (List Record)} {es : List Record} → Lists w es → records_of w ≡ es
unfolding records_of
lists-records to-bound = refl
lists-records to_end = refl

-- the live records of the full merge whose key begins with a prefix
unfoldable pub prefixed : List ℕ → List ℕ → List Record
prefixed t prefix = keep (within (low_key prefix) (high_key prefix)) (points t)

-- sheet's answer for some records
unfoldable pub sheet_of : List Record → List ℕ → ℕ → Result ℕ Refusal
sheet_of es prefix room =
    cond (prefix_long prefix) (cond (prefix_last prefix) (Err (PrefixEnd (length prefix))) (listed_in room es)) (Err (Bounds (length prefix)))

module _ {t x : List ℕ} (r : Reading t x) (prefix : List ℕ) where
  pub sheet-answers : (room : ℕ) → sheet_answer t x prefix room ≡ sheet_of (prefixed t prefix) prefix room
  unfolding sheet_answer sheet_framed sheet_of prefixed
  sheet-answers room =
      fits-frames r Err (sheet_framed t x prefix room)
      ∙ ap (λ (a : Result ℕ Refusal). cond (prefix_long prefix) (cond (prefix_last prefix) (Err (PrefixEnd (length prefix))) a) (Err (Bounds (length prefix))))
      (lists-told room (sheet-is r prefix))

  pub sheet-records : records_of (sheet t x prefix) ≡ prefixed t prefix
  unfolding prefixed
  sheet-records = lists-records (sheet-is r prefix)
