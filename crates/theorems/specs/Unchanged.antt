-- Folding changes nothing that is read (demand 3): for a sound tray t, a chain of calls of fold of which none is refused, and what it makes, u,
-- any accepted index x of t and any accepted index y of u give the same keys and values.
--     get-unchanged          get answers the same, for every key
--     seek-unchanged         seek finds the same key and value, or the end, for every key
--     listed-unchanged       from any key on the same records are visible, in the same order
--     pages-unchanged        pages from any key on, put together, are the same bytes, whatever room each has
--     sheet-unchanged, sheet-leaves-unchanged     sheet answers the same and leaves the same output, for every prefix and output
use Rattle.refusal.specs.declared.Refusal.{Refusal}
use Rattle.std.specs.Prelude.{◌≡◌, ℕ, length, Ok, Err, Result}
use Rattle.std.proofs.Math.Path.{refl, sym, ap}
use Rattle.std.proofs.Common.{◌∙◌}
use mathlib.Core.List.{List, map}
use Rattle.std.proofs.Math.Dec.{leb}
use Rattle.number.specs.Big.{be, put, Bytes}
use Rattle.theory.specs.Records.{Record}
use Rattle.theory.specs.Rising.{keep}
use Rattle.tray.specs.Check.{Sound}
use Rattle.index.specs.Check.{check_index_answer}
use Rattle.walk.specs.Walk.Spots.{Reading, check-reading}
use Rattle.walk.specs.Reads.Shown.{point_of}
use Rattle.walk.specs.Reads.Seek.{from, lookup, points}
use Rattle.walk.specs.Reads.{low_key, high_key}
use Rattle.walk.specs.Reads.Page.{listing}
use Rattle.walk.specs.Reads.Sheet.{within}
use Rattle.answers.specs.Seek.{seek_answer}
use Rattle.answers.specs.Get.{got_told, get_answer}
use Rattle.answers.specs.Sheet.{sheet_answer, sheet_leaves}
use Rattle.fold_spec.specs.Fold.{Calls}
use Rattle.fold_spec.proofs.Fold.Chains.{calls-visible}
use Rattle.theorems.specs.Read.{point_at, first_point, onward, onward-are, get-answers, seek-answers, prefixed, sheet_of, sheet-answers, sheet-records}
use Rattle.walk.specs.declared.cursor.Cursor.{Cursor}
use Rattle.theorems.specs.Paged.{StandsAt, PageCalls, pages-from}

-- a sound tray t, what a chain of calls of fold makes of it, u, none of them refused, and an accepted index of each
pub record Folded (t x u y : List ℕ) : Type 0 where
  pub sound : Sound t
  pub bytes : Bytes t
  pub folds : Calls t u
  pub before : ℕ
  pub after : ℕ
  pub accepts : check_index_answer t x ≡ Ok before
  pub accepts-after : check_index_answer u y ≡ Ok after

module _ {t x u y : List ℕ} (f : Folded t x u y) where
  read : Reading t x
  read = check-reading t x f.before f.accepts

  reread : Reading u y
  reread = check-reading u y f.after f.accepts-after

  -- the live part of the full merge is the same
  same_points : points u ≡ points t
  same_points = calls-visible f.sound f.bytes f.folds

  same-onward : (key : ℕ) → onward u key ≡ onward t key
  unfolding onward
  same-onward key = ap (keep (λ (e : Record). leb key e.key)) same_points

  same-prefixed : (prefix : List ℕ) → prefixed u prefix ≡ prefixed t prefix
  unfolding prefixed
  same-prefixed prefix = ap (keep (within (low_key prefix) (high_key prefix))) same_points

  pub get-unchanged : (key : List ℕ) → get_answer u y key ≡ get_answer t x key
  get-unchanged key = get-answers reread key ∙ ap (λ (es : List Record). got_told (lookup (be 8 key 0) es)) same_points ∙ sym (get-answers read key)

  pub seek-unchanged : (key : List ℕ) → point_at u (seek_answer u y key) ≡ point_at t (seek_answer t x key)
  seek-unchanged key = seek-answers reread key ∙ ap first_point (same-onward (be 8 key 0)) ∙ sym (seek-answers read key)

  pub listed-unchanged : (key : ℕ) → map point_of (from u y key) ≡ map point_of (from t x key)
  listed-unchanged key = onward-are reread key ∙ same-onward key ∙ sym (onward-are read key)

  pub pages-unchanged : (key : List ℕ) {outs outs' : ℕ → List ℕ} {i j : ℕ} {c d : Cursor} {first second : List ℕ} → StandsAt (seek_answer t x key) c → PageCalls t x outs i c first
      → StandsAt (seek_answer u y key) d → PageCalls u y outs' j d second → second ≡ first
  pages-unchanged key {c = c} {d = d} a p b q = pages-from reread key d b q ∙ ap listing (same-onward (be 8 key 0)) ∙ sym (pages-from read key c a p)

  pub sheet-unchanged : (prefix : List ℕ) (room : ℕ) → sheet_answer u y prefix room ≡ sheet_answer t x prefix room
  sheet-unchanged prefix room =
      sheet-answers reread prefix room ∙ ap (λ (es : List Record). sheet_of es prefix room) (same-prefixed prefix) ∙ sym (sheet-answers read prefix room)

  pub sheet-leaves-unchanged : (prefix out : List ℕ) → sheet_leaves u y prefix out (sheet_answer u y prefix (length out)) ≡ sheet_leaves t x prefix out (sheet_answer t x prefix (length out))
  unfolding sheet_leaves
  sheet-leaves-unchanged prefix out =
      ap (sheet_leaves u y prefix out) (sheet-unchanged prefix (length out)) ∙ same_left (sheet_answer t x prefix (length out))
    where
      same_left : (a : Result ℕ Refusal) → sheet_leaves u y prefix out a ≡ sheet_leaves t x prefix out a
      same_left (Ok k) = ap (λ (es : List Record). put out 0 (listing es)) (sheet-records reread prefix ∙ same-prefixed prefix ∙ sym (sheet-records read prefix))
      same_left (Err f) = refl
