-- What the code of next needs of its answer.
--     told-found, told-lost, told-end     what next tells of the end of the walk
--     count-inside                        the count of a run
--     inside-run, beyond-run              the loss rule by that count
--     next-on, next-off                   a cursor that belongs, and one that doesn't
use Rattle.std.specs.Prelude.{◌≡◌, ℕ, ◌+◌, ◌*◌, ◌%◌, ◌≤◌, ◌<◌, length, Bool, true, false, List, get_or, Ok, Err, Result}
use Rattle.std.proofs.Common.{sym, ap, ◌∙◌, arith}
use Rattle.refusal.specs.declared.Refusal.{Refusal}
use Rattle.refusal.specs.declared.Refusal.TheVariants.{Lost, Cursor as NotBelonging}
use Rattle.tray.specs.declared.Place.{Place}
use Rattle.tray.specs.Frame.{run_count, count_of}
use Rattle.walk.specs.declared.cursor.Cursor.{Cursor}
use Rattle.answers.specs.declared.Stand.{Stand}
use Rattle.answers.specs.declared.Stand.TheVariants.{Found as FoundAt, End}
use Rattle.walk.specs.Walk.{named, Walked, stayed, ended, lost}
use Rattle.walk.specs.Reads.{Found, found_by, belongs, next}
use Rattle.walk.specs.Code.{placed, numbers, Walking, spot_of}
use Rattle.walk.specs.Code.Moves.{end_at}
use Rattle.walk.specs.Code.Turns.{place_is, count-is, named-yes, named_past}
use Rattle.answers.specs.Code.{cursor-back, end-at}
use Rattle.answers.specs.Seek.{seek_told}
use Rattle.answers.specs.Next.{next_framed}
use Rattle.next.specs.Next.{Going}

-- the count of a run stands inside the tray
pub count-inside : {t x : List ℕ} {h d n : ℕ} → Going t x h d n → (r : ℕ) → r < h → 6 + 2 * r ≤ length t
count-inside w r l = omega (arith, w.header)

module _ {t x : List ℕ} {h d n : ℕ} {counts : List ℕ} (w : Walking t x h d n counts) where
  -- what next tells of the end of the walk
  module _ {whole : Walked ℕ Found} where
    pub told-found : (g s v : ℕ) {i : ℕ} (places : List Place) → v % 64 < h → i ≡ v % 64
        → stayed (found_by v (record { segment = g; selector = s; places = numbers places })) ≡ whole
        → Ok (FoundAt (record { 0 = v % 64 }) (get_or places i (placed 0)) (record { segment = record { 0 = g }; selector = s; places = places })) ≡ seek_told x whole
    unfolding seek_told found_by spot_of
    told-found g s v {i} places below e walked =
        let at : Cursor = record { segment = record { 0 = g }; selector = s; places = places } in
        ap (λ (k : Cursor). Ok (FoundAt (record { 0 = v % 64 }) (get_or places i (placed 0)) k)) (sym (cursor-back at))
        ∙ ap (λ (p : ℕ). seek_told x (stayed (record { run = v % 64; place = p; spot = spot_of at }))) (place_is w v places below e)
        ∙ ap (seek_told x) walked

    pub told-lost : {g s k : ℕ} → k ≡ s → lost g s 0 ≡ whole → Err (Lost g k) ≡ seek_told x whole
    unfolding seek_told
    told-lost {g} e walked = ap (λ (i : ℕ). Err (Lost g i)) e ∙ ap (seek_told x) walked

    pub told-end : ended 0 ≡ whole → Ok (End (end_at n)) ≡ seek_told x whole
    unfolding seek_told
    told-end walked = ap (λ (c : Cursor). Ok (End c)) (end-at x w.index.count) ∙ ap (seek_told x) walked

  -- the loss rule by a count that was read in the tray
  module _ (v : ℕ) {i count : ℕ} (places : List Place) (below : v % 64 < h) (e : i ≡ v % 64) (told : count ≡ count_of t (v % 64)) where
    pub inside-run : (get_or places i (placed 0)).0 < count → named t (numbers places) v ≡ true
    inside-run l = let same = count-is w v places below e in named-yes w v places below e (omega arith)

    pub beyond-run : count ≤ (get_or places i (placed 0)).0 → named t (numbers places) v ≡ false
    beyond-run l = let same = count-is w v places below e in named_past w v places below e (omega arith)

  module _ (c : Cursor) {b : Bool} (told : b ≡ belongs h x (spot_of c)) where
    there : belongs (run_count t) x (spot_of c) ≡ b
    there = ap (λ (k : ℕ). belongs k x (spot_of c)) (sym w.runs) ∙ sym told

    -- what next tells of the walk from a cursor that belongs is its answer
    pub next-on : {r : Result Stand Refusal} → b ≡ true → r ≡ seek_told x (next t x (spot_of c)) → r ≡ next_framed t x c
    unfolding next_framed
    next-on y e = e ∙ sym (rw (there ∙ y))

    -- a cursor that doesn't belong
    pub next-off : b ≡ false → Err (NotBelonging c.segment.0) ≡ next_framed t x c
    unfolding next_framed
    next-off f = sym (rw (there ∙ f))
