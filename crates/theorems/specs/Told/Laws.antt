-- What a number says of the answer that goes with it: 0 is an answer, any other a refusal.
--     refused-above, not-zero            a refusal's number is above 0
--     count-zero                         the answer that goes with 0
--     count-above, get-above, seek-above, page-above     a refusal for any other number
--     seek_found, seek-end, page-more, page-end          the answer that goes with a number and figure
use Rattle.std.specs.Prelude.{◌≡◌, refl, ℕ, ◌<◌, Ok, Err, Result, Some, None}
use Rattle.std.proofs.Common.{sym, ap, arith}
use Rattle.refusal.specs.declared.Refusal.{Refusal}
use Rattle.refusal.specs.declared.Refusal.TheVariants.{TrayFrame, KeyOrder, RecordKind, IndexFrame, Segment, SegmentSize, Room, Bounds, PrefixEnd, Lost, Cursor, RunLength}
use Rattle.refusal.specs.declared.Verdict.{Verdict}
use Rattle.refusal.specs.Table.{told, verdict_of}
use Rattle.tray.specs.declared.RunNo.{RunNo}
use Rattle.tray.specs.declared.Place.{Place}
use Rattle.walk.specs.declared.cursor.Cursor.{Cursor as Spotted}
use Rattle.answers.specs.declared.Stand.{Stand}
use Rattle.answers.specs.declared.Stand.TheVariants.{Found, End}
use Rattle.answers.specs.declared.Rest.{Rest}
use Rattle.answers.specs.declared.Rest.TheVariants.{More, End as RestEnd}
use Rattle.answers.specs.Get.{Value}
use Rattle.theorems.specs.Told.{count_told, get_told, seek_told, page_told}

-- a refusal's number is above 0
pub refused-above : (r : Refusal) → 0 < (verdict_of r).number
refused-above TrayFrame = omega arith
refused-above (KeyOrder n) = omega arith
refused-above (RecordKind n) = omega arith
refused-above IndexFrame = omega arith
refused-above (Segment n) = omega arith
refused-above (SegmentSize n) = omega arith
refused-above (Room n) = omega arith
refused-above (Bounds n) = omega arith
refused-above (PrefixEnd n) = omega arith
refused-above (Lost g s) = omega arith
refused-above (Cursor n) = omega arith
refused-above (RunLength n) = omega arith

-- so a refusal is not told by 0,
pub not-zero : {Q : Type 0} {f : ℕ} (r : Refusal) → told 0 f ≡ verdict_of r → Q
not-zero {f = f} r e =
    let l = refused-above r in
    let z : 0 ≡ (verdict_of r).number = ap (λ (v : Verdict). v.number) e in
    absurd (omega arith)

-- and an answer by nothing else
not-above : {Q : Type 0} {n f m : ℕ} → 0 < n → told n f ≡ told 0 m → Q
not-above {n = n} l e = let z : n ≡ 0 = ap (λ (v : Verdict). v.number) e in absurd (omega arith)

figure-is : {n f m g : ℕ} → told n f ≡ told m g → f ≡ g
figure-is e = ap (λ (v : Verdict). v.figure) e

pub count-zero : (a : Result ℕ Refusal) {n : ℕ} → told 0 n ≡ count_told a → a ≡ Ok n
unfolding count_told
count-zero (Ok m) e = ap Ok (sym (figure-is e))
count-zero (Err r) e = not-zero r e

pub count-above : (a : Result ℕ Refusal) {n f : ℕ} → told n f ≡ count_told a → 0 < n → (r : Refusal) × (a ≡ Err r)
unfolding count_told
count-above (Ok m) e l = not-above l e
count-above (Err r) e l = (r, refl)

pub get-above : (a : Value) {n f : ℕ} → told n f ≡ get_told a → 0 < n → (r : Refusal) × (a ≡ Err r)
unfolding get_told
get-above (Ok (Some v)) e l = not-above l e
get-above (Ok None) e l = not-above l e
get-above (Err r) e l = (r, refl)

-- 1 is a record, and 0 is none
pub seek_found : (a : Result Stand Refusal) → told 0 1 ≡ seek_told a → (run : RunNo) × (place : Place) × (c : Spotted) × (a ≡ Ok (Found run place c))
unfolding seek_told
seek_found (Ok (Found run place c)) e = (run, place, c, refl)
seek_found (Ok (End c)) e = let z : ◌≡◌ {A = ℕ} 1 0 = figure-is e in absurd (omega arith)
seek_found (Err r) e = not-zero r e

pub seek-end : (a : Result Stand Refusal) → told 0 0 ≡ seek_told a → (c : Spotted) × (a ≡ Ok (End c))
unfolding seek_told
seek-end (Ok (Found run place c)) e = let z : ◌≡◌ {A = ℕ} 0 1 = figure-is e in absurd (omega arith)
seek-end (Ok (End c)) e = (c, refl)
seek-end (Err r) e = not-zero r e

pub seek-above : (a : Result Stand Refusal) {n f : ℕ} → told n f ≡ seek_told a → 0 < n → (r : Refusal) × (a ≡ Err r)
unfolding seek_told
seek-above (Ok (Found run place c)) e l = not-above l e
seek-above (Ok (End c)) e l = not-above l e
seek-above (Err r) e l = (r, refl)

pub page-more : (a : Result Rest Refusal) → told 0 1 ≡ page_told a → (c : Spotted) × (a ≡ Ok (More c))
unfolding page_told
page-more (Ok (More c)) e = (c, refl)
page-more (Ok (RestEnd c)) e = let z : ◌≡◌ {A = ℕ} 1 0 = figure-is e in absurd (omega arith)
page-more (Err r) e = not-zero r e

pub page-end : (a : Result Rest Refusal) → told 0 0 ≡ page_told a → (c : Spotted) × (a ≡ Ok (RestEnd c))
unfolding page_told
page-end (Ok (More c)) e = let z : ◌≡◌ {A = ℕ} 0 1 = figure-is e in absurd (omega arith)
page-end (Ok (RestEnd c)) e = (c, refl)
page-end (Err r) e = not-zero r e

pub page-above : (a : Result Rest Refusal) {n f : ℕ} → told n f ≡ page_told a → 0 < n → (r : Refusal) × (a ≡ Err r)
unfolding page_told
page-above (Ok (More c)) e l = not-above l e
page-above (Ok (RestEnd c)) e l = not-above l e
page-above (Err r) e l = (r, refl)
