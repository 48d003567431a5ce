-- The cursor that seek, next or page hands back belongs to the same tray and index, whatever the index says, unless the call is refused.
--     seek-belongs, next-belongs, page-belongs
use Rattle.std.specs.Prelude.{◌≡◌, ℕ, true, List, length, drop, Result, Ok, Err}
use Rattle.std.proofs.Common.{ap, ◌∙◌, arith, length-drop}
use Rattle.std.proofs.lemmas.List.{length-map}
use Rattle.refusal.specs.declared.Refusal.{Refusal}
use Rattle.refusal.specs.Table.{told}
use Rattle.tray.specs.declared.Place.{Place}
use Rattle.tray.specs.Frame.{run_count}
use Rattle.walk.specs.declared.cursor.Cursor.{Cursor}
use Rattle.answers.specs.declared.Stand.{Stand}
use Rattle.answers.specs.declared.Stand.TheVariants.{Found, End}
use Rattle.answers.specs.declared.Rest.{Rest}
use Rattle.answers.specs.declared.Rest.TheVariants.{More, End as RestEnd}
use Rattle.walk.specs.Reads.{belongs}
use Rattle.walk.specs.Code.{spot_of}
use Rattle.answers.specs.Quick.{cursor_of}
use Rattle.answers.specs.Seek.{seek_answer}
use Rattle.answers.specs.Seek.Hands.{Belonging, Hands, seek-hands}
use Rattle.answers.specs.Next.{next_answer}
use Rattle.answers.specs.Next.Hands.{next-hands}
use Rattle.answers.specs.Page.{page_answer}
use Rattle.answers.specs.Page.Hands.{Hands as PageHands, page-hands}
use Rattle.theorems.specs.Told.{seek_told, page_told}
use Rattle.theorems.specs.Told.Laws.{not-zero}
use Rattle.theorems.specs.Cursors.{spot_in, cursor_in, cursor_numbers}
use Rattle.kanyorith.specs.Promises.{cursor_left, Sought, Seek, Next, page_cursor_left, Page}
use Rattle.kanyorith.specs.Reads.{cursor-back}

-- a cursor that is told by its numbers belongs where it does
told-belongs : (t x : List ℕ) (d : Cursor) {k : List ℕ} → Belonging t x d → k ≡ cursor_numbers d → belongs (run_count t) x (spot_of (cursor_in k)) ≡ true
unfolding Belonging
told-belongs t x d b e = ap (λ (c : Cursor). belongs (run_count t) x (spot_of c)) (ap cursor_in e ∙ cursor-back d) ∙ b

sought-belongs : (t x c : List ℕ) (a : Result Stand Refusal) {run place f r p : ℕ} {k : List ℕ} → Hands t x a → Sought a run place c 0 f r p k
    → belongs (run_count t) x (spot_of (cursor_in k)) ≡ true
unfolding Hands cursor_left seek_told
sought-belongs t x c (Ok (Found run place d)) b s = told-belongs t x d b s.cursor-left
sought-belongs t x c (Ok (End d)) b s = told-belongs t x d b s.cursor-left
sought-belongs t x c (Err f) b s = not-zero f s.answers

paging-belongs : (t x c : List ℕ) (a : Result Rest Refusal) {f : ℕ} {k : List ℕ} → PageHands t x a → told 0 f ≡ page_told a → k ≡ page_cursor_left a c
    → belongs (run_count t) x (spot_of (cursor_in k)) ≡ true
unfolding PageHands page_cursor_left page_told
paging-belongs t x c (Ok (More d)) b e l = told-belongs t x d b l
paging-belongs t x c (Ok (RestEnd d)) b e l = told-belongs t x d b l
paging-belongs t x c (Err f) b e l = not-zero f e

-- the places of 66 numbers
places-63 : (c : List ℕ) → length c ≡ 66 → length (cursor_in c).places ≡ 63
unfolding cursor_in cursor_of spot_in
places-63 c l = let a = length-map {B = Place} (drop 3 c) (λ (p : ℕ). record { 0 = p }) in let b = length-drop 3 c in omega arith

pub seek-belongs : {t x key c k : List ℕ} {run place f r p : ℕ} → Seek t x key c run place 0 f r p k → belongs (run_count t) x (spot_of (cursor_in k)) ≡ true
seek-belongs {t} {x} {key} {c} s = sought-belongs t x c (seek_answer t x key) (seek-hands t x key) s.sought

pub next-belongs : {t x c k : List ℕ} {run place f r p : ℕ} → length c ≡ 66 → Next t x c run place 0 f r p k → belongs (run_count t) x (spot_of (cursor_in k)) ≡ true
next-belongs {t} {x} {c} l s = sought-belongs t x c (next_answer t x (cursor_in c)) (next-hands t x (cursor_in c) (places-63 c l)) s.sought

pub page-belongs : {t x c out k left : List ℕ} {f i : ℕ} → length c ≡ 66 → Page t x c out 0 f i k left → belongs (run_count t) x (spot_of (cursor_in k)) ≡ true
page-belongs {t} {x} {c} {out} l p =
    let a = page_answer t x (cursor_in c) out in
    paging-belongs t x c a.rest (page-hands t x (cursor_in c) out (places-63 c l)) p.paging.answers p.paging.cursor-left
