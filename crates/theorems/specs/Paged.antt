-- Pages from a key on, as calls: the first from seek's cursor, each next one from the cursor that the one before it handed back, until one says
-- the end. Put together they are the listing of the live records of the full merge from that key on, whatever room each has.
--     PageCalls            such calls, and what they wrote, put together
--     calls-pages          they are pages of the walk
--     StandsAt, seek-standing, seek-stands     where seek's cursor stands, and that it does
--     pages-from           what the calls wrote
use Rattle.std.specs.Prelude.{◌≡◌, refl, Bool, true, false, cond, take, Result, Ok, Err}
use Rattle.std.proofs.Common.{sym, ap, ap₂, ◌∙◌}
use Rattle.std.proofs.Math.Path.{subst}
use Prim.Native.Nat.{ℕ, suc, ◌*◌}
use mathlib.Core.List.{List, [], ◌∷◌, ◌++◌, map}
use Rattle.number.specs.Big.{be}
use Rattle.refusal.specs.declared.Refusal.{Refusal}
use Rattle.refusal.specs.declared.Refusal.TheVariants.{Cursor as NotBelonging}
use Rattle.theory.specs.Rising.{keep}
use Rattle.theory.specs.Tests.{never}
use Rattle.tray.specs.Frame.{run_count}
use Rattle.walk.specs.declared.cursor.Cursor.{Cursor}
use Rattle.walk.specs.Walk.{Spot, Walked, stayed, ended, lost}
use Rattle.walk.specs.Walk.Spots.{Reading, Stop, spots}
use Rattle.walk.specs.Walk.Tours.{first_of}
use Rattle.walk.specs.Reads.{Written, end_spot, belongs, page}
use Rattle.walk.specs.Reads.Kept.{keep-split}
use Rattle.walk.specs.Reads.Shown.{found_at, point_of, is_shown, shown}
use Rattle.walk.specs.Reads.Seek.{from, seek_is}
use Rattle.walk.specs.Reads.From.{from_on}
use Rattle.walk.specs.Reads.Standing.{Standing, at-stop, at-end}
use Rattle.walk.specs.Reads.Page.{listing}
use Rattle.walk.specs.Reads.Pages.{bytes_in, Pages, pages-end, pages-on}
use Rattle.walk.proofs.ReadsLaws.Pages.{pages-are}
use Rattle.walk.specs.Code.{spot_of}
use Rattle.answers.specs.Quick.{cursor_of, in_frames}
use Rattle.answers.specs.Seek.{seek_told, seek_framed, seek_answer}
use Rattle.answers.specs.Seek.Hands.{spot_back}
use Rattle.answers.specs.declared.Stand.{Stand}
use Rattle.answers.specs.declared.Stand.TheVariants.{Found, End as StandEnd}
use Rattle.answers.specs.declared.Paged.{Paged as Answered}
use Rattle.answers.specs.declared.Rest.{Rest}
use Rattle.answers.specs.declared.Rest.TheVariants.{More, End}
use Rattle.answers.specs.Page.{refused_page, page_told, page_left, page_framed, left_framed, page_answer, page_leaves}
use Rattle.theorems.specs.Read.{onward, onward-are, fits-frames}

-- seek's answer, and with it next's, stands at a cursor: a record's, or the end's
unfoldable pub StandsAt : Result Stand Refusal → Cursor → Type 0
StandsAt (Ok (Found run place d)) c = d ≡ c
StandsAt (Ok (StandEnd d)) c = d ≡ c
StandsAt (Err f) c = ⊥

-- calls of page, number i into its own output, from a cursor on: what they have written, put together
pub data PageCalls (t x : List ℕ) (outs : ℕ → List ℕ) : ℕ → Cursor → List ℕ → Type 0 where
  last-page : {i : ℕ} {c d : Cursor} → (page_answer t x c (outs i)).rest ≡ Ok (End d)
      → PageCalls t x outs i c (take (24 * (page_answer t x c (outs i)).count) (page_leaves t x c (outs i)))
  page-then : {i : ℕ} {c d : Cursor} {bytes : List ℕ} → (page_answer t x c (outs i)).rest ≡ Ok (More d)
      → PageCalls t x outs (suc i) d bytes
      → PageCalls t x outs i c (take (24 * (page_answer t x c (outs i)).count) (page_leaves t x c (outs i)) ++ bytes)

-- a call's answer, with what it left, by the walk's end
data Told (w : Walked Written (Written × Spot)) : Answered → List ℕ → Type 0 where
  told_more : {v : Written} {e : Spot} → w ≡ stayed (v, e) → Told w (record { count = v.count; rest = Ok (More (cursor_of e)) }) v.out
  told-end : {v : Written} {c : Cursor} → w ≡ ended v → Told w (record { count = v.count; rest = Ok (End c) }) v.out
  told-off : {f : Refusal} {k : ℕ} {out : List ℕ} → Told w (record { count = k; rest = Err f }) out

told-by : (x : List ℕ) (w : Walked Written (Written × Spot)) → Told w (page_told x w) (page_left w)
unfolding page_told page_left
told-by x (stayed w) = told_more refl
told-by x (ended w) = told-end refl
told-by x (lost g s w) = told-off

told-if : (x : List ℕ) (w : Walked Written (Written × Spot)) (out : List ℕ) (f : Refusal) (b : Bool)
    → Told w (cond b (page_told x w) (refused_page f)) (cond b (page_left w) out)
told-if x w out f true = told-by x w
told-if x w out f false = told-off

-- the answers that are no refusals
more-not-end : {c d : Cursor} → ◌≡◌ {A = Result Rest Refusal} (Ok (More c)) (Ok (End d)) → ◌≡◌ {A = ℕ} 0 1
more-not-end e = cc

end-not-more : {c d : Cursor} → ◌≡◌ {A = Result Rest Refusal} (Ok (End c)) (Ok (More d)) → ◌≡◌ {A = ℕ} 0 1
end-not-more e = cc

off-not-ok : {f : Refusal} {k : Rest} → ◌≡◌ {A = Result Rest Refusal} (Err f) (Ok k) → ◌≡◌ {A = ℕ} 0 1
off-not-ok e = cc

-- the cursor of one that says there is more
cursor-in : Result Rest Refusal → Cursor → Cursor
cursor-in (Ok (More c)) d = c
cursor-in (Ok (End c)) d = d
cursor-in (Err f) d = d

-- a call that says the end,
ends_by : {w : Walked Written (Written × Spot)} {a : Answered} {left : List ℕ} {d : Cursor} → Told w a left → a.rest ≡ Ok (End d)
    → (v : Written) × (w ≡ ended v) × (a.count ≡ v.count) × (left ≡ v.out)
ends_by (told_more {v} h) e = never (more-not-end e)
ends_by (told-end {v} h) e = (v, h, refl, refl)
ends_by told-off e = never (off-not-ok e)

-- and one that does not
stays_by : {w : Walked Written (Written × Spot)} {a : Answered} {left : List ℕ} {d : Cursor} → Told w a left → a.rest ≡ Ok (More d)
    → (v : Written) × (s : Spot) × (w ≡ stayed (v, s)) × (a.count ≡ v.count) × (left ≡ v.out) × (d ≡ cursor_of s)
unfolding cursor-in
stays_by {d = d} (told_more {v} {e = s} h) q = (v, s, h, refl, refl, sym (ap (λ (k : Result Rest Refusal). cursor-in k d) q))
stays_by (told-end {v} h) e = never (end-not-more e)
stays_by told-off e = never (off-not-ok e)

module _ {t x : List ℕ} (r : Reading t x) where
  page-told : (c : Cursor) (out : List ℕ) → Told (page t x (spot_of c) out) (page_answer t x c out) (page_leaves t x c out)
  unfolding page_answer page_leaves page_framed left_framed
  page-told c out =
      subst (λ a. Told (page t x (spot_of c) out) a (in_frames (λ (f : Refusal). out) t x (left_framed t x c out)))
      (sym (fits-frames r refused_page (page_framed t x c out)))
      (subst (λ l. Told (page t x (spot_of c) out) (page_framed t x c out) l) (sym (fits-frames r (λ (f : Refusal). out) (left_framed t x c out)))
      (told-if x (page t x (spot_of c) out) out (NotBelonging c.segment.0) (belongs (run_count t) x (spot_of c))))

  -- the calls are pages of the walk
  pub calls-pages : {outs : ℕ → List ℕ} {i : ℕ} {c : Cursor} {bytes : List ℕ} → PageCalls t x outs i c bytes → Pages t x outs i (spot_of c) bytes
  calls-pages {outs} {i} {c} (last-page e) =
      let w = ends_by (page-told c (outs i)) e in
      subst (Pages t x outs i (spot_of c)) (sym (written w.2 w.3)) (pages-end w.1)
    where
      written : {k : ℕ} {left : List ℕ} {v : Written} → k ≡ v.count → left ≡ v.out → take (24 * k) left ≡ bytes_in v
      written p q = ap₂ (λ (n : ℕ) (l : List ℕ). take (24 * n) l) p q
  calls-pages {outs} {i} {c} (page-then {bytes = bytes} e more) =
      let w = stays_by (page-told c (outs i)) e in
      let on : Pages t x outs (suc i) w.1 bytes =
      subst (λ s. Pages t x outs (suc i) s bytes) (ap spot_of w.5 ∙ spot_back w.1) (calls-pages more) in
      subst (λ l. Pages t x outs i (spot_of c) (l ++ bytes)) (sym (written w.3 w.4)) (pages-on w.2 on)
    where
      written : {k : ℕ} {left : List ℕ} {v : Written} → k ≡ v.count → left ≡ v.out → take (24 * k) left ≡ bytes_in v
      written p q = ap₂ (λ (n : ℕ) (l : List ℕ). take (24 * n) l) p q

  -- where seek's cursor stands
  pub seek-standing : (key : List ℕ) (c : Cursor) → StandsAt (seek_answer t x key) c
      → (ps : List Stop) × Standing t x (spot_of c) ps × (keep (is_shown t) ps ≡ from t x (be 8 key 0))
  unfolding seek_answer seek_framed seek_told first_of found_at shown keep StandsAt
  seek-standing key c stands =
      at (from t x k) refl
      (subst (λ a. StandsAt a c) (fits-frames r Err (seek_framed t x k) ∙ ap (seek_told x) (seek_is r k)) stands)
    where
      k : ℕ
      k = be 8 key 0

      at : (ps : List Stop) → from t x k ≡ ps → StandsAt (seek_told x (first_of found_at ps 0)) c
          → (zs : List Stop) × Standing t x (spot_of c) zs × (keep (is_shown t) zs ≡ from t x k)
      at [] e z = ([], subst (λ s. Standing t x s []) (sym (spot_back (end_spot x)) ∙ ap spot_of z) at-end, sym e)
      at (p ∷ ps) e z =
          let on = from_on r k in
          let w = keep-split (is_shown t) (spots t x) on.0 p ps (on.1 ∙ ap (λ l. on.0 ++ l) e) in
          (p ∷ w.1, subst (λ s. Standing t x s (p ∷ w.1)) (sym (spot_back p.spot) ∙ ap spot_of z) (at-stop w.0 w.2), w.3 ∙ sym e)

  -- seek is not refused, so that there is such a cursor
  pub seek-stands : (key : List ℕ) → (c : Cursor) × StandsAt (seek_answer t x key) c
  unfolding seek_answer seek_framed seek_told first_of found_at StandsAt
  seek-stands key =
      let k = be 8 key 0 in
      subst (λ a. (c : Cursor) × StandsAt a c) (sym (fits-frames r Err (seek_framed t x k) ∙ ap (seek_told x) (seek_is r k))) (at (from t x k))
    where
      at : (ps : List Stop) → (c : Cursor) × StandsAt (seek_told x (first_of found_at ps 0)) c
      at [] = (cursor_of (end_spot x), refl)
      at (p ∷ ps) = (cursor_of p.spot, refl)

  -- what the calls wrote
  pub pages-from : (key : List ℕ) (c : Cursor) {outs : ℕ → List ℕ} {i : ℕ} {bytes : List ℕ} → StandsAt (seek_answer t x key) c → PageCalls t x outs i c bytes
      → bytes ≡ listing (onward t (be 8 key 0))
  pages-from key c stands calls =
      let s = seek-standing key c stands in
      pages-are r s.1 (calls-pages calls) ∙ ap (λ l. listing (map point_of l)) s.2 ∙ ap listing (onward-are r (be 8 key 0))
