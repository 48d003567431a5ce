-- Reading through an accepted index, as its callers see it (demand 2). The points of a tray are the live records of its full merge: each key once, in
-- its newest version, in key order.
--     Accepted, reading            check index accepts
--     Looked, get-looks            get
--     Sights, seek-sees            seek
--     Steps, steps-are             seek, and then next until it says the end
--     Paged, pages-are             seek, and then page until it says the end
--     Onward, pages-onward         page from any cursor that belongs
--     next-never-lost, page-never-lost     no cursor that belongs is refused
--     sheet-lists                  sheet
use Rattle.refusal.specs.declared.Refusal.{Refusal}
use Rattle.std.proofs.Math.Path.{◌≡◌, refl, sym, ap, ap₂, subst}
use Rattle.std.proofs.Common.{◌∙◌, ⊎_elim, arith, div-add-mod', length-drop, Result, Ok, Err}
use Rattle.std.specs.Prelude.{ℕ, zero, suc, ◌-◌, ◌*◌, ◌≤◌, ◌<◌, true, get_or, take, eqb, leb}
use mathlib.Core.List.Memᴰ
use mathlib.Core.List.{List, [], ◌∷◌, ◌++◌, map, append_assoc, map-append}
use Rattle.std.proofs.Math.ListN.{length}
use borrow.Author.Tests.{eqb-true, eqb-false, ne_eqb, leb-true, leb-false, le-leb}
use Rattle.number.specs.Big.{be, bytes_of, put}
use Rattle.refusal.specs.declared.Verdict.{Verdict}
use Rattle.refusal.specs.Table.{told}
use Rattle.theory.specs.Lists.{here}
use Rattle.theory.specs.Records.{Record}
use Rattle.theory.specs.Rising.{Mem, keep}
use Rattle.theory.proofs.Rising.Kept.{keep-mem}
use Rattle.theory.specs.Tests.{split, never}
use Rattle.tray.specs.Frame.{run_count, run_bytes}
use Rattle.tray.specs.Run.{record_at}
use Rattle.index.specs.Check.{check_index_answer}
use Rattle.walk.specs.declared.cursor.Cursor.{Cursor}
use Rattle.tray.specs.declared.Place.{Place}
use Rattle.walk.specs.Code.{numbers, spot_of}
use Rattle.theorems.specs.Cursors.{spot_in, cursor_in, cursor_numbers}
use Rattle.answers.specs.declared.Stand.{Stand}
use Rattle.answers.specs.declared.Stand.TheVariants.{Found, End}
use Rattle.walk.specs.Walk.Spots.{Reading, check-reading, Stop, spots}
use Rattle.walk.specs.Walk.Tours.{first_of, each_at}
use Rattle.walk.specs.Reads.{Got, value, absent, Found as Sighted, next, Written, page, belongs}
use Rattle.walk.specs.Reads.Kept.{keep_append}
use Rattle.walk.specs.Reads.Shown.{found_at, point_of, is_shown, shown, shown-merged}
use Rattle.walk.specs.Reads.Next.{next-is, next-spots, next-gap, next-end}
use Rattle.walk.specs.Reads.From.{from_on}
use Rattle.walk.specs.Reads.Belongs.{stop-belongs, belongs-standing}
use Rattle.walk.specs.Reads.Standing.{Standing, at-stop, at_gap, at-end as standing-end, standing_on}
use Rattle.walk.specs.Reads.Page.{listing}
use Rattle.walk.proofs.ReadsLaws.Page.{page-is}
use Rattle.walk.proofs.ReadsLaws.Pages.{paged-lost, pages-are as paged-are}
use Rattle.walk.specs.Walk.{Spot, Walked, ended, lost}
use Rattle.walk.specs.Reads.Seek.{lookup, points, is_from, from, seek_is, shown-shows}
use Rattle.answers.specs.Quick.{cursor_of}
use Rattle.answers.specs.Get.{Value, got_told, get_answer}
use Rattle.answers.specs.Seek.{seek_told as seek_by, seek_framed, seek_answer}
use Rattle.answers.specs.Seek.Hands.{spot_back}
use Rattle.answers.specs.Next.{next_framed, next_answer}
use Rattle.answers.specs.declared.Rest.{Rest}
use Rattle.answers.specs.declared.Rest.TheVariants.{More}
use Rattle.answers.specs.Page.{page_answer}
use Rattle.answers.specs.Sheet.{prefix_long, prefix_last, listed_in, sheet_answer, sheet_leaves}
use Rattle.theorems.specs.Paged.{StandsAt, PageCalls, last-page, page-then, calls-pages, pages-from}
use Rattle.theorems.specs.Read.{onward, get-answers, fits-frames, onward-are, prefixed, sheet_of, sheet-answers, sheet-records}
use Rattle.theorems.specs.Told.{get_told, seek_told, count_told}
use Rattle.theorems.specs.Exactly.Quick.{NextSays, next-1, next-4, next-11, next-10, next-found, next-end as next-end-0, PageSays, page-1, page-4, page-11, page-10, page-more as page-more-1, page-end as page-end-0}
use Rattle.theorems.proofs.Exactly.Quick.{next-exactly, page-exactly}
use Rattle.theorems.specs.Told.Laws.{not-zero, count-zero, page-more, page-end}
use Rattle.kanyorith.specs.Promises.{CheckIndex, value_left, Get, run_left, place_left, cursor_left, Sought, Seek, Next, page_cursor_left, Page, Sheet}

-- check index accepts the index for the tray
pub record Accepted (tray index : List ℕ) : Type 0 where
  pub segments : ℕ
  pub says : CheckIndex tray index 0 segments

pub reading : {t x : List ℕ} → Accepted t x → Reading t x
reading {t} {x} a = check-reading t x a.segments (count-zero (check_index_answer t x) a.says.answers)

-- what get answers and leaves in the value: the value of the point with this key, or absent where there is none
pub data Looked (t key was : List ℕ) : ℕ → ℕ → List ℕ → Type 0 where
  is-there : (e : Record) → Mem e (points t) → e.key ≡ be 8 key 0 → Looked t key was 0 1 (bytes_of 16 e.value)
  is-absent : ((e : Record) → Mem e (points t) → e.key ≡ be 8 key 0 → ⊥) → Looked t key was 0 0 was

-- looking a key up in a list
data InList (es : List Record) (key : ℕ) : Got → Type 0 where
  in_list : (e : Record) → Mem e es → e.key ≡ key → InList es key (value e.value)
  not_in : ((e : Record) → Mem e es → e.key ≡ key → ⊥) → InList es key absent

looking : (es : List Record) (key : ℕ) → InList es key (lookup key es)
unfolding lookup
looking [] key = not_in (λ e m z. Memᴰ.not-nil m)
looking (e ∷ es) key = split (InList (e ∷ es) key) (eqb e.key key) (λ y. in_list e here (eqb-true _ _ y)) (λ n. further (eqb-false _ _ n) (looking es key))
  where
    further : {g : Got} → (e.key ≡ key → ⊥) → InList es key g → InList (e ∷ es) key g
    further n (in_list d m z) = in_list d (Memᴰ.tail m) z
    further n (not_in off) = not_in (λ d m z. ⊎_elim (λ q. n (ap (λ (r : Record). r.key) (sym q) ∙ z)) (λ w. off d w z) (Memᴰ.cases_cons m))

got-looked : (t key was : List ℕ) {g : Got} → InList (points t) (be 8 key 0) g
    → Looked t key was (get_told (got_told g)).number (get_told (got_told g)).figure (value_left (got_told g) was)
unfolding get_told got_told value_left
got-looked t key was (in_list e m z) = is-there e m z
got-looked t key was (not_in off) = is-absent off

pub get-looks : {t x key was value : List ℕ} {n f : ℕ} → Accepted t x → Get t x key was n f value → Looked t key was n f value
get-looks {t} {x} {key} {was} {value} {n} {f} a g =
    by (sym g.answers) (sym g.leaving)
  where
    all : Looked t key was (get_told (get_answer t x key)).number (get_told (get_answer t x key)).figure
        (value_left (get_answer t x key) was)
    all =
        subst (λ (s : Value). Looked t key was (get_told s).number (get_told s).figure (value_left s was))
        (sym (get-answers (reading a) key)) (got-looked t key was (looking (points t) (be 8 key 0)))

    by : get_told (get_answer t x key) ≡ told n f → value_left (get_answer t x key) was ≡ value → Looked t key was n f value
    by p q = subst (λ (v : List ℕ). Looked t key was n f v) q (subst (λ (w : Verdict). Looked t key was w.number w.figure (value_left (get_answer t x key) was)) p all)

-- a cursor goes through its numbers unchanged
places-back : (ps : List Place) → map (λ (n : ℕ). record { 0 = n }) (numbers ps) ≡ ps
unfolding numbers
places-back [] = refl
places-back (p ∷ ps) = ap (λ (l : List Place). p ∷ l) (places-back ps)

pub cursor-back : (c : Cursor) → cursor_in (cursor_numbers c) ≡ c
unfolding cursor_in cursor_numbers cursor_of spot_in
cursor-back c =
    ap₂ (λ (g : ℕ) (ps : List Place). record { segment = record { 0 = g }; selector = c.selector; places = ps }) (div-add-mod' c.segment.0 65536)
    (places-back c.places)

-- what seek answers and leaves in run and place: the first point at or above the key, or the end where there is none
pub data Sights (t : List ℕ) (key : ℕ) : ℕ → ℕ → ℕ → ℕ → Type 0 where
  at-record : {run place : ℕ} (e : Record) (es : List Record) → onward t key ≡ e ∷ es → record_at (run_bytes t run) place ≡ e → Sights t key 0 1 run place
  at-end : {run place : ℕ} → onward t key ≡ [] → Sights t key 0 0 run place

module _ {t x : List ℕ} (r : Reading t x) where
  -- seek's answer, by the visible stops from the key on
  sought-from : (key : List ℕ) → seek_answer t x key ≡ seek_by x (first_of found_at (from t x (be 8 key 0)) 0)
  unfolding seek_answer seek_framed
  sought-from key = fits-frames r Err (seek_framed t x (be 8 key 0)) ∙ ap (seek_by x) (seek_is r (be 8 key 0))

  sees : (key : ℕ) (ps : List Stop) → from t x key ≡ ps → {run place n f run' place' : ℕ} {cursor cursor' : List ℕ}
      → Sought (seek_by x (first_of found_at ps 0)) run place cursor n f run' place' cursor' → Sights t key n f run' place'
  unfolding seek_by first_of found_at seek_told run_left place_left
  sees key [] e {run' = run'} {place'} s =
      subst (λ (v : Verdict). Sights t key v.number v.figure run' place') (sym s.answers) (at-end (sym (onward-are r key) ∙ ap (map point_of) e))
  sees key (p ∷ ps) e {run' = run'} {place'} s =
      subst (λ (v : Verdict). Sights t key v.number v.figure run' place') (sym s.answers)
      (at-record (point_of p) (map point_of ps) (sym (onward-are r key) ∙ ap (map point_of) e)
      (ap₂ (λ (i j : ℕ). record_at (run_bytes t i) j) s.run-left s.place-left
      ∙ (shown-shows r p (keep-mem (is_from key) (shown t x) (subst (Mem p) (sym e) here)).0).reads))

pub seek-sees : {t x key cursor cursor' : List ℕ} {run place n f run' place' : ℕ} → Accepted t x → Seek t x key cursor run place n f run' place' cursor'
    → Sights t (be 8 key 0) n f run' place'
seek-sees {t} {x} {key} {cursor} {cursor'} {run} {place} {n} {f} {run'} {place'} a s =
    sees (reading a) (be 8 key 0) (from t x (be 8 key 0)) refl
    (subst (λ (w : Result Stand Refusal). Sought w run place cursor n f run' place' cursor') (sought-from (reading a) key) s.sought)

-- two that see the same points see the same
pub same-sights : {t u : List ℕ} {key n f r p m g r' p' : ℕ} → onward u key ≡ onward t key → Sights t key n f r p → Sights u key m g r' p'
    → (n ≡ m) × (f ≡ g) × (f ≡ 1 → record_at (run_bytes t r) p ≡ record_at (run_bytes u r') p')
same-sights o (at-record e es is reads) (at-record d ds is' reads') =
    (refl, refl, λ z. reads ∙ head (sym is ∙ sym o ∙ is') ∙ sym reads')
  where
    head : {e d : Record} {es ds : List Record} → e ∷ es ≡ d ∷ ds → e ≡ d
    head z = cc
same-sights o (at-record e es is reads) (at-end none) = let z : e ∷ es ≡ [] = sym is ∙ sym o ∙ none in never (cc)
same-sights o (at-end none) (at-record d ds is' reads') = let z : d ∷ ds ≡ [] = sym is' ∙ o ∙ none in never (cc)
same-sights o (at-end none) (at-end none') = (refl, refl, λ z. never z)

-- calls of next from a cursor on, until one says the end: the records that they found
pub data Steps (t x : List ℕ) : List ℕ → List Record → Type 0 where
  no_more : {c c' : List ℕ} {run place run' place' : ℕ} → Next t x c run place 0 0 run' place' c' → Steps t x c []
  one_more : {c c' : List ℕ} {run place run' place' : ℕ} {es : List Record} → Next t x c run place 0 1 run' place' c' → Steps t x c' es
      → Steps t x c (record_at (run_bytes t run') place' ∷ es)

module _ {t x : List ℕ} (r : Reading t x) where
  -- a visible stop's cursor belongs
  shown-belongs : (p : Stop) → Mem p (shown t x) → belongs (run_count t) x (spot_of (cursor_of p.spot)) ≡ true
  unfolding shown
  shown-belongs p m = ap (belongs (run_count t) x) (spot_back p.spot) ∙ stop-belongs r p (keep-mem (is_shown t) (spots t x) m).0

  next-belongs : (c : Cursor) → belongs (run_count t) x (spot_of c) ≡ true → next_framed t x c ≡ seek_by x (next t x (spot_of c))
  unfolding next_framed
  next-belongs c b = rw b

  -- next's answer from a visible stop, by the visible stops after it
  next-from : (us : List Stop) (p : Stop) (qs : List Stop) → shown t x ≡ us ++ (p ∷ qs)
      → next_answer t x (cursor_of p.spot) ≡ seek_by x (first_of found_at qs 0)
  unfolding next_answer
  next-from us p qs e =
      fits-frames r Err (next_framed t x (cursor_of p.spot))
      ∙ next-belongs (cursor_of p.spot) (shown-belongs p (subst (Mem p) (sym e) (Memᴰ.append_right us here)))
      ∙ ap (seek_by x) (ap (next t x) (spot_back p.spot) ∙ next-is r us p qs e)

  -- next's call there
  called : (us : List Stop) (p : Stop) (qs : List Stop) → shown t x ≡ us ++ (p ∷ qs) → {c c' : List ℕ} {run place n f run' place' : ℕ}
      → c ≡ cursor_numbers (cursor_of p.spot) → Next t x c run place n f run' place' c'
      → Sought (seek_by x (first_of found_at qs 0)) run place c n f run' place' c'
  called us p qs e {c} {c'} {run} {place} {n} {f} {run'} {place'} is s =
      subst (λ (w : Result Stand Refusal). Sought w run place c n f run' place' c')
      (ap (λ (k : List ℕ). next_answer t x (cursor_in k)) is ∙ ap (next_answer t x) (cursor-back (cursor_of p.spot)) ∙ next-from us p qs e) s.sought

  -- an end where a record stands, or a record where none is left, is not told
  ended-told : (c : Cursor) (qs : List Stop) → told 0 0 ≡ seek_told (seek_by x (first_of found_at qs 0)) → qs ≡ []
  unfolding seek_by first_of found_at seek_told
  ended-told c [] e = refl
  ended-told c (q ∷ qs) e = let z : ◌≡◌ {A = ℕ} 0 1 = ap (λ (v : Verdict). v.figure) e in never z

  found-told : (c : Cursor) → told 0 1 ≡ seek_told (seek_by x (first_of {S = ℕ} found_at [] 0)) → {Q : Type 0} → Q
  unfolding seek_by first_of seek_told
  found-told c e = let z : ◌≡◌ {A = ℕ} 1 0 = ap (λ (v : Verdict). v.figure) e in never (sym z)

  steps-from : (us : List Stop) (p : Stop) (qs : List Stop) → shown t x ≡ us ++ (p ∷ qs) → {c : List ℕ} {es : List Record}
      → c ≡ cursor_numbers (cursor_of p.spot) → Steps t x c es → es ≡ map point_of qs
  unfolding seek_by first_of found_at run_left place_left cursor_left
  steps-from us p qs e is (no_more s) = sym (ap (map point_of) (ended-told (cursor_of p.spot) qs (called us p qs e is s).answers))
  steps-from us p [] e is (one_more s rest) = found-told (cursor_of p.spot) (called us p [] e is s).answers
  steps-from us p (q ∷ qs) e is (one_more s rest) =
      let k = called us p (q ∷ qs) e is s in
      let on : shown t x ≡ (us ++ (p ∷ [])) ++ (q ∷ qs) = e ∙ sym (append_assoc us (p ∷ []) (q ∷ qs)) in
      let m : Mem q (shown t x) = subst (Mem q) (sym on) (Memᴰ.append_right (us ++ (p ∷ [])) here) in
      ap₂ (λ (a : Record) (l : List Record). a ∷ l)
      (ap₂ (λ (i j : ℕ). record_at (run_bytes t i) j) k.run-left k.place-left ∙ (shown-shows r q m).reads)
      (steps-from (us ++ (p ∷ [])) q qs on k.cursor-left rest)

  -- seek's call, and then next's
  steps-by : (key : ℕ) (ps : List Stop) → from t x key ≡ ps → {run place run' place' : ℕ} {cursor cursor' : List ℕ} {es : List Record}
      → Sought (seek_by x (first_of found_at ps 0)) run place cursor 0 1 run' place' cursor' → Steps t x cursor' es
      → record_at (run_bytes t run') place' ∷ es ≡ onward t key
  unfolding seek_by first_of found_at seek_told run_left place_left cursor_left
  steps-by key [] e s steps = let z : ◌≡◌ {A = ℕ} 1 0 = ap (λ (v : Verdict). v.figure) s.answers in never (sym z)
  steps-by key (p ∷ ps) e s steps =
      let on = from_on r key in
      let at : shown t x ≡ on.0 ++ (p ∷ ps) = on.1 ∙ ap (λ (l : List Stop). on.0 ++ l) e in
      let m : Mem p (shown t x) = subst (Mem p) (sym at) (Memᴰ.append_right on.0 here) in
      ap₂ (λ (a : Record) (l : List Record). a ∷ l)
      (ap₂ (λ (i j : ℕ). record_at (run_bytes t i) j) s.run-left s.place-left ∙ (shown-shows r p m).reads)
      (steps-from on.0 p ps at s.cursor-left steps)
      ∙ ap (map point_of) (sym e) ∙ onward-are r key

pub steps-are : {t x key cursor cursor' : List ℕ} {run place run' place' : ℕ} {es : List Record} → Accepted t x
    → Seek t x key cursor run place 0 1 run' place' cursor' → Steps t x cursor' es → record_at (run_bytes t run') place' ∷ es ≡ onward t (be 8 key 0)
steps-are {t} {x} {key} {cursor} {cursor'} {run} {place} {run'} {place'} a s steps =
    steps-by (reading a) (be 8 key 0) (from t x (be 8 key 0)) refl
    (subst (λ (w : Result Stand Refusal). Sought w run place cursor 0 1 run' place' cursor') (sought-from (reading a) key) s.sought) steps

-- calls of page from a cursor on, each into an output of its own, until one says the end: what they wrote, put together
pub data Paged (t x : List ℕ) : List ℕ → List ℕ → Type 0 where
  last_one : {c out c' left : List ℕ} {count : ℕ} → Page t x c out 0 0 count c' left → Paged t x c (take (24 * count) left)
  then-more : {c out c' left bytes : List ℕ} {count : ℕ} → Page t x c out 0 1 count c' left → Paged t x c' bytes
      → Paged t x c (take (24 * count) left ++ bytes)

-- outputs in a row: one, and then others
abbrev before : List ℕ → (ℕ → List ℕ) → ℕ → List ℕ
before out outs zero = out
before out outs (suc i) = outs i

later : {t x : List ℕ} (out : List ℕ) {outs : ℕ → List ℕ} {i : ℕ} {c : Cursor} {bytes : List ℕ} → PageCalls t x outs i c bytes
    → PageCalls t x (before out outs) (suc i) c bytes
later out (last-page e) = last-page e
later out (page-then e calls) = page-then e (later out calls)

-- the cursor of a page that says there is more, and of a seek that is not refused
page-moved : (c : List ℕ) {a : Result Rest Refusal} {k : Cursor} {c' : List ℕ} → a ≡ Ok (More k) → c' ≡ page_cursor_left a c → cursor_in c' ≡ k
unfolding page_cursor_left
page-moved c {k = k} e l = ap cursor_in (l ∙ ap (λ (b : Result Rest Refusal). page_cursor_left b c) e) ∙ cursor-back k

seek-moved : (c : List ℕ) (a : Result Stand Refusal) {f : ℕ} {c' : List ℕ} → told 0 f ≡ seek_told a → c' ≡ cursor_left a c → StandsAt a (cursor_in c')
unfolding cursor_left seek_told StandsAt
seek-moved c (Ok (Found run place k)) t e = sym (ap cursor_in e ∙ cursor-back k)
seek-moved c (Ok (End k)) t e = sym (ap cursor_in e ∙ cursor-back k)
seek-moved c (Err r) t e = not-zero r t

-- they are the calls that the definitions speak of
to-calls : {t x c bytes : List ℕ} → Paged t x c bytes → (outs : ℕ → List ℕ) × PageCalls t x outs 0 (cursor_in c) bytes
to-calls {t} {x} {c} (last_one {out = out} p) =
    let q = p.paging in (
      (λ i. out),
      subst (PageCalls t x (λ i. out) 0 (cursor_in c)) (sym (ap₂ (λ (n : ℕ) (l : List ℕ). take (24 * n) l) q.counts q.leaving))
          (last-page (page-end (page_answer t x (cursor_in c) out).rest q.answers).1),
    )
to-calls {t} {x} {c} (then-more {out = out} {c' = c'} {bytes = bytes} p rest) =
    let q = p.paging in
    let more = page-more (page_answer t x (cursor_in c) out).rest q.answers in
    let on = to-calls rest in (
      before out on.0,
      subst (λ (l : List ℕ). PageCalls t x (before out on.0) 0 (cursor_in c) (l ++ bytes)) (sym (ap₂ (λ (n : ℕ) (l : List ℕ). take (24 * n) l) q.counts q.leaving))
          (page-then more.1 (subst (λ (k : Cursor). PageCalls t x (before out on.0) 1 k bytes) (page-moved c more.1 q.cursor-left) (later out on.1))),
    )

pub pages-are : {t x key cursor cursor' bytes : List ℕ} {run place f run' place' : ℕ} → Accepted t x
    → Seek t x key cursor run place 0 f run' place' cursor' → Paged t x cursor' bytes → bytes ≡ listing (onward t (be 8 key 0))
pages-are {t} {x} {key} {cursor} {cursor'} {bytes} a s pages =
    let calls = to-calls pages in
    pages-from (reading a) key (cursor_in cursor') (seek-moved cursor (seek_answer t x key) s.sought.answers s.sought.cursor-left) calls.1

-- next from any cursor that belongs, and page, are not lost
module _ {t x : List ℕ} (r : Reading t x) where
  first-not-lost : {Q : Type 0} {g s k : ℕ} (ps : List Stop) → first_of found_at ps 0 ≡ lost g s k → Q
  unfolding first_of
  first-not-lost [] e = never (cc)
  first-not-lost (p ∷ ps) e = never (cc)

  ended-not-lost : {Q : Type 0} {g s k : ℕ} → ◌≡◌ {A = Walked ℕ Sighted} (ended 0) (lost g s k) → Q
  ended-not-lost e = never (cc)

  next-stands : {Q : Type 0} {c : Spot} {ps : List Stop} {g s k : ℕ} → Standing t x c ps → next t x c ≡ lost g s k → Q
  next-stands (at-stop us {p} {qs} e) l = first-not-lost (keep (is_shown t) qs) (sym (each_at (next-spots r) us p qs e) ∙ l)
  next-stands (at_gap us {qs} piece a b is e) l = first-not-lost (keep (is_shown t) qs) (sym (next-gap r us piece a b is e) ∙ l)
  next-stands standing-end l = ended-not-lost (sym (next-end t x) ∙ l)

  page-stands : {Q : Type 0} {c : Spot} {ps : List Stop} {g s : ℕ} {w : Written} (out : List ℕ) → Standing t x c ps → page t x c out ≡ lost g s w → Q
  page-stands {ps = ps} out at l = paged-lost (keep (is_shown t) ps) out (sym (page-is r at out) ∙ l)

-- the places of 66 numbers are 63
spot_in_lem : (c : List ℕ) → length c ≡ 66 → (spot_of (cursor_in c) ≡ spot_in c) × (length (spot_in c).places ≡ 63)
unfolding cursor_in spot_in
spot_in_lem c l = (spot_back (spot_in c), (let d = length-drop 3 c in omega arith))

stands-in : {t x : List ℕ} → Reading t x → (c : List ℕ) → length c ≡ 66 → belongs (run_count t) x (spot_of (cursor_in c)) ≡ true
    → (ps : List Stop) × Standing t x (spot_of (cursor_in c)) ps
stands-in {t} {x} r c l b =
    let e = spot_in_lem c l in
    belongs-standing r (spot_of (cursor_in c)) (ap (λ (s : Spot). length s.places) e.0 ∙ e.1) b

pub next-never-lost : {t x c c' : List ℕ} {run place n f run' place' : ℕ} → Accepted t x → length c ≡ 66 → Next t x c run place n f run' place' c' → n ≡ 10 → ⊥
next-never-lost {t} {x} {c} {n = n} {f} a l s = off ((next-exactly t x (cursor_in c) n f).0 s.sought.answers)
  where
    off : {m g : ℕ} → NextSays t x (cursor_in c) m g → m ≡ 10 → ⊥
    off (next-1 w) z = never (cc)
    off (next-4 f w) z = never (cc)
    off (next-11 f w) z = never (cc)
    off (next-10 f b g s k e) z = next-stands (reading a) (stands-in (reading a) c l b).1 e
    off (next-found f b w e) z = never (cc)
    off (next-end-0 f b k e) z = never (cc)

pub page-never-lost : {t x c out c' left : List ℕ} {n f count : ℕ} → Accepted t x → length c ≡ 66 → Page t x c out n f count c' left → n ≡ 10 → ⊥
page-never-lost {t} {x} {c} {out} {n = n} {f} a l p = off ((page-exactly t x (cursor_in c) out n f).0 p.paging.answers)
  where
    off : {m g : ℕ} → PageSays t x (cursor_in c) out m g → m ≡ 10 → ⊥
    off (page-1 w) z = never (cc)
    off (page-4 f w) z = never (cc)
    off (page-11 f w) z = never (cc)
    off (page-10 f b g s w e) z = page-stands (reading a) out (stands-in (reading a) c l b).1 e
    off (page-more-1 f b w e) z = never (cc)
    off (page-end-0 f b w e) z = never (cc)

-- what sheet answers and leaves in the output: the points whose key begins with the prefix, or their bytes where the room is less
pub data Listed (t prefix out : List ℕ) : ℕ → ℕ → List ℕ → Type 0 where
  is-listed : 24 * length (prefixed t prefix) ≤ length out → Listed t prefix out 0 (length (prefixed t prefix)) (put out 0 (listing (prefixed t prefix)))
  no_room : length out < 24 * length (prefixed t prefix) → Listed t prefix out 7 (24 * length (prefixed t prefix)) out

module _ {t x : List ℕ} (r : Reading t x) (prefix out : List ℕ) where
  -- sheet's answer with what it leaves
  abbrev listed_by : Result ℕ Refusal → Type 0
  listed_by a = Listed t prefix out (count_told a).number (count_told a).figure (sheet_leaves t x prefix out a)

  listed_in_lem : listed_by (listed_in (length out) (prefixed t prefix))
  unfolding listed_in count_told sheet_leaves
  listed_in_lem =
      split listed_by (leb (24 * length (prefixed t prefix)) (length out))
      (λ y. subst (λ (es : List Record). Listed t prefix out 0 (length (prefixed t prefix)) (put out 0 (listing es))) (sym (sheet-records r prefix)) (is-listed (leb-true _ _ y)))
      (λ n. no_room (leb-false _ _ n))

  sheet-of : 1 ≤ length prefix → length prefix ≤ 8 → (get_or prefix (length prefix - 1) 0 ≡ 255 → ⊥)
      → sheet_of (prefixed t prefix) prefix (length out) ≡ listed_in (length out) (prefixed t prefix)
  unfolding sheet_of prefix_long prefix_last
  sheet-of some most last = rw (le-leb _ _ some, le-leb _ _ most, ne_eqb _ _ last)

pub sheet-lists : {t x prefix out left : List ℕ} {n f : ℕ} → Accepted t x → 1 ≤ length prefix → length prefix ≤ 8
    → (get_or prefix (length prefix - 1) 0 ≡ 255 → ⊥) → Sheet t x prefix out n f left → Listed t prefix out n f left
sheet-lists {t} {x} {prefix} {out} {left} {n} {f} a some most last s =
    subst (λ (l : List ℕ). Listed t prefix out n f l) (sym s.leaving)
    (subst (λ (v : Verdict). Listed t prefix out v.number v.figure (sheet_leaves t x prefix out (sheet_answer t x prefix (length out)))) (sym s.answers)
    (subst (listed_by (reading a) prefix out) (sym (sheet-answers (reading a) prefix (length out) ∙ sheet-of (reading a) prefix out some most last)) (listed_in_lem (reading a) prefix out)))

-- from any cursor that belongs, pages are the listing of the points from there on: of a last part of them all
pub record Onward (t x c : List ℕ) : Type 0 where
  pub passed : List Record
  pub ahead : List Record
  pub whole : points t ≡ passed ++ ahead
  pub pages : (bytes : List ℕ) → Paged t x c bytes → bytes ≡ listing ahead

pub pages-onward : {t x c : List ℕ} → Accepted t x → length c ≡ 66 → belongs (run_count t) x (spot_of (cursor_in c)) ≡ true → Onward t x c
unfolding shown
pages-onward {t} {x} {c} a l b =
    let r = reading a in
    let st = stands-in r c l b in
    let on = standing_on st.1 in
    record {
      passed = map point_of (keep (is_shown t) on.0);
      ahead = map point_of (keep (is_shown t) st.0);
      whole = sym (shown-merged r) ∙ ap (λ (ps : List Stop). map point_of (keep (is_shown t) ps)) on.1 ∙ ap (map point_of) (keep_append (is_shown t) on.0 st.0) ∙ map-append point_of (keep (is_shown t) on.0) (keep (is_shown t) st.0);
      pages = λ bytes calls. let k = to-calls calls in paged-are r st.1 (calls-pages r k.1);
    }
