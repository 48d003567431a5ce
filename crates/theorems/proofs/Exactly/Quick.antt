-- That the tables of `specs/Exactly/Quick.antt` say what the quick calls answer, and nothing else.
--     frames-by, off-1, off-4, on     both frames
--     get-exactly, seek-exactly, next-exactly, page-exactly, sheet-exactly     a table each
use Rattle.std.specs.Prelude.{◌≡◌, refl, ◌↔◌, ◌⊎◌, true, false, List, get_or, eqb, leb, Err, Result}
use Rattle.std.proofs.Math.Path.{sym, ap}
use Rattle.std.proofs.Common.{◌∙◌, arith}
use Rattle.std.proofs.Math.Logic.{inl, inr}
use Prim.Native.Nat.{ℕ, ◌-◌, ◌*◌, ◌≤◌, ◌<◌}
use Rattle.std.proofs.Math.ListN.{length}
use borrow.Author.Tests.{eqb-true, eqb-false, eq-eqb, ne_eqb, leb-true, leb-false, le-leb, lt-leb}
use Rattle.number.specs.Big.{be}
use Rattle.refusal.specs.declared.Refusal.{Refusal}
use Rattle.refusal.specs.declared.Refusal.TheVariants.{TrayFrame, IndexFrame, Bounds, PrefixEnd, Cursor as NotBelonging}
use Rattle.refusal.specs.declared.Verdict.{Verdict}
use Rattle.refusal.specs.Table.{told}
use Rattle.theory.specs.Records.{Record}
use Rattle.theory.specs.Tests.{split, cases, clash, and-true, and_left, and_right}
use Rattle.tray.specs.Frame.{run_count, run_bytes, framed, Framed}
use Rattle.tray.specs.Frame.Laws.{framed-fits, fits-framed}
use Rattle.tray.specs.Run.{record_at}
use Rattle.index.specs.Layout.{index_framed, IndexFramed}
use Rattle.index.specs.Layout.Laws.{index-fits, fits-index}
use Rattle.walk.specs.declared.cursor.Cursor.{Cursor}
use Rattle.answers.specs.declared.Stand.{Stand}
use Rattle.walk.specs.Walk.{Spot, Walked, stayed, ended, lost}
use Rattle.walk.specs.Reads.{Found, seek, Got, got_from, get, next, Written, page, sheet, belongs}
use Rattle.walk.specs.Code.{spot_of}
use Rattle.answers.specs.Quick.{in_frames}
use Rattle.answers.specs.Seek.{seek_told as seek_by, seek_framed, seek_answer}
use Rattle.answers.specs.Get.{Value, got_told, get_framed, get_answer}
use Rattle.answers.specs.Next.{next_framed, next_answer}
use Rattle.answers.specs.declared.Paged.{Paged}
use Rattle.answers.specs.Page.{refused_page, page_told as page_by, page_framed, page_answer}
use Rattle.answers.specs.Sheet.{prefix_long, prefix_last, listed_in, sheet_told as sheet_by, sheet_framed, sheet_answer}
use Rattle.theorems.specs.Told.{get_told, seek_told, page_told, count_told}
use Rattle.theorems.specs.Exactly.{exactly-by}
use Rattle.theorems.specs.Exactly.Quick.{Fits, SeekSays, GetSays, NextSays, PageSays, Prefix, Lists, SheetSays, seek-1, seek-4, seek-10, seek_found, seek-end, get-1, get-4, get-10, get-found, get_other, get-end, next-1, next-4, next-11, next-10, next-found, next-end, page-1, page-4, page-11, page-10, page-more, page-end, sheet-1, sheet-4, sheet-8, sheet-9, sheet-10, sheet-7, sheet-0, to-bound, to_end}

module _ (t x : List ℕ) where
  -- what holds of 1, of 4, and where both frames fit, holds of the answer
  frames-by : {A : Type 0} (P : A → Type 0) (refused : Refusal → A) (fits : A) → ((Framed t → ⊥) → P (refused TrayFrame))
      → (Framed t → (IndexFramed (run_count t) x → ⊥) → P (refused IndexFrame)) → (Fits t x → P fits) → P (in_frames refused t x fits)
  unfolding in_frames
  frames-by P refused fits one four on =
      split P (framed t)
      (λ f. split P (index_framed (run_count t) x)
      (λ y. on (record { tray = framed-fits t f; index = index-fits (run_count t) x y }))
      (λ n. four (framed-fits t f) (λ i. clash (fits-index (run_count t) x i) n)))
      (λ n. one (λ f. clash (fits-framed t f) n))

  off-1 : {A : Type 0} (refused : Refusal → A) (fits : A) → (Framed t → ⊥) → in_frames refused t x fits ≡ refused TrayFrame
  unfolding in_frames
  off-1 refused fits w = cases (framed t) (λ y. absurd (w (framed-fits t y))) (λ n. rw n)

  off-4 : {A : Type 0} (refused : Refusal → A) (fits : A) → Framed t → (IndexFramed (run_count t) x → ⊥) → in_frames refused t x fits ≡ refused IndexFrame
  unfolding in_frames
  off-4 refused fits f w = rw (fits-framed t f) (cases (index_framed (run_count t) x) (λ y. absurd (w (index-fits (run_count t) x y))) (λ n. rw n))

  on : {A : Type 0} (refused : Refusal → A) (fits : A) → Fits t x → in_frames refused t x fits ≡ fits
  unfolding in_frames
  on refused fits f = rw (fits-framed t f.tray, fits-index (run_count t) x f.index)

  module _ (key : List ℕ) where
    abbrev sought : ℕ
    sought = be 8 key 0

    seek-walked : Fits t x → (w : Walked ℕ Found) → seek t x sought ≡ w → SeekSays t x key (seek_told (seek_by x w)).number (seek_told (seek_by x w)).figure
    unfolding seek_told seek_by
    seek-walked f (stayed r) e = seek_found f r e
    seek-walked f (ended k) e = seek-end f k e
    seek-walked f (lost g s k) e = seek-10 f g s k e

    seek-gives : SeekSays t x key (seek_told (seek_answer t x key)).number (seek_told (seek_answer t x key)).figure
    unfolding seek_answer seek_framed seek_told
    seek-gives =
        frames-by (λ (s : Result Stand Refusal). SeekSays t x key (seek_told s).number (seek_told s).figure) Err (seek_framed t x sought)
        (λ w. seek-1 w) (λ f w. seek-4 f w) (λ f. seek-walked f (seek t x sought) refl)

    seek-on : Fits t x → (w : Walked ℕ Found) → seek t x sought ≡ w → seek_told (seek_by x w) ≡ seek_told (seek_answer t x key)
    unfolding seek_answer seek_framed
    seek-on f w e =
        sym (ap (λ (s : Result Stand Refusal). seek_told s) (on Err (seek_framed t x sought) f) ∙ ap (λ (v : Walked ℕ Found). seek_told (seek_by x v)) e)

    seek-alone : (n f : ℕ) → SeekSays t x key n f → told n f ≡ seek_told (seek_answer t x key)
    unfolding seek_told seek_by seek_answer
    seek-alone _ _ (seek-1 w) = sym (ap (λ (s : Result Stand Refusal). seek_told s) (off-1 Err (seek_framed t x sought) w))
    seek-alone _ _ (seek-4 f w) = sym (ap (λ (s : Result Stand Refusal). seek_told s) (off-4 Err (seek_framed t x sought) f w))
    seek-alone _ _ (seek-10 f g s k e) = seek-on f (lost g s k) e
    seek-alone _ _ (seek_found f r e) = seek-on f (stayed r) e
    seek-alone _ _ (seek-end f k e) = seek-on f (ended k) e

    pub seek-exactly : (n f : ℕ) → (told n f ≡ seek_told (seek_answer t x key)) ↔ SeekSays t x key n f
    seek-exactly = exactly-by (SeekSays t x key) (seek_told (seek_answer t x key)) seek-gives seek-alone

    abbrev got_by : Walked ℕ Found → Verdict
    got_by w = get_told (got_told (got_from t sought w))

    get-walked : Fits t x → (w : Walked ℕ Found) → seek t x sought ≡ w → GetSays t x key (got_by w).number (got_by w).figure
    unfolding get_told got_told got_from
    get-walked f (stayed r) e =
        split (λ (g : Got). GetSays t x key (get_told (got_told g)).number (get_told (got_told g)).figure)
        (eqb (record_at (run_bytes t r.run) r.place).key sought)
        (λ y. get-found f r e (eqb-true _ _ y))
        (λ n. get_other f r e (eqb-false _ _ n))
    get-walked f (ended k) e = get-end f k e
    get-walked f (lost g s k) e = get-10 f g s k e

    get-gives : GetSays t x key (get_told (get_answer t x key)).number (get_told (get_answer t x key)).figure
    unfolding get_answer get_framed get_told get
    get-gives =
        frames-by (λ (s : Value). GetSays t x key (get_told s).number (get_told s).figure) Err (get_framed t x sought)
        (λ w. get-1 w) (λ f w. get-4 f w) (λ f. get-walked f (seek t x sought) refl)

    get-on : Fits t x → (w : Walked ℕ Found) → seek t x sought ≡ w → got_by w ≡ get_told (get_answer t x key)
    unfolding get_answer get_framed get
    get-on f w e = sym (ap (λ (s : Value). get_told s) (on Err (get_framed t x sought) f) ∙ ap got_by e)

    -- a record found, by its key
    stays_by : (r : Found) → (record_at (run_bytes t r.run) r.place).key ≡ sought → got_by (stayed r) ≡ told 0 1
    unfolding get_told got_told got_from
    stays_by r z = rw (eq-eqb _ _ z)

    stays-off : (r : Found) → ((record_at (run_bytes t r.run) r.place).key ≡ sought → ⊥) → got_by (stayed r) ≡ told 0 0
    unfolding get_told got_told got_from
    stays-off r z = rw (ne_eqb _ _ z)

    get-alone : (n f : ℕ) → GetSays t x key n f → told n f ≡ get_told (get_answer t x key)
    unfolding get_told got_told got_from get_answer
    get-alone _ _ (get-1 w) = sym (ap (λ (s : Value). get_told s) (off-1 Err (get_framed t x sought) w))
    get-alone _ _ (get-4 f w) = sym (ap (λ (s : Value). get_told s) (off-4 Err (get_framed t x sought) f w))
    get-alone _ _ (get-10 f g s k e) = get-on f (lost g s k) e
    get-alone _ _ (get-found f r e z) = sym (stays_by r z) ∙ get-on f (stayed r) e
    get-alone _ _ (get_other f r e z) = sym (stays-off r z) ∙ get-on f (stayed r) e
    get-alone _ _ (get-end f k e) = get-on f (ended k) e

    pub get-exactly : (n f : ℕ) → (told n f ≡ get_told (get_answer t x key)) ↔ GetSays t x key n f
    get-exactly = exactly-by (GetSays t x key) (get_told (get_answer t x key)) get-gives get-alone

  module _ (c : Cursor) where
    next-walked : Fits t x → belongs (run_count t) x (spot_of c) ≡ true → (w : Walked ℕ Found) → next t x (spot_of c) ≡ w
        → NextSays t x c (seek_told (seek_by x w)).number (seek_told (seek_by x w)).figure
    unfolding seek_told seek_by
    next-walked f b (stayed r) e = next-found f b r e
    next-walked f b (ended k) e = next-end f b k e
    next-walked f b (lost g s k) e = next-10 f b g s k e

    next-gives : NextSays t x c (seek_told (next_answer t x c)).number (seek_told (next_answer t x c)).figure
    unfolding next_answer next_framed seek_told
    next-gives =
        frames-by (λ (s : Result Stand Refusal). NextSays t x c (seek_told s).number (seek_told s).figure) Err (next_framed t x c)
        (λ w. next-1 w) (λ f w. next-4 f w)
        (λ f. split (λ (s : Result Stand Refusal). NextSays t x c (seek_told s).number (seek_told s).figure) (belongs (run_count t) x (spot_of c))
        (λ b. next-walked f b (next t x (spot_of c)) refl) (λ n. next-11 f n))

    next-belongs : belongs (run_count t) x (spot_of c) ≡ true → next_framed t x c ≡ seek_by x (next t x (spot_of c))
    unfolding next_framed
    next-belongs b = rw b

    next-not : belongs (run_count t) x (spot_of c) ≡ false → next_framed t x c ≡ Err (NotBelonging c.segment.0)
    unfolding next_framed
    next-not n = rw n

    next-on : Fits t x → belongs (run_count t) x (spot_of c) ≡ true → (w : Walked ℕ Found) → next t x (spot_of c) ≡ w
        → seek_told (seek_by x w) ≡ seek_told (next_answer t x c)
    unfolding next_answer
    next-on f b w e =
        sym (ap (λ (s : Result Stand Refusal). seek_told s) (on Err (next_framed t x c) f ∙ next-belongs b ∙ ap (seek_by x) e))

    next-alone : (n f : ℕ) → NextSays t x c n f → told n f ≡ seek_told (next_answer t x c)
    unfolding seek_told seek_by next_answer
    next-alone _ _ (next-1 w) = sym (ap (λ (s : Result Stand Refusal). seek_told s) (off-1 Err (next_framed t x c) w))
    next-alone _ _ (next-4 f w) = sym (ap (λ (s : Result Stand Refusal). seek_told s) (off-4 Err (next_framed t x c) f w))
    next-alone _ _ (next-11 f n) = sym (ap (λ (s : Result Stand Refusal). seek_told s) (on Err (next_framed t x c) f ∙ next-not n))
    next-alone _ _ (next-10 f b g s k e) = next-on f b (lost g s k) e
    next-alone _ _ (next-found f b r e) = next-on f b (stayed r) e
    next-alone _ _ (next-end f b k e) = next-on f b (ended k) e

    pub next-exactly : (n f : ℕ) → (told n f ≡ seek_told (next_answer t x c)) ↔ NextSays t x c n f
    next-exactly = exactly-by (NextSays t x c) (seek_told (next_answer t x c)) next-gives next-alone

    module _ (out : List ℕ) where
      page-walked : Fits t x → belongs (run_count t) x (spot_of c) ≡ true → (w : Walked Written (Written × Spot)) → page t x (spot_of c) out ≡ w
          → PageSays t x c out (page_told (page_by x w).rest).number (page_told (page_by x w).rest).figure
      unfolding page_told page_by
      page-walked f b (stayed w) e = page-more f b w e
      page-walked f b (ended w) e = page-end f b w e
      page-walked f b (lost g s w) e = page-10 f b g s w e

      page-gives : PageSays t x c out (page_told (page_answer t x c out).rest).number (page_told (page_answer t x c out).rest).figure
      unfolding page_answer page_framed page_told
      page-gives =
          frames-by (λ (p : Paged). PageSays t x c out (page_told p.rest).number (page_told p.rest).figure) refused_page (page_framed t x c out)
          (λ w. page-1 w) (λ f w. page-4 f w)
          (λ f. split (λ (p : Paged). PageSays t x c out (page_told p.rest).number (page_told p.rest).figure) (belongs (run_count t) x (spot_of c))
          (λ b. page-walked f b (page t x (spot_of c) out) refl) (λ n. page-11 f n))

      page-belongs : belongs (run_count t) x (spot_of c) ≡ true → page_framed t x c out ≡ page_by x (page t x (spot_of c) out)
      unfolding page_framed
      page-belongs b = rw b

      page-not : belongs (run_count t) x (spot_of c) ≡ false → page_framed t x c out ≡ refused_page (NotBelonging c.segment.0)
      unfolding page_framed
      page-not n = rw n

      page-on : Fits t x → belongs (run_count t) x (spot_of c) ≡ true → (w : Walked Written (Written × Spot)) → page t x (spot_of c) out ≡ w
          → page_told (page_by x w).rest ≡ page_told (page_answer t x c out).rest
      unfolding page_answer
      page-on f b w e =
          sym (ap (λ (p : Paged). page_told p.rest) (on refused_page (page_framed t x c out) f ∙ page-belongs b ∙ ap (page_by x) e))

      page-alone : (n f : ℕ) → PageSays t x c out n f → told n f ≡ page_told (page_answer t x c out).rest
      unfolding page_told page_by page_answer
      page-alone _ _ (page-1 w) = sym (ap (λ (p : Paged). page_told p.rest) (off-1 refused_page (page_framed t x c out) w))
      page-alone _ _ (page-4 f w) = sym (ap (λ (p : Paged). page_told p.rest) (off-4 refused_page (page_framed t x c out) f w))
      page-alone _ _ (page-11 f n) = sym (ap (λ (p : Paged). page_told p.rest) (on refused_page (page_framed t x c out) f ∙ page-not n))
      page-alone _ _ (page-10 f b g s w e) = page-on f b (lost g s w) e
      page-alone _ _ (page-more f b w e) = page-on f b (stayed w) e
      page-alone _ _ (page-end f b w e) = page-on f b (ended w) e

      pub page-exactly : (n f : ℕ) → (told n f ≡ page_told (page_answer t x c out).rest) ↔ PageSays t x c out n f
      page-exactly = exactly-by (PageSays t x c out) (page_told (page_answer t x c out).rest) page-gives page-alone

  module _ (prefix : List ℕ) (room : ℕ) where
    abbrev sheet_is : Result ℕ Refusal → Type 0
    sheet_is a = SheetSays t x prefix room (count_told a).number (count_told a).figure

    sheet-listed : Fits t x → Prefix t x prefix room → (es : List Record) → Lists t x prefix room es → sheet_is (listed_in room es)
    unfolding listed_in count_told
    sheet-listed f p es w =
        split sheet_is (leb (24 * length es) room) (λ y. sheet-0 f p es w (leb-true _ _ y)) (λ n. sheet-7 f p es w (leb-false _ _ n))

    sheet-walked : Fits t x → Prefix t x prefix room → (w : Walked (List Record) (List Record)) → sheet t x prefix ≡ w → sheet_is (sheet_by room w)
    unfolding sheet_by count_told
    sheet-walked f p (stayed es) e = sheet-listed f p es (to-bound e)
    sheet-walked f p (ended es) e = sheet-listed f p es (to_end e)
    sheet-walked f p (lost g s es) e = sheet-10 f p g s es e

    -- a prefix whose length the test turns away
    out_of : prefix_long prefix ≡ false → (length prefix ≡ 0) ⊎ (8 < length prefix)
    unfolding prefix_long
    out_of n =
        cases (leb 1 (length prefix))
        (λ y. inr (leb-false (length prefix) 8 (rw y at n)))
        (λ m. let l = leb-false 1 (length prefix) m in inl (omega arith))

    long : prefix_long prefix ≡ true → (1 ≤ length prefix) × (length prefix ≤ 8)
    unfolding prefix_long
    long y = (leb-true _ _ (and_left _ _ y), leb-true _ _ (and_right (leb 1 (length prefix)) _ y))

    sheet-gives : sheet_is (sheet_answer t x prefix room)
    unfolding sheet_answer sheet_framed prefix_last count_told
    sheet-gives =
        frames-by sheet_is Err (sheet_framed t x prefix room)
        (λ w. sheet-1 w) (λ f w. sheet-4 f w)
        (λ f. split sheet_is (prefix_long prefix)
        (λ y. split sheet_is (eqb (get_or prefix (length prefix - 1) 0) 255)
        (λ z. sheet-9 f (long y).0 (long y).1 (eqb-true _ _ z))
        (λ n. sheet-walked f (record { some = (long y).0; most = (long y).1; last = eqb-false _ _ n }) (sheet t x prefix) refl))
        (λ n. sheet-8 f (out_of n)))

    -- the tests of the prefix, as they come out
    long-true : 1 ≤ length prefix → length prefix ≤ 8 → prefix_long prefix ≡ true
    unfolding prefix_long
    long-true a b = and-true (le-leb _ _ a) (le-leb _ _ b)

    long-false : (length prefix ≡ 0) ⊎ (8 < length prefix) → prefix_long prefix ≡ false
    unfolding prefix_long
    long-false (inl z) = rw z
    long-false (inr l) = cases (leb 1 (length prefix)) (λ y. rw (y, lt-leb (length prefix) 8 l)) (λ n. rw n)

    sheet-off : (length prefix ≡ 0) ⊎ (8 < length prefix) → sheet_framed t x prefix room ≡ Err (Bounds (length prefix))
    unfolding sheet_framed
    sheet-off w = rw (long-false w)

    sheet-last : 1 ≤ length prefix → length prefix ≤ 8 → get_or prefix (length prefix - 1) 0 ≡ 255
        → sheet_framed t x prefix room ≡ Err (PrefixEnd (length prefix))
    unfolding sheet_framed prefix_last
    sheet-last a b e = rw (long-true a b, eq-eqb _ _ e)

    sheet-runs : Prefix t x prefix room → sheet_framed t x prefix room ≡ sheet_by room (sheet t x prefix)
    unfolding sheet_framed prefix_last
    sheet-runs p = rw (long-true p.some p.most, ne_eqb _ _ p.last)

    sheet-on : Fits t x → Prefix t x prefix room → (w : Walked (List Record) (List Record)) → sheet t x prefix ≡ w → count_told (sheet_by room w) ≡ count_told (sheet_answer t x prefix room)
    unfolding sheet_answer
    sheet-on f p w e = sym (ap count_told (on Err (sheet_framed t x prefix room) f ∙ sheet-runs p ∙ ap (sheet_by room) e))

    -- a listing with its room
    room_for : (es : List Record) → 24 * length es ≤ room → count_told (listed_in room es) ≡ told 0 (length es)
    unfolding listed_in count_told
    room_for es l = rw (le-leb _ _ l)

    room-less : (es : List Record) → room < 24 * length es → count_told (listed_in room es) ≡ told 7 (24 * length es)
    unfolding listed_in count_told
    room-less es l = rw (lt-leb _ _ l)

    lists-on : Fits t x → Prefix t x prefix room → (es : List Record) → Lists t x prefix room es → count_told (listed_in room es) ≡ count_told (sheet_answer t x prefix room)
    unfolding sheet_by
    lists-on f p es (to-bound e) = sheet-on f p (stayed es) e
    lists-on f p es (to_end e) = sheet-on f p (ended es) e

    sheet-alone : (n f : ℕ) → SheetSays t x prefix room n f → told n f ≡ count_told (sheet_answer t x prefix room)
    unfolding count_told sheet_by sheet_answer
    sheet-alone _ _ (sheet-1 w) = sym (ap count_told (off-1 Err (sheet_framed t x prefix room) w))
    sheet-alone _ _ (sheet-4 f w) = sym (ap count_told (off-4 Err (sheet_framed t x prefix room) f w))
    sheet-alone _ _ (sheet-8 f w) = sym (ap count_told (on Err (sheet_framed t x prefix room) f ∙ sheet-off w))
    sheet-alone _ _ (sheet-9 f a b e) = sym (ap count_told (on Err (sheet_framed t x prefix room) f ∙ sheet-last a b e))
    sheet-alone _ _ (sheet-10 f p g s es e) = sheet-on f p (lost g s es) e
    sheet-alone _ _ (sheet-7 f p es w l) = sym (room-less es l) ∙ lists-on f p es w
    sheet-alone _ _ (sheet-0 f p es w l) = sym (room_for es l) ∙ lists-on f p es w

    pub sheet-exactly : (n f : ℕ) → (told n f ≡ count_told (sheet_answer t x prefix room)) ↔ SheetSays t x prefix room n f
    sheet-exactly = exactly-by (SheetSays t x prefix room) (count_told (sheet_answer t x prefix room)) sheet-gives sheet-alone
