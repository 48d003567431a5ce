-- The table of refusals (docs/RULES.md, "Refusals by number"), call by call in the orders that it gives: when each number and figure is answered. A row each;
-- a call answers a number and a figure exactly when one of its rows does. 0 is no refusal.
--     TraySays, tray-exactly        check tray: 1, 3/2
--     IndexSays, index-exactly      check index: 1, 3/2, 4, 5
--     BuildSays, build-exactly      build: 1, 6, 3/2, 7
--     GetSays, get-exactly          get: 1, 4, 10
--     SeekSays, seek-exactly        seek: 1, 4, 10
--     NextSays, next-exactly        next: 1, 4, 11, 10
--     PageSays, page-exactly        page: 1, 4, 11, 10
--     SheetSays, sheet-exactly      sheet: 1, 4, 8, 9, 10, 7
--     FoldSays, fold-exactly        fold: 1, 8, 3/2, 12, 7
pub mod Quick
use Rattle.std.specs.Prelude.{◌≡◌, ◌↔◌, ◌⊎◌, ℕ, ◌≤◌, ◌<◌, List, length, Ok, Err, Result}
use Rattle.std.proofs.Math.Path.{refl, sym, subst}
use Rattle.std.proofs.Common.{ap, ◌∙◌, arith}
use Rattle.refusal.specs.declared.Refusal.{Refusal}
use Rattle.refusal.specs.declared.Refusal.TheVariants.{TrayFrame, KeyOrder, RecordKind, IndexFrame, Segment, SegmentSize, Room, Bounds, PrefixEnd, Lost, Cursor, RunLength}
use Rattle.refusal.specs.declared.Verdict.{Verdict}
use Rattle.refusal.specs.Table.{told, verdict_of}
use Rattle.tray.specs.Frame.{run_count, records_before, Framed}
use Rattle.tray.specs.Check.{check_tray_answer, Sound, Says, refused-1, refused-2, refused-3, records}
use Rattle.tray.proofs.Check.Laws.{says}
use Rattle.tray.specs.Check.Theorems.{WrongKeyAt, WrongKindAt}
use Rattle.tray.proofs.Check.Theorems.{answers-records, refuses-1, refuses-2, refuses-3}
use Rattle.tray.specs.Meaning.{runs_of}
use Rattle.index.specs.Layout.{segment_count, segments_of, IndexFramed}
use Rattle.index.specs.Rules.{Accepted, FirstWrong, LeftOver}
use Rattle.index.specs.Check.{check_index_answer, Says as IndexTable, refused-tray, refused-4, refused-5, left_over, accepted}
use Rattle.index.specs.Check.Laws.{check-says}
use Rattle.build_spec.specs.Build.{build_answer}
use Rattle.build_spec.specs.Build.Theorems.{SizeFits}
use Rattle.build_spec.specs.Build.Answers.{Builds, When}
use Rattle.build_spec.proofs.Build.Answers.{build-says}
use Rattle.fold_spec.specs.Fold.{folded_run, fold_size, fold_answer}
use Rattle.fold_spec.specs.Fold.Laws.{InBounds}
use Rattle.fold_spec.specs.Fold.Answers.{When as FoldWhen}
use Rattle.fold_spec.proofs.Fold.Answers.{fold-says}
use Rattle.theorems.specs.Told.{count_told}
use Rattle.theorems.specs.Told.Laws.{refused-above}

-- a table that gives a verdict, and gives it alone, gives a number and a figure exactly where they are the verdict's
pub exactly-by : (Table : ℕ → ℕ → Type 0) (v : Verdict) → Table v.number v.figure → ((n f : ℕ) → Table n f → told n f ≡ v)
    → (n f : ℕ) → (told n f ≡ v) ↔ Table n f
exactly-by Table v gives alone n f = (λ e. subst (λ (w : Verdict). Table w.number w.figure) (sym e) gives, alone n f)

module _ (t : List ℕ) where
  -- check tray
  pub data TraySays : ℕ → ℕ → Type 0 where
    -- the tray breaks the header, count or length rules
    tray-1 : (Framed t → ⊥) → TraySays 1 0
    -- record n is the first wrong one: its kind is above 1, or it is gone and has a value
    tray-3 : (n : ℕ) → WrongKindAt t n → TraySays 3 n
    -- record n is the first wrong one: its key is not above the one before it in its run
    tray-2 : (n : ℕ) → WrongKeyAt t n → TraySays 2 n
    -- the tray is sound: its records
    tray-0 : Sound t → TraySays 0 (records_before t (run_count t))

  tray-gives : {a : Result ℕ Refusal} → Says t a → TraySays (count_told a).number (count_told a).figure
  unfolding count_told
  tray-gives (refused-1 x) = tray-1 x
  tray-gives (refused-2 n r p f a ra u k) = tray-2 n (r, p, record { frame = f; numbered = a; before = ra }, u, k)
  tray-gives (refused-3 n r p f a ra u) = tray-3 n (r, p, record { frame = f; numbered = a; before = ra }, u)
  tray-gives (records s) = tray-0 s

  tray-alone : (n f : ℕ) → TraySays n f → told n f ≡ count_told (check_tray_answer t)
  unfolding count_told
  tray-alone _ _ (tray-1 x) = sym (ap count_told ((refuses-1 t).1 x))
  tray-alone _ _ (tray-3 n w) = sym (ap count_told ((refuses-3 t n).1 w))
  tray-alone _ _ (tray-2 n w) = sym (ap count_told ((refuses-2 t n).1 w))
  tray-alone _ _ (tray-0 s) = sym (ap count_told ((answers-records t (records_before t (run_count t))).1 (s, refl)))

  pub tray-exactly : (n f : ℕ) → (told n f ≡ count_told (check_tray_answer t)) ↔ TraySays n f
  tray-exactly = exactly-by TraySays (count_told (check_tray_answer t)) (tray-gives (says t)) tray-alone

  module _ (x : List ℕ) where
    -- check index
    pub data IndexSays : ℕ → ℕ → Type 0 where
      -- 1, 3 and 2 as check tray gives them
      index-tray : (n f : ℕ) → TraySays n f → 0 < n → IndexSays n f
      -- the index breaks the frame
      index-4 : Sound t → (IndexFramed (run_count t) x → ⊥) → IndexSays 4 0
      -- its frame fits, and segment g is the first that is not right
      index-5 : (g : ℕ) → Sound t → IndexFramed (run_count t) x → FirstWrong (runs_of t) (segments_of (run_count t) x) g → IndexSays 5 g
      -- every segment is right, and records are left over
      index-over : Sound t → IndexFramed (run_count t) x → LeftOver (runs_of t) (segments_of (run_count t) x) → IndexSays 5 (segment_count x)
      -- the index is accepted: its segments
      index-0 : Sound t → IndexFramed (run_count t) x → Accepted (runs_of t) (segments_of (run_count t) x) → IndexSays 0 (segment_count x)

    -- what check tray refuses, as a row
    tray-row : (r : Refusal) → check_tray_answer t ≡ Err r → TraySays (verdict_of r).number (verdict_of r).figure × (0 < (verdict_of r).number)
    unfolding count_told
    tray-row r e =
        (subst (λ (a : Result ℕ Refusal). TraySays (count_told a).number (count_told a).figure) e (tray-gives (says t)), refused-above r)

    index_gives : {a : Result ℕ Refusal} → IndexTable t x a → IndexSays (count_told a).number (count_told a).figure
    unfolding count_told
    index_gives (refused-tray r e) = let w = tray-row r e in index-tray (verdict_of r).number (verdict_of r).figure w.0 w.1
    index_gives (refused-4 s f) = index-4 s f
    index_gives (refused-5 g s f w) = index-5 g s f w
    index_gives (left_over s f w) = index-over s f w
    index_gives (accepted s f w) = index-0 s f w

    -- a refusal of check tray is check index's too
    tray-first : (a : Result ℕ Refusal) → check_tray_answer t ≡ a → 0 < (count_told a).number → count_told a ≡ count_told (check_index_answer t x)
    unfolding count_told
    tray-first (Ok n) e l = absurd (omega arith)
    tray-first (Err r) e l = sym (ap count_told ((check-says t x (Err r)).1 (refused-tray r e)))

    index-alone : (n f : ℕ) → IndexSays n f → told n f ≡ count_told (check_index_answer t x)
    unfolding count_told
    index-alone _ _ (index-tray n f w l) =
        let e = tray-alone n f w in
        e ∙ tray-first (check_tray_answer t) refl (subst (λ k. 0 < k) (ap (λ (v : Verdict). v.number) e) l)
    index-alone _ _ (index-4 s f) = sym (ap count_told ((check-says t x (Err IndexFrame)).1 (refused-4 s f)))
    index-alone _ _ (index-5 g s f w) = sym (ap count_told ((check-says t x (Err (Segment g))).1 (refused-5 g s f w)))
    index-alone _ _ (index-over s f w) = sym (ap count_told ((check-says t x (Err (Segment (segment_count x)))).1 (left_over s f w)))
    index-alone _ _ (index-0 s f w) = sym (ap count_told ((check-says t x (Ok (segment_count x))).1 (accepted s f w)))

    pub index-exactly : (n f : ℕ) → (told n f ≡ count_told (check_index_answer t x)) ↔ IndexSays n f
    index-exactly = exactly-by IndexSays (count_told (check_index_answer t x)) (index_gives ((check-says t x (check_index_answer t x)).0 refl)) index-alone

  module _ (d room : ℕ) where
    -- build
    pub data BuildSays : ℕ → ℕ → Type 0 where
      -- the tray breaks the header, count or length rules
      build-1 : (Framed t → ⊥) → BuildSays 1 0
      -- D is outside H to 128
      build-6 : Framed t → (SizeFits (run_count t) d → ⊥) → BuildSays 6 d
      -- record n is the first wrong one
      build-3 : (n : ℕ) → SizeFits (run_count t) d → WrongKindAt t n → BuildSays 3 n
      build-2 : (n : ℕ) → SizeFits (run_count t) d → WrongKeyAt t n → BuildSays 2 n
      -- the index has n bytes, and the output less
      build-7 : (n : ℕ) → Builds t d n → room < n → BuildSays 7 n
      -- the n bytes of the index are written
      build-0 : (n : ℕ) → Builds t d n → n ≤ room → BuildSays 0 n

    build-gives : (a : Result ℕ Refusal) → When t d room a → BuildSays (count_told a).number (count_told a).figure
    unfolding count_told
    build-gives (Ok n) w = build-0 n w.0 w.1
    build-gives (Err TrayFrame) w = build-1 w
    build-gives (Err (SegmentSize n)) w = subst (BuildSays 6) (sym w.2) (build-6 w.0 w.1)
    build-gives (Err (RecordKind n)) w = build-3 n w.0 w.1
    build-gives (Err (KeyOrder n)) w = build-2 n w.0 w.1
    build-gives (Err (Room n)) w = build-7 n w.0 w.1
    build-gives (Err IndexFrame) w = absurd w
    build-gives (Err (Segment n)) w = absurd w
    build-gives (Err (Bounds n)) w = absurd w
    build-gives (Err (PrefixEnd n)) w = absurd w
    build-gives (Err (Lost g s)) w = absurd w
    build-gives (Err (Cursor n)) w = absurd w
    build-gives (Err (RunLength n)) w = absurd w

    build-by : (a : Result ℕ Refusal) → When t d room a → count_told a ≡ count_told (build_answer t d room)
    build-by a w = sym (ap count_told ((build-says t d room a).1 w))

    build-alone : (n f : ℕ) → BuildSays n f → told n f ≡ count_told (build_answer t d room)
    unfolding count_told
    build-alone _ _ (build-1 x) = build-by (Err TrayFrame) x
    build-alone _ _ (build-6 f s) = build-by (Err (SegmentSize d)) (f, s, refl)
    build-alone _ _ (build-3 n s w) = build-by (Err (RecordKind n)) (s, w)
    build-alone _ _ (build-2 n s w) = build-by (Err (KeyOrder n)) (s, w)
    build-alone _ _ (build-7 n b l) = build-by (Err (Room n)) (b, l)
    build-alone _ _ (build-0 n b l) = build-by (Ok n) (b, l)

    pub build-exactly : (n f : ℕ) → (told n f ≡ count_told (build_answer t d room)) ↔ BuildSays n f
    build-exactly = exactly-by BuildSays (count_told (build_answer t d room)) (build-gives (build_answer t d room) ((build-says t d room (build_answer t d room)).0 refl)) build-alone

  module _ (a b room : ℕ) where
    -- fold
    pub data FoldSays : ℕ → ℕ → Type 0 where
      -- the tray breaks the header, count or length rules
      fold-1 : (Framed t → ⊥) → FoldSays 1 0
      -- a > b or b ≥ H
      fold-8 : Framed t → b < a ⊎ run_count t ≤ b → FoldSays 8 b
      -- record n is the first wrong one
      fold-3 : (n : ℕ) → InBounds t a b → WrongKindAt t n → FoldSays 3 n
      fold-2 : (n : ℕ) → InBounds t a b → WrongKeyAt t n → FoldSays 2 n
      -- the folded run has more than 4,096 records
      fold-12 : Sound t → InBounds t a b → 4096 < length (folded_run a b (runs_of t)) → FoldSays 12 (length (folded_run a b (runs_of t)))
      -- the output is too short
      fold-7 : Sound t → InBounds t a b → length (folded_run a b (runs_of t)) ≤ 4096 → room < fold_size a b (runs_of t) → FoldSays 7 (fold_size a b (runs_of t))
      -- the bytes of the folded tray are written
      fold-0 : Sound t → InBounds t a b → length (folded_run a b (runs_of t)) ≤ 4096 → fold_size a b (runs_of t) ≤ room → FoldSays 0 (fold_size a b (runs_of t))

    fold-gives : (x : Result ℕ Refusal) → FoldWhen t a b room x → FoldSays (count_told x).number (count_told x).figure
    unfolding count_told FoldWhen
    fold-gives (Ok n) w = subst (FoldSays 0) (sym w.4) (fold-0 w.0 w.1 w.2 w.3)
    fold-gives (Err TrayFrame) w = fold-1 w
    fold-gives (Err (Bounds n)) w = subst (FoldSays 8) (sym w.2) (fold-8 w.0 w.1)
    fold-gives (Err (RecordKind n)) w = fold-3 n w.0 w.1
    fold-gives (Err (KeyOrder n)) w = fold-2 n w.0 w.1
    fold-gives (Err (RunLength n)) w = subst (FoldSays 12) (sym w.3) (fold-12 w.0 w.1 (subst (λ k. 4096 < k) w.3 w.2))
    fold-gives (Err (Room n)) w = subst (FoldSays 7) (sym w.4) (fold-7 w.0 w.1 w.2 (subst (λ k. room < k) w.4 w.3))
    fold-gives (Err IndexFrame) w = absurd w
    fold-gives (Err (Segment n)) w = absurd w
    fold-gives (Err (SegmentSize n)) w = absurd w
    fold-gives (Err (PrefixEnd n)) w = absurd w
    fold-gives (Err (Lost g s)) w = absurd w
    fold-gives (Err (Cursor n)) w = absurd w

    fold-by : (x : Result ℕ Refusal) → FoldWhen t a b room x → count_told x ≡ count_told (fold_answer t a b room)
    fold-by x w = sym (ap count_told ((fold-says t a b room x).1 w))

    fold-alone : (n f : ℕ) → FoldSays n f → told n f ≡ count_told (fold_answer t a b room)
    unfolding count_told FoldWhen
    fold-alone _ _ (fold-1 x) = fold-by (Err TrayFrame) x
    fold-alone _ _ (fold-8 f w) = fold-by (Err (Bounds b)) (f, w, refl)
    fold-alone _ _ (fold-3 n h w) = fold-by (Err (RecordKind n)) (h, w)
    fold-alone _ _ (fold-2 n h w) = fold-by (Err (KeyOrder n)) (h, w)
    fold-alone _ _ (fold-12 s h l) = fold-by (Err (RunLength (length (folded_run a b (runs_of t))))) (s, h, l, refl)
    fold-alone _ _ (fold-7 s h l r) = fold-by (Err (Room (fold_size a b (runs_of t)))) (s, h, l, r, refl)
    fold-alone _ _ (fold-0 s h l r) = fold-by (Ok (fold_size a b (runs_of t))) (s, h, l, r, refl)

    pub fold-exactly : (n f : ℕ) → (told n f ≡ count_told (fold_answer t a b room)) ↔ FoldSays n f
    fold-exactly =
        exactly-by FoldSays (count_told (fold_answer t a b room)) (fold-gives (fold_answer t a b room) ((fold-says t a b room (fold_answer t a b room)).0 refl)) fold-alone
