-- WHAT KANYORITH PROMISES. Open this file first.
--
-- The contract of each public call (src/lib.rt) is its promise in `Promises.antt`: an equation between what it answers and leaves, and one
-- definition. Everything below speaks of the promises alone: of any call that keeps them, whatever tray, index, key, prefix, cursor and
-- output it is given. Lists are lists of bytes; a cursor is a list of 66 numbers. `n f` are a call's number and figure.
--
-- Demand 1. Every call takes any bytes and ends. It refuses a bad tray, index, bound or cursor itself, by a fixed number, and what a
-- refusal returns and leaves in the output is fixed.
--     ..-one-answer        the promise allows one answer
--     ..-exactly           a number and figure are given exactly when the table of docs/RULES.md, "Refusals by number", says so (the tables: `Exactly.antt`)
--     ..-untouched         a refusal leaves the outputs as they were
--     ..-behind            no call touches an output past what it writes
--     seek-hands, next-hands, page-hands     the cursors that calls hand back belong
-- Demand 2. An index is accepted exactly when it follows the published REMIX rules for that tray. What the library builds is accepted. Through an
-- accepted index, whoever built it, every lookup, seek and listing gives just the points of the full merge whose newest version isn't deleted,
-- in that version and in key order.
--     accepted-exactly, built-is-accepted, built-half
--     the-points, points-rise              what the points of a tray are
--     get-gives, seek-gives, next-gives, pages-give, pages-give-onward, sheet-gives, prefixed-begin
--     page-writes                          with 24 bytes of room a page writes a record or says the end
--     next-not-lost, page-not-lost         (get, seek and sheet are not lost by what they give)
-- Demand 3. Folding neighbouring runs into one never changes what is read. For a sound tray, and any chain of folds of which none is refused, accepted
-- indexes before and after give the same keys and values. Given room to write, all chains that fold a tray to one run end in the same bytes, and
-- run length stops such a chain exactly when it stops folding everything at once. An empty run adds nothing, nor does an older neighbour that is
-- a copy.
--     get-same, seek-same, next-same, pages-same, sheet-same
--     same_end, never-too-long, too_long, reaches-one
--     empty-adds-nothing, copy-adds-nothing
use Rattle.std.specs.Prelude.{◌≡◌, refl, ◌↔◌, ℕ, suc, ◌+◌, ◌-◌, ◌*◌, ◌/◌, ◌≤◌, ◌<◌, true, get_or, drop, Result}
use Rattle.std.proofs.Math.Path.{sym, ap, ap₂}
use Rattle.std.proofs.Common.{◌∙◌, subst, arith}
use mathlib.Core.List.{List, ◌∷◌, map}
use Rattle.std.proofs.Math.ListN.{length, take}
use Rattle.std.proofs.Math.Dec.{leb}
use Rattle.number.specs.Big.{be, bytes_of, Bytes}
use Rattle.refusal.specs.declared.Verdict.{Verdict}
use Rattle.refusal.specs.Table.{told}
use Rattle.theory.specs.Records.{Record, SoundRecord, live}
use Rattle.theory.specs.Rising.{Mem, Rises, keep}
use Rattle.theory.specs.Hiding.{same_key}
use Rattle.theory.proofs.Hiding.Laws.{same_key-rule}
use Rattle.theory.specs.View.{view, visible}
use Rattle.theory.proofs.View.Visible.{visible-is}
use Rattle.tray.specs.Frame.{run_count, count_of, records_before, run_bytes}
use Rattle.tray.specs.Run.{record_at}
use Rattle.tray.specs.Meaning.{runs_of}
use Rattle.tray.specs.Meaning.Laws.{runs-good, length-runs_of}
use Rattle.tray.specs.Check.{Sound}
use Rattle.index.specs.Layout.{segment_count, segments_of, IndexFramed}
use Rattle.index.specs.Rules.{key_of, Accepted as Follows}
use Rattle.index.specs.Check.{check_index_answer}
use Rattle.index.specs.Check.Theorems.{answers-segments}
use Rattle.answers.specs.Next.{next_answer}
use Rattle.answers.specs.Seek.{seek_answer}
use Rattle.refusal.specs.declared.Refusal.{Refusal}
use Rattle.answers.specs.declared.Stand.{Stand}
use Rattle.answers.specs.declared.Rest.{Rest}
use Rattle.walk.specs.Reads.Seek.{points, points-rise as rising-points}
use Rattle.walk.specs.Reads.{belongs}
use Rattle.walk.specs.Code.{spot_of}
use Rattle.walk.specs.Reads.Page.{listing}
use Rattle.walk.proofs.ReadsLaws.Prefix.{sheet-begins}
use Rattle.theorems.specs.Read.{onward, prefixed}
use Rattle.theorems.specs.Unchanged.{get-unchanged, sheet-unchanged, sheet-leaves-unchanged}
use Rattle.answers.specs.Get.{Value, get_answer}
use Rattle.build_spec.specs.Build.{build_answer, build_leaves, index_bytes}
use Rattle.build_spec.proofs.Build.Theorems.{built-bound, built-count}
use Rattle.build_spec.proofs.Build.Answers.{build-written, leaves-written, leaves-accepted}
use Rattle.answers.specs.Page.{page_answer, page_leaves}
use Rattle.answers.specs.Sheet.{sheet_answer, sheet_leaves}
use Rattle.fold_spec.specs.Fold.{fold_size, fold_answer, fold_leaves}
use Rattle.fold_spec.specs.Fold.Chains.{whole_size, whole_bytes}
use Rattle.fold_spec.proofs.Fold.Chains.{reaches-one as one-whole, calls-sound, calls-visible, calls-meet, length-never-stops, length-stops}
use Rattle.fold_spec.proofs.Fold.Laws.{length-fold_bytes}
use Rattle.fold_spec.proofs.Fold.Answers.{fold-written}
use Rattle.fold_spec.specs.Fold.Nothing.{without_run, AddsNothing}
use Rattle.fold_spec.proofs.Fold.Nothing.{empty-run, older-copy, same_bytes}
use Rattle.fold_spec.proofs.Fold.Leaves.{leaves-written as fold-leaves-written}
use Rattle.kanyorith.specs.Promises.{CheckTray, CheckIndex, Build, value_left, Get, run_left, place_left, cursor_left, Sought, Seek, Next, page_cursor_left, Page, Sheet, Fold}
use Rattle.theorems.specs.Told.Laws.{count-zero, count-above, get-above, seek-above, page-above}
use Rattle.theorems.specs.Told.{count_told, get_told}
use Rattle.kanyorith.specs.Reads.{Accepted, reading, Looked, get-looks, Sights, seek-sees, same-sights, Steps, steps-are, Paged, pages-are, Onward, pages-onward, next-never-lost, page-never-lost, Listed, sheet-lists}
use Rattle.kanyorith.specs.Handed.{seek-belongs, next-belongs, page-belongs}
use Rattle.kanyorith.specs.Folds.{Folds, folds-calls, sound-tray, Unchanged, unchanged, not-12, is-12, whole-bounds}
use Rattle.kanyorith.specs.Left.{page-kept, refused-page, page-filled, listed-behind}
use Rattle.theorems.specs.Cursors.{cursor_in}
use Rattle.theorems.specs.Exactly.{TraySays, tray-exactly, IndexSays, index-0, index-exactly, BuildSays, build-exactly as build-table, FoldSays, fold-exactly as fold-table}
use Rattle.theorems.specs.Exactly.Quick.{GetSays, SeekSays, NextSays, PageSays, SheetSays}
use Rattle.theorems.proofs.Exactly.Quick.{get-exactly as get-table, seek-exactly as seek-table, next-exactly as next-table, page-exactly as page-table, sheet-exactly as sheet-table}

-- DEMAND 1: ONE ANSWER

one_told : {n f m g : ℕ} {v : Verdict} → told n f ≡ v → told m g ≡ v → (n ≡ m) × (f ≡ g)
one_told p q = let e = p ∙ sym q in (ap (λ (v : Verdict). v.number) e, ap (λ (v : Verdict). v.figure) e)

pub check-tray-one-answer : {t : List ℕ} {n f m g : ℕ} → CheckTray t n f → CheckTray t m g → (n ≡ m) × (f ≡ g)
check-tray-one-answer p q = one_told p.answers q.answers

pub check-index-one-answer : {t x : List ℕ} {n f m g : ℕ} → CheckIndex t x n f → CheckIndex t x m g → (n ≡ m) × (f ≡ g)
check-index-one-answer p q = one_told p.answers q.answers

pub build-one-answer : {t out left left' : List ℕ} {d n f m g : ℕ} → Build t d out n f left → Build t d out m g left' → (n ≡ m) × (f ≡ g) × (left ≡ left')
build-one-answer p q = let e = one_told p.answers q.answers in (e.0, e.1, p.leaving ∙ sym q.leaving)

pub get-one-answer : {t x key was value value' : List ℕ} {n f m g : ℕ} → Get t x key was n f value → Get t x key was m g value'
    → (n ≡ m) × (f ≡ g) × (value ≡ value')
get-one-answer p q = let e = one_told p.answers q.answers in (e.0, e.1, p.leaving ∙ sym q.leaving)

-- what seek and next answer and leave
pub record Same (n f run place : ℕ) (c : List ℕ) (m g run' place' : ℕ) (c' : List ℕ) : Type 0 where
  pub number : n ≡ m
  pub figure : f ≡ g
  pub in-run : run ≡ run'
  pub at_place : place ≡ place'
  pub cursor : c ≡ c'

one-sought : {a : Result Stand Refusal} {run place n f r p m g r' p' : ℕ} {c k k' : List ℕ} → Sought a run place c n f r p k → Sought a run place c m g r' p' k'
    → Same n f r p k m g r' p' k'
one-sought p q =
    let e = one_told p.answers q.answers in
    record {
      number = e.0;
      figure = e.1;
      in-run = p.run-left ∙ sym q.run-left;
      at_place = p.place-left ∙ sym q.place-left;
      cursor = p.cursor-left ∙ sym q.cursor-left;
    }

pub seek-one-answer : {t x key c k k' : List ℕ} {run place n f r p m g r' p' : ℕ} → Seek t x key c run place n f r p k → Seek t x key c run place m g r' p' k'
    → Same n f r p k m g r' p' k'
seek-one-answer p q = one-sought p.sought q.sought

pub next-one-answer : {t x c k k' : List ℕ} {run place n f r p m g r' p' : ℕ} → Next t x c run place n f r p k → Next t x c run place m g r' p' k'
    → Same n f r p k m g r' p' k'
next-one-answer p q = one-sought p.sought q.sought

pub page-one-answer : {t x c out k k' left left' : List ℕ} {n f i m g j : ℕ} → Page t x c out n f i k left → Page t x c out m g j k' left'
    → (n ≡ m) × (f ≡ g) × (i ≡ j) × (k ≡ k') × (left ≡ left')
page-one-answer p q =
    let a = p.paging in
    let b = q.paging in
    let e = one_told a.answers b.answers in
    (e.0, e.1, a.counts ∙ sym b.counts, a.cursor-left ∙ sym b.cursor-left, a.leaving ∙ sym b.leaving)

pub sheet-one-answer : {t x prefix out left left' : List ℕ} {n f m g : ℕ} → Sheet t x prefix out n f left → Sheet t x prefix out m g left'
    → (n ≡ m) × (f ≡ g) × (left ≡ left')
sheet-one-answer p q = let e = one_told p.answers q.answers in (e.0, e.1, p.leaving ∙ sym q.leaving)

pub fold-one-answer : {t out left left' : List ℕ} {a b n f m g : ℕ} → Fold t a b out n f left → Fold t a b out m g left' → (n ≡ m) × (f ≡ g) × (left ≡ left')
fold-one-answer p q = let e = one_told p.answers q.answers in (e.0, e.1, p.leaving ∙ sym q.leaving)

-- DEMAND 1: EACH NUMBER EXACTLY WHEN

says-by : {T : Type 0} {n f m g : ℕ} {v : Verdict} → told n f ≡ v → (told m g ≡ v) ↔ T → ((n ≡ m) × (f ≡ g)) ↔ T
says-by p q = (λ e. q.0 (ap₂ told (sym e.0) (sym e.1) ∙ p), λ t. one_told p (q.1 t))

-- 1, 3/2
pub check-tray-exactly : {t : List ℕ} {n f : ℕ} → CheckTray t n f → (m g : ℕ) → ((n ≡ m) × (f ≡ g)) ↔ TraySays t m g
check-tray-exactly {t} p m g = says-by p.answers (tray-exactly t m g)

-- 1, 3/2, 4, 5
pub check-index-exactly : {t x : List ℕ} {n f : ℕ} → CheckIndex t x n f → (m g : ℕ) → ((n ≡ m) × (f ≡ g)) ↔ IndexSays t x m g
check-index-exactly {t} {x} p m g = says-by p.answers (index-exactly t x m g)

-- 1, 6, 3/2, 7
pub build-exactly : {t out left : List ℕ} {d n f : ℕ} → Build t d out n f left → (m g : ℕ) → ((n ≡ m) × (f ≡ g)) ↔ BuildSays t d (length out) m g
build-exactly {t} {out} {d = d} p m g = says-by p.answers (build-table t d (length out) m g)

-- 1, 4, 10
pub get-exactly : {t x key was value : List ℕ} {n f : ℕ} → Get t x key was n f value → (m g : ℕ) → ((n ≡ m) × (f ≡ g)) ↔ GetSays t x key m g
get-exactly {t} {x} {key} p m g = says-by p.answers (get-table t x key m g)

-- 1, 4, 10
pub seek-exactly : {t x key c k : List ℕ} {run place n f r p : ℕ} → Seek t x key c run place n f r p k → (m g : ℕ) → ((n ≡ m) × (f ≡ g)) ↔ SeekSays t x key m g
seek-exactly {t} {x} {key} p m g = says-by p.sought.answers (seek-table t x key m g)

-- 1, 4, 11, 10
pub next-exactly : {t x c k : List ℕ} {run place n f r p : ℕ} → Next t x c run place n f r p k → (m g : ℕ) → ((n ≡ m) × (f ≡ g)) ↔ NextSays t x (cursor_in c) m g
next-exactly {t} {x} {c} p m g = says-by p.sought.answers (next-table t x (cursor_in c) m g)

-- 1, 4, 11, 10
pub page-exactly : {t x c out k left : List ℕ} {n f i : ℕ} → Page t x c out n f i k left → (m g : ℕ) → ((n ≡ m) × (f ≡ g)) ↔ PageSays t x (cursor_in c) out m g
page-exactly {t} {x} {c} {out} p m g = says-by p.paging.answers (page-table t x (cursor_in c) out m g)

-- 1, 4, 8, 9, 10, 7
pub sheet-exactly : {t x prefix out left : List ℕ} {n f : ℕ} → Sheet t x prefix out n f left → (m g : ℕ) → ((n ≡ m) × (f ≡ g)) ↔ SheetSays t x prefix (length out) m g
sheet-exactly {t} {x} {prefix} {out} p m g = says-by p.answers (sheet-table t x prefix (length out) m g)

-- 1, 8, 3/2, 12, 7
pub fold-exactly : {t out left : List ℕ} {a b n f : ℕ} → Fold t a b out n f left → (m g : ℕ) → ((n ≡ m) × (f ≡ g)) ↔ FoldSays t a b (length out) m g
fold-exactly {t} {out} {a = a} {b} p m g = says-by p.answers (fold-table t a b (length out) m g)

-- DEMAND 1: WHAT A REFUSAL LEAVES

pub build-untouched : {t out left : List ℕ} {d n f : ℕ} → Build t d out n f left → 0 < n → left ≡ out
unfolding build_leaves
build-untouched {t} {out} {d = d} p l = p.leaving ∙ ap (build_leaves t d out) (count-above (build_answer t d (length out)) p.answers l).1

pub get-untouched : {t x key was value : List ℕ} {n f : ℕ} → Get t x key was n f value → 0 < n → value ≡ was
unfolding value_left
get-untouched {t} {x} {key} {was} p l =
    p.leaving ∙ ap (λ (a : Value). value_left a was) (get-above (get_answer t x key) p.answers l).1

pub seek-untouched : {t x key c k : List ℕ} {run place n f r p : ℕ} → Seek t x key c run place n f r p k → 0 < n → (r ≡ run) × (p ≡ place) × (k ≡ c)
unfolding run_left place_left cursor_left
seek-untouched {t} {x} {key} {c} {run = run} {place} p l =
    let a = seek_answer t x key in
    let e = (seek-above a p.sought.answers l).1 in (
      p.sought.run-left ∙ ap (λ (w : Result Stand Refusal). run_left w run) e,
      p.sought.place-left ∙ ap (λ (w : Result Stand Refusal). place_left w place) e,
      p.sought.cursor-left ∙ ap (λ (w : Result Stand Refusal). cursor_left w c) e,
    )

pub next-untouched : {t x c k : List ℕ} {run place n f r p : ℕ} → Next t x c run place n f r p k → 0 < n → (r ≡ run) × (p ≡ place) × (k ≡ c)
unfolding run_left place_left cursor_left
next-untouched {t} {x} {c} {run = run} {place} p l =
    let a = next_answer t x (cursor_in c) in
    let e = (seek-above a p.sought.answers l).1 in (
      p.sought.run-left ∙ ap (λ (w : Result Stand Refusal). run_left w run) e,
      p.sought.place-left ∙ ap (λ (w : Result Stand Refusal). place_left w place) e,
      p.sought.cursor-left ∙ ap (λ (w : Result Stand Refusal). cursor_left w c) e,
    )

-- a refused page hands back the cursor that it was given; refused by 1, 4 or 11 it has written nothing, and by 10 it keeps what it wrote (page-behind)
pub page-untouched : {t x c out k left : List ℕ} {n f i : ℕ} → Page t x c out n f i k left → 0 < n → k ≡ c
unfolding page_cursor_left
page-untouched {t} {x} {c} {out} p l =
    let a = page_answer t x (cursor_in c) out in
    p.paging.cursor-left ∙ ap (λ (w : Result Rest Refusal). page_cursor_left w c) (page-above a.rest p.paging.answers l).1

pub page-unwritten : {t x c out k left : List ℕ} {n f i : ℕ} → Page t x c out n f i k left → 0 < n → (n ≡ 10 → ⊥) → (i ≡ 0) × (left ≡ out)
page-unwritten {t} {x} {c} {out} {n = n} {f} p l off =
    let e = refused-page t x (cursor_in c) out p.paging.answers l off in
    (p.paging.counts ∙ e.0, p.paging.leaving ∙ e.1)

pub sheet-untouched : {t x prefix out left : List ℕ} {n f : ℕ} → Sheet t x prefix out n f left → 0 < n → left ≡ out
unfolding sheet_leaves
sheet-untouched {t} {x} {prefix} {out} p l =
    p.leaving ∙ ap (sheet_leaves t x prefix out) (count-above (sheet_answer t x prefix (length out)) p.answers l).1

pub fold-untouched : {t out left : List ℕ} {a b n f : ℕ} → Fold t a b out n f left → 0 < n → left ≡ out
unfolding fold_leaves
fold-untouched {t} {out} {a = a} {b} p l = p.leaving ∙ ap (fold_leaves t a b out) (count-above (fold_answer t a b (length out)) p.answers l).1

-- DEMAND 1: NO CALL TOUCHES OUTPUT PAST WHAT IT WRITES

-- the output is as long as it was, and from byte n on it is what it was
pub record Behind (n : ℕ) (out left : List ℕ) : Type 0 where
  pub long : length left ≡ length out
  pub same : drop n left ≡ drop n out

pub build-behind : {t out left : List ℕ} {d n : ℕ} → Build t d out 0 n left → Behind n out left
build-behind {t} {out} {d = d} {n} p =
    let w = leaves-written t d out n (count-zero (build_answer t d (length out)) p.answers) in
    record { long = ap length p.leaving ∙ w.long; same = ap (drop n) p.leaving ∙ w.behind }

pub fold-behind : {t out left : List ℕ} {a b n : ℕ} → Fold t a b out 0 n left → Behind n out left
fold-behind {t} {out} {a = a} {b} {n} p =
    let e = count-zero (fold_answer t a b (length out)) p.answers in
    let w = fold-leaves-written t a b out n e in
    let is = p.leaving ∙ ap (fold_leaves t a b out) e in
    record { long = ap length is ∙ w.same; same = ap (drop n) is ∙ w.behind }

pub sheet-behind : {t x prefix out left : List ℕ} {n : ℕ} → Sheet t x prefix out 0 n left → Behind (24 * n) out left
sheet-behind {t} {x} {prefix} {out} {n = n} p =
    let w = listed-behind t x prefix out n p.answers in
    record { long = ap length p.leaving ∙ w.0; same = ap (drop (24 * n)) p.leaving ∙ w.1 }

-- whatever page answers: it has written its count of records, and no more
pub page-behind : {t x c out k left : List ℕ} {n f i : ℕ} → Page t x c out n f i k left → Behind (24 * i) out left
page-behind {t} {x} {c} {out} {i = i} p =
    let w = page-kept t x (cursor_in c) out in
    let e = p.paging.leaving in
    record {
      long = ap length e ∙ w.long;
      same = ap (drop (24 * i)) e ∙ subst (λ (j : ℕ). drop (24 * j) (page_leaves t x (cursor_in c) out) ≡ drop (24 * j) out) (sym p.paging.counts) w.behind;
    }

-- CURSORS

-- the cursor that a call hands back belongs to the same tray and index, whatever the index says: so none is refused by 11 that was not touched
pub seek-hands : {t x key c k : List ℕ} {run place f r p : ℕ} → Seek t x key c run place 0 f r p k → belongs (run_count t) x (spot_of (cursor_in k)) ≡ true
seek-hands p = seek-belongs p

pub next-hands : {t x c k : List ℕ} {run place f r p : ℕ} → length c ≡ 66 → Next t x c run place 0 f r p k → belongs (run_count t) x (spot_of (cursor_in k)) ≡ true
next-hands l p = next-belongs l p

pub page-hands : {t x c out k left : List ℕ} {f i : ℕ} → length c ≡ 66 → Page t x c out 0 f i k left → belongs (run_count t) x (spot_of (cursor_in k)) ≡ true
page-hands l p = page-belongs l p

-- DEMAND 2: INDEXES

-- accepted exactly when the tray is sound, the frame fits, every segment is right by the five rules (docs/RULES.md, "A right segment"), and no record is left over
pub accepted-exactly : {t x : List ℕ} {n f : ℕ} → CheckIndex t x n f
    → (n ≡ 0) ↔ (Sound t × IndexFramed (run_count t) x × Follows (runs_of t) (segments_of (run_count t) x))
accepted-exactly {t} {x} {n} {f} p = (
  λ z. (let e = subst (λ (m : ℕ). told m f ≡ count_told (check_index_answer t x)) z p.answers in
      let w = (answers-segments t x f).0 (count-zero (check_index_answer t x) e) in (w.0, w.1, w.2)),
  λ w. (one_told p.answers ((index-exactly t x 0 (segment_count x)).1 (index-0 w.0 w.1 w.2))).0,
)

-- what build writes is accepted for its tray
pub built-is-accepted : {t out left : List ℕ} {d n : ℕ} → Bytes t → Build t d out 0 n left → Accepted t (take n left)
built-is-accepted {t} {out} {left} {d} {n} bytes p =
    let e = count-zero (build_answer t d (length out)) p.answers in
    let w = leaves-accepted t d out n (take n left) bytes e (ap (take n) p.leaving) in
    let s = ((build-written t d (length out) n).0 e).0.sound in
    record { segments = segment_count (take n left); says = record { answers = (index-exactly t (take n left) 0 (segment_count (take n left))).1 (index-0 s w.0 w.1) } }

-- half of its segments, rounded down, times D + 1, is at most the records
pub built-half : {t out left : List ℕ} {d n : ℕ} → Bytes t → Build t d out 0 n left → segment_count (take n left) / 2 * (d + 1) ≤ records_before t (run_count t)
built-half {t} {out} {left} {d} {n} bytes p =
    let e = count-zero (build_answer t d (length out)) p.answers in
    let b = ((build-written t d (length out) n).0 e).0 in
    let is : take n left ≡ index_bytes d (runs_of t) = ap (take n) p.leaving ∙ (leaves-written t d out n e).front in
    subst (λ (s : ℕ). s / 2 * (d + 1) ≤ records_before t (run_count t)) (sym (ap segment_count is ∙ built-count b.sound b.size bytes)) (built-bound b.sound b.size)

-- DEMAND 2: THE POINTS OF A TRAY

-- the points of a sound tray are the records of its sorted view that are visible: live, and not old, for no lower-numbered run has their key
pub the-points : {t : List ℕ} → Sound t → map (λ e. e.item) (keep (visible (same_key key_of) live (runs_of t)) (view key_of (runs_of t))) ≡ points t
the-points {t} s = visible-is (same_key-rule SoundRecord key_of) (runs-good s) (let l = length-runs_of t in let m = s.frame.most-runs in omega arith) live

-- they come in key order, no key twice
pub points-rise : {t x : List ℕ} → Accepted t x → Rises key_of (points t)
points-rise a = rising-points (reading a)

-- DEMAND 2: READING

-- get: the value of the point with that key, and absent where there is none
pub get-gives : {t x key was value : List ℕ} {n f : ℕ} → Accepted t x → Get t x key was n f value → Looked t key was n f value
get-gives a p = get-looks a p

-- seek: the first point at or above the key, and the end where there is none
pub seek-gives : {t x key c k : List ℕ} {run place n f r p : ℕ} → Accepted t x → Seek t x key c run place n f r p k → Sights t (be 8 key 0) n f r p
seek-gives a p = seek-sees a p

-- seek, and next again and again until it says the end: just the points from the key on
pub next-gives : {t x key c k : List ℕ} {run place r p : ℕ} {es : List Record} → Accepted t x → Seek t x key c run place 0 1 r p k → Steps t x k es
    → record_at (run_bytes t r) p ∷ es ≡ onward t (be 8 key 0)
next-gives a s steps = steps-are a s steps

-- seek, and page again and again until it says the end, whatever room each page has: what they wrote is the listing of the points from the key on
pub pages-give : {t x key c k bytes : List ℕ} {run place f r p : ℕ} → Accepted t x → Seek t x key c run place 0 f r p k → Paged t x k bytes
    → bytes ≡ listing (onward t (be 8 key 0))
pages-give a s pages = pages-are a s pages

-- the same from any cursor that belongs: the listing of the points from there on, which are a last part of them all
pub pages-give-onward : {t x c : List ℕ} → Accepted t x → length c ≡ 66 → belongs (run_count t) x (spot_of (cursor_in c)) ≡ true → Onward t x c
pages-give-onward a l b = pages-onward a l b

-- with 24 bytes of room each page that isn't refused writes a record or says the end, through any index
pub page-writes : {t x c out k left : List ℕ} {i : ℕ} → Page t x c out 0 1 i k left → 24 ≤ length out → 0 < i
page-writes {t} {x} {c} {out} {i = i} p l =
    let w = page-filled t x (cursor_in c) out p.paging.answers in
    let e : i ≡ (page_answer t x (cursor_in c) out).count = p.paging.counts in
    omega arith

-- no next and no page is lost
pub next-not-lost : {t x c k : List ℕ} {run place n f r p : ℕ} → Accepted t x → length c ≡ 66 → Next t x c run place n f r p k → n ≡ 10 → ⊥
next-not-lost a l p = next-never-lost a l p

pub page-not-lost : {t x c out k left : List ℕ} {n f i : ℕ} → Accepted t x → length c ≡ 66 → Page t x c out n f i k left → n ≡ 10 → ⊥
page-not-lost a l p = page-never-lost a l p

-- sheet: the points whose key begins with the prefix, in key order, and how many; or 7 where they have no room
pub sheet-gives : {t x prefix out left : List ℕ} {n f : ℕ} → Accepted t x → 1 ≤ length prefix → length prefix ≤ 8 → (get_or prefix (length prefix - 1) 0 ≡ 255 → ⊥)
    → Sheet t x prefix out n f left → Listed t prefix out n f left
sheet-gives a some most last p = sheet-lists a some most last p

pub prefixed-begin : {t x prefix : List ℕ} → Accepted t x → Bytes t → Bytes prefix → length prefix ≤ 8 → (e : Record)
    → Mem e (prefixed t prefix) ↔ (Mem e (points t) × (take (length prefix) (bytes_of 8 e.key) ≡ prefix))
unfolding prefixed
prefixed-begin {prefix = prefix} a bytes small l e = sheet-begins (reading a) bytes prefix l small e

-- DEMAND 3: WHAT IS READ BEFORE AND AFTER A CHAIN OF FOLDS

module _ {t x u y : List ℕ} (w : Unchanged t x u y) where
  -- the points are the same
  pub points-same : points u ≡ points t
  points-same = calls-visible (sound-tray w.sound) w.bytes (folds-calls w.folds)

  onward-same : (key : ℕ) → onward u key ≡ onward t key
  unfolding onward
  onward-same key = ap (keep (λ (e : Record). leb key e.key)) points-same

  pub get-same : {key was value value' : List ℕ} {n f m g : ℕ} → Get t x key was n f value → Get u y key was m g value' → (n ≡ m) × (f ≡ g) × (value ≡ value')
  get-same {key} {was} {value} {value'} {n} {f} {m} {g} p q = get-one-answer p (subst-get (get-unchanged (unchanged w) key) q)
    where
      subst-get : get_answer u y key ≡ get_answer t x key → Get u y key was m g value' → Get t x key was m g value'
      subst-get e q =
          record {
            answers = q.answers ∙ ap get_told e;
            leaving = q.leaving ∙ ap (λ (a : Value). value_left a was) e;
          }

  -- seek finds the same key and value, or the end
  pub seek-same : {key c k c' k' : List ℕ} {run place n f r p run' place' m g r' p' : ℕ} → Seek t x key c run place n f r p k → Seek u y key c' run' place' m g r' p' k'
      → (n ≡ m) × (f ≡ g) × (f ≡ 1 → record_at (run_bytes t r) p ≡ record_at (run_bytes u r') p')
  seek-same {key} s q = same-sights (onward-same (be 8 key 0)) (seek-gives w.before s) (seek-gives w.after q)

  pub next-same : {key c k c' k' : List ℕ} {run place r p run' place' r' p' : ℕ} {es es' : List Record} → Seek t x key c run place 0 1 r p k → Steps t x k es
      → Seek u y key c' run' place' 0 1 r' p' k' → Steps u y k' es' → record_at (run_bytes t r) p ∷ es ≡ record_at (run_bytes u r') p' ∷ es'
  next-same {key} s steps q steps' = next-gives w.before s steps ∙ sym (next-gives w.after q steps' ∙ onward-same (be 8 key 0))

  pub pages-same : {key c k c' k' bytes bytes' : List ℕ} {run place f r p run' place' g r' p' : ℕ} → Seek t x key c run place 0 f r p k → Paged t x k bytes
      → Seek u y key c' run' place' 0 g r' p' k' → Paged u y k' bytes' → bytes ≡ bytes'
  pages-same {key} s pages q pages' = pages-give w.before s pages ∙ sym (pages-give w.after q pages' ∙ ap listing (onward-same (be 8 key 0)))

  pub sheet-same : {prefix out left left' : List ℕ} {n f m g : ℕ} → Sheet t x prefix out n f left → Sheet u y prefix out m g left' → (n ≡ m) × (f ≡ g) × (left ≡ left')
  sheet-same {prefix} {out} p q =
      let e = one_told p.answers (q.answers ∙ ap count_told (sheet-unchanged (unchanged w) prefix (length out))) in
      (e.0, e.1, p.leaving ∙ sym (q.leaving ∙ sheet-leaves-unchanged (unchanged w) prefix out))

-- DEMAND 3: CHAINS TO ONE RUN

module _ {t : List ℕ} {k : ℕ} (bytes : Bytes t) (sound : CheckTray t 0 k) where
  -- what a chain makes is sound
  pub chain-sound : {u : List ℕ} → Folds t u → Sound u
  chain-sound c = (calls-sound (sound-tray sound) bytes (folds-calls c)).0

  -- all chains that fold a tray to one run end in the same bytes
  pub same_end : {u v : List ℕ} → Folds t u → run_count u ≡ 1 → Folds t v → run_count v ≡ 1 → u ≡ v
  same_end c one d one' = calls-meet (sound-tray sound) bytes (folds-calls c) one (folds-calls d) one'

  -- where length does not stop folding everything at once, it stops no fold of any chain,
  pub never-too-long : {out left u out' left' : List ℕ} {n f a b m g : ℕ} → Fold t 0 (run_count t - 1) out n f left → (n ≡ 12 → ⊥)
      → Folds t u → Fold u a b out' m g left' → m ≡ 12 → ⊥
  never-too-long {u = u} {out'} {left'} {a = a} {b} {g = g} p off c q z =
      let s = sound-tray sound in
      let short = not-12 s (whole-bounds s) p off in
      let long = is-12 (subst (λ (i : ℕ). Fold u a b out' i g left') z q) in
      let low = length-never-stops s bytes (folds-calls c) short long.1 in
      let high = long.2 in
      omega arith

  -- and where it does, no chain reaches one run
  pub too_long : {out left u : List ℕ} {f : ℕ} → Fold t 0 (run_count t - 1) out 12 f left → Folds t u → run_count u ≡ 1 → ⊥
  too_long p c one = length-stops (sound-tray sound) bytes (folds-calls c) (is-12 p).2 one

  -- given room, folding everything at once is refused for its length alone, and else makes one run
  pub reaches-one : {out left : List ℕ} {n f : ℕ} → Fold t 0 (run_count t - 1) out n f left → whole_size t ≤ length out → (n ≡ 12 → ⊥) → (n ≡ 0) × (run_count (take f left) ≡ 1)
  unfolding count_told
  reaches-one {out} {left} {n} {f} p room off =
      let s = sound-tray sound in
      let b = run_count t - 1 in
      let short = not-12 s (whole-bounds s) p off in
      let w = one-whole s bytes (length out) short room in
      let e = one_told p.answers (sym (ap count_told w.0)) in
      let is : take f left ≡ whole_bytes t =
      ap₂ (λ (i : ℕ) (l : List ℕ). take i l) e.1 (p.leaving ∙ ap (fold_leaves t 0 b out) w.0) ∙ (fold-leaves-written t 0 b out (whole_size t) w.0).front in
      (e.0, ap run_count is ∙ sym (length-runs_of (whole_bytes t)) ∙ ap length w.1)

-- DEMAND 3: WHAT ADDS NOTHING

-- two neighbours a and a + 1 of a sound tray folded, with room: the tray without run i, and what is read of it is the same
pub record Adds-nothing (t : List ℕ) (a i : ℕ) : Type 0 where
  -- the tray without run i is sound,
  pub sound : Sound (without_run i t)
  -- it is what the fold writes,
  pub writes : {out left : List ℕ} {n f : ℕ} → Fold t a (suc a) out n f left → length (without_run i t) ≤ length out → (n ≡ 0) × (take f left ≡ without_run i t)
  -- and it has the same points
  pub reads : points (without_run i t) ≡ points t

adds : {t : List ℕ} {a i : ℕ} → AddsNothing t a i → Adds-nothing t a i
unfolding count_told
adds {t} {a} {i} w =
    record {
      sound = w.removed.sound;
      writes = λ {out} {left} {n} {f} p room.
          let size : fold_size a (suc a) (runs_of t) ≡ length (without_run i t) = sym (length-fold_bytes a (suc a) (runs_of t)) ∙ ap length w.folds in
          let is = (fold-written t a (suc a) (length out) (fold_size a (suc a) (runs_of t))).1
          (w.foldable.sound, w.foldable.bounds, w.foldable.short, subst (λ (k : ℕ). k ≤ length out) (sym size) room, refl) in
          let e = one_told p.answers (sym (ap count_told is)) in (
            e.0,
            ap₂ (λ (j : ℕ) (l : List ℕ). take j l) e.1 (p.leaving ∙ ap (fold_leaves t a (suc a) out) is)
                ∙ (fold-leaves-written t a (suc a) out (fold_size a (suc a) (runs_of t)) is).front ∙ w.folds,
          );
      reads = ap (keep live) w.merge;
    }

module _ {t : List ℕ} {k : ℕ} (bytes : Bytes t) (sound : CheckTray t 0 k) where
  -- an empty run, folded with the run after it or before it
  pub empty-adds-nothing : (r : ℕ) → r < run_count t → count_of t r ≡ 0 → (suc r < run_count t → Adds-nothing t r r) × ((a : ℕ) → r ≡ suc a → Adds-nothing t a r)
  empty-adds-nothing r l e = let w = empty-run (sound-tray sound) bytes r l e in (λ more. adds (w.0 more), λ a z. adds (w.1 a z))

  -- an older neighbour that is a copy
  pub copy-adds-nothing : (a : ℕ) → suc a < run_count t → run_bytes t (suc a) ≡ run_bytes t a → Adds-nothing t a (suc a)
  copy-adds-nothing a l e =
      let s = sound-tray sound in
      let low : a < run_count t = omega arith in
      adds (older-copy s bytes a l (same_bytes s bytes (suc a) a l low e))
