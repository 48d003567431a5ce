-- Each way out of a public call, as its promise.
--     tray-.., index-.., build-.., get-.., sheet-.., fold-..     by the call
--     sought-.., seek-is, next-is                                seek and next
--     page-..                                                    page
use Rattle.std.specs.Prelude.{◌≡◌, refl, ℕ, List, length, Ok, Err, Result, Some, None}
use Rattle.std.proofs.Common.{sym, ap₂, ◌∙◌}
use Rattle.std.proofs.Math.Path.{ap}
use Rattle.refusal.specs.declared.Refusal.{Refusal}
use Rattle.refusal.specs.Table.{told, verdict_of}
use Rattle.tray.specs.declared.RunNo.{RunNo}
use Rattle.tray.specs.declared.Place.{Place}
use Rattle.tray.specs.Check.{check_tray_answer}
use Rattle.index.specs.Check.{check_index_answer}
use Rattle.build_spec.specs.Build.{build_answer, build_leaves}
use Rattle.fold_spec.specs.Fold.{fold_answer, fold_leaves}
use Rattle.walk.specs.declared.cursor.Cursor.{Cursor}
use Rattle.answers.specs.declared.Stand.{Stand}
use Rattle.answers.specs.declared.Stand.TheVariants.{Found, End}
use Rattle.answers.specs.declared.Rest.{Rest}
use Rattle.answers.specs.declared.Rest.TheVariants.{More, End as RestEnd}
use Rattle.answers.specs.declared.Paged.{Paged}
use Rattle.answers.specs.Get.{Value, get_answer}
use Rattle.answers.specs.Sheet.{sheet_answer, sheet_leaves}
use Rattle.theorems.specs.Told.{count_told, get_told, seek_told, page_told}
use Rattle.theorems.specs.Cursors.{cursor_numbers}
use Rattle.kanyorith.specs.Promises.{CheckTray, CheckIndex, Build, value_left, Get, run_left, place_left, cursor_left, Sought, page_cursor_left, Paging, Sheet, Fold}
use Rattle.theorems.specs.Wide.{narrowed, owned, build-owned, build-left, fold-owned, fold-left}

pub tray-told : {t : List ℕ} {a : Result ℕ Refusal} {n f : ℕ} → a ≡ check_tray_answer t → told n f ≡ count_told a → CheckTray t n f
tray-told is v = record { answers = v ∙ ap count_told is }

pub index-told : {t x : List ℕ} {a : Result ℕ Refusal} {n f : ℕ} → a ≡ check_index_answer t x → told n f ≡ count_told a → CheckIndex t x n f
index-told is v = record { answers = v ∙ ap count_told is }

-- build, with a wide D
module _ (t : List ℕ) (d : ℕ) (out : List ℕ) where
  pub build-answered : {left : List ℕ} {a : Result ℕ Refusal} {e n f : ℕ} → e ≡ narrowed d → a ≡ build_answer t e (length out) → left ≡ build_leaves t e out a
      → told n f ≡ owned 6 d (count_told a) → Build t d out n f left
  build-answered {e = e} same is l v =
      record {
        answers = v ∙ ap (λ (b : Result ℕ Refusal). owned 6 d (count_told b)) (is ∙ ap (λ (k : ℕ). build_answer t k (length out)) same) ∙ sym (build-owned t d (length out));
        leaving = l ∙ ap (build_leaves t e out) is ∙ ap (λ (k : ℕ). build_leaves t k out (build_answer t k (length out))) same ∙ sym (build-left t d (length out) out);
      }

-- fold, with wide runs
module _ (t : List ℕ) (a b : ℕ) (out : List ℕ) where
  pub fold-answered : {left : List ℕ} {x : Result ℕ Refusal} {i k n f : ℕ} → i ≡ narrowed a → k ≡ narrowed b → x ≡ fold_answer t i k (length out)
      → left ≡ fold_leaves t i k out x → told n f ≡ owned 8 b (count_told x) → Fold t a b out n f left
  fold-answered {i = i} {k = k} p q is l v =
      record {
        answers =
            v
            ∙ ap (λ (y : Result ℕ Refusal). owned 8 b (count_told y)) (is ∙ ap₂ (λ (j m : ℕ). fold_answer t j m (length out)) p q)
            ∙ sym (fold-owned t a b (length out));
        leaving =
            l
            ∙ ap (fold_leaves t i k out) is
            ∙ ap₂ (λ (j m : ℕ). fold_leaves t j m out (fold_answer t j m (length out))) p q
            ∙ sym (fold-left t a b (length out) out);
      }

-- get
module _ (t x key was : List ℕ) where
  get-by : {g a : Value} {n f : ℕ} {v : List ℕ} → g ≡ get_answer t x key → g ≡ a → told n f ≡ get_told a → v ≡ value_left a was → Get t x key was n f v
  get-by is e p q =
      let same = sym e ∙ is in
      record { answers = p ∙ ap get_told same; leaving = q ∙ ap (λ (h : Value). value_left h was) same }

  pub get-found : {g : Value} {v : List ℕ} → g ≡ get_answer t x key → g ≡ Ok (Some v) → Get t x key was 0 1 v
  unfolding get_told value_left
  get-found is e = get-by is e refl refl

  pub get_absent : {g : Value} → g ≡ get_answer t x key → g ≡ Ok None → Get t x key was 0 0 was
  unfolding get_told value_left
  get_absent is e = get-by is e refl refl

  pub get_refused : {g : Value} {r : Refusal} {n f : ℕ} → g ≡ get_answer t x key → g ≡ Err r → told n f ≡ verdict_of r → Get t x key was n f was
  unfolding get_told value_left
  get_refused is e v = get-by is e v refl

-- sheet
pub sheet-answered : (t x prefix out : List ℕ) {left : List ℕ} {a : Result ℕ Refusal} {n f : ℕ} → a ≡ sheet_answer t x prefix (length out)
    → left ≡ sheet_leaves t x prefix out a → told n f ≡ count_told a → Sheet t x prefix out n f left
sheet-answered t x prefix out is l v = record { answers = v ∙ ap count_told is; leaving = l ∙ ap (sheet_leaves t x prefix out) is }

-- seek and next
module _ {s : Result Stand Refusal} {run place : ℕ} {cursor : List ℕ} where
  sought-by : {a : Result Stand Refusal} {n f r p : ℕ} {k : List ℕ} → s ≡ a → told n f ≡ seek_told a → r ≡ run_left a run → p ≡ place_left a place → k ≡ cursor_left a cursor
      → Sought s run place cursor n f r p k
  sought-by e v r p k =
      record {
        answers = v ∙ ap seek_told (sym e);
        run-left = r ∙ ap (λ (a : Result Stand Refusal). run_left a run) (sym e);
        place-left = p ∙ ap (λ (a : Result Stand Refusal). place_left a place) (sym e);
        cursor-left = k ∙ ap (λ (a : Result Stand Refusal). cursor_left a cursor) (sym e);
      }

  pub sought-found : {n : RunNo} {p : Place} {c : Cursor} {cursor' : List ℕ} → s ≡ Ok (Found n p c) → cursor' ≡ cursor_numbers c
      → Sought s run place cursor 0 1 n.0 p.0 cursor'
  unfolding seek_told run_left place_left cursor_left
  sought-found e k = sought-by e refl refl refl k

  pub sought-end : {c : Cursor} {cursor' : List ℕ} → s ≡ Ok (End c) → cursor' ≡ cursor_numbers c → Sought s run place cursor 0 0 run place cursor'
  unfolding seek_told run_left place_left cursor_left
  sought-end e k = sought-by e refl refl refl k

  pub sought-refused : {r : Refusal} {n f : ℕ} → s ≡ Err r → told n f ≡ verdict_of r → Sought s run place cursor n f run place cursor
  unfolding seek_told run_left place_left cursor_left
  sought-refused e v = sought-by e v refl refl refl

-- page
module _ {p : Paged} {leaves cursor left : List ℕ} (l : left ≡ leaves) where
  page-by : {a : Result Rest Refusal} {n f : ℕ} {k : List ℕ} → p.rest ≡ a → told n f ≡ page_told a → k ≡ page_cursor_left a cursor → Paging p leaves cursor n f p.count k left
  page-by e v k =
      record {
        answers = v ∙ ap page_told (sym e);
        counts = refl;
        cursor-left = k ∙ ap (λ (a : Result Rest Refusal). page_cursor_left a cursor) (sym e);
        leaving = l;
      }

  pub page-more : {c : Cursor} {cursor' : List ℕ} → p.rest ≡ Ok (More c) → cursor' ≡ cursor_numbers c → Paging p leaves cursor 0 1 p.count cursor' left
  unfolding page_told page_cursor_left
  page-more e k = page-by e refl k

  pub page-end : {c : Cursor} {cursor' : List ℕ} → p.rest ≡ Ok (RestEnd c) → cursor' ≡ cursor_numbers c → Paging p leaves cursor 0 0 p.count cursor' left
  unfolding page_told page_cursor_left
  page-end e k = page-by e refl k

  pub page-refused : {r : Refusal} {n f : ℕ} → p.rest ≡ Err r → told n f ≡ verdict_of r → Paging p leaves cursor n f p.count cursor left
  unfolding page_told page_cursor_left
  page-refused e v = page-by e v refl
