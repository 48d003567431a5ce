-- What each public call promises: which number and figure it answers, and what stands in each of its outputs afterwards, for every input, by one
-- definition of the answer for each call. An output that a call does not write is as it was.
use Rattle.std.specs.Prelude.{ℕ, ◌≡◌, List, length, Result, Ok, Err, Some, None}
use Rattle.refusal.specs.Table.{told}
use Rattle.tray.specs.Check.{check_tray_answer}
use Rattle.index.specs.Check.{check_index_answer}
use Rattle.build_spec.specs.Build.{build_answer, build_leaves}
use Rattle.fold_spec.specs.Fold.{fold_answer, fold_leaves}
use Rattle.refusal.specs.declared.Refusal.{Refusal}
use Rattle.answers.specs.declared.Stand.{Stand}
use Rattle.answers.specs.declared.Stand.TheVariants.{Found, End}
use Rattle.answers.specs.declared.Rest.{Rest}
use Rattle.answers.specs.declared.Rest.TheVariants.{More, End as RestEnd}
use Rattle.answers.specs.declared.Paged.{Paged}
use Rattle.answers.specs.Get.{Value, get_answer}
use Rattle.answers.specs.Seek.{seek_answer}
use Rattle.answers.specs.Next.{next_answer}
use Rattle.answers.specs.Page.{page_answer, page_leaves}
use Rattle.answers.specs.Sheet.{sheet_answer, sheet_leaves}
use Rattle.theorems.specs.Told.{count_told, get_told, seek_told, page_told}
use Rattle.theorems.specs.Cursors.{cursor_in, cursor_numbers}

-- check tray
pub record CheckTray (tray : List ℕ) (number figure : ℕ) : Type 0 where
  pub answers : told number figure ≡ count_told (check_tray_answer tray)

-- check index
pub record CheckIndex (tray index : List ℕ) (number figure : ℕ) : Type 0 where
  pub answers : told number figure ≡ count_told (check_index_answer tray index)

-- build: from `out` on entry to `left`
pub record Build (tray : List ℕ) (d : ℕ) (out : List ℕ) (number figure : ℕ) (left : List ℕ) : Type 0 where
  pub answers : told number figure ≡ count_told (build_answer tray d (length out))
  pub leaving : left ≡ build_leaves tray d out (build_answer tray d (length out))

-- a value that get leaves: the record's where it was found, and else what was there
unfoldable pub value_left : Value → List ℕ → List ℕ
value_left (Ok (Some value)) was = value
value_left (Ok None) was = was
value_left (Err r) was = was

-- get
pub record Get (tray index key was : List ℕ) (number figure : ℕ) (value : List ℕ) : Type 0 where
  pub answers : told number figure ≡ get_told (get_answer tray index key)
  pub leaving : value ≡ value_left (get_answer tray index key) was

-- what seek and next leave: run and place where a record was found, and the cursor unless they are refused; else what was there
unfoldable pub run_left : Result Stand Refusal → ℕ → ℕ
run_left (Ok (Found run place c)) was = run.0
run_left (Ok (End c)) was = was
run_left (Err r) was = was

unfoldable pub place_left : Result Stand Refusal → ℕ → ℕ
place_left (Ok (Found run place c)) was = place.0
place_left (Ok (End c)) was = was
place_left (Err r) was = was

unfoldable pub cursor_left : Result Stand Refusal → List ℕ → List ℕ
cursor_left (Ok (Found run place c)) was = cursor_numbers c
cursor_left (Ok (End c)) was = cursor_numbers c
cursor_left (Err r) was = was

-- an answer of seek or next, from the run, place and cursor on entry to those that are left
pub record Sought (answer : Result Stand Refusal) (run place : ℕ) (cursor : List ℕ) (number figure run' place' : ℕ) (cursor' : List ℕ) : Type 0 where
  pub answers : told number figure ≡ seek_told answer
  pub run-left : run' ≡ run_left answer run
  pub place-left : place' ≡ place_left answer place
  pub cursor-left : cursor' ≡ cursor_left answer cursor

-- seek
pub record Seek (tray index key cursor : List ℕ) (run place number figure run' place' : ℕ) (cursor' : List ℕ) : Type 0 where
  pub sought : Sought (seek_answer tray index key) run place cursor number figure run' place' cursor'

-- next, from the cursor on entry
pub record Next (tray index cursor : List ℕ) (run place number figure run' place' : ℕ) (cursor' : List ℕ) : Type 0 where
  pub sought : Sought (next_answer tray index (cursor_in cursor)) run place cursor number figure run' place' cursor'

-- the cursor that page leaves
unfoldable pub page_cursor_left : Result Rest Refusal → List ℕ → List ℕ
page_cursor_left (Ok (More c)) was = cursor_numbers c
page_cursor_left (Ok (RestEnd c)) was = cursor_numbers c
page_cursor_left (Err f) was = was

-- an answer of page, from the cursor on entry to the one that is left, where page leaves `leaves` in the output
pub record Paging (answer : Paged) (leaves cursor : List ℕ) (number figure count : ℕ) (cursor' left : List ℕ) : Type 0 where
  pub answers : told number figure ≡ page_told answer.rest
  pub counts : count ≡ answer.count
  pub cursor-left : cursor' ≡ page_cursor_left answer.rest cursor
  pub leaving : left ≡ leaves

-- page, from the cursor on entry
pub record Page (tray index cursor out : List ℕ) (number figure count : ℕ) (cursor' left : List ℕ) : Type 0 where
  pub paging :
      Paging (page_answer tray index (cursor_in cursor) out) (page_leaves tray index (cursor_in cursor) out) cursor number figure count cursor' left

-- sheet
pub record Sheet (tray index prefix out : List ℕ) (number figure : ℕ) (left : List ℕ) : Type 0 where
  pub answers : told number figure ≡ count_told (sheet_answer tray index prefix (length out))
  pub leaving : left ≡ sheet_leaves tray index prefix out (sheet_answer tray index prefix (length out))

-- fold
pub record Fold (tray : List ℕ) (a b : ℕ) (out : List ℕ) (number figure : ℕ) (left : List ℕ) : Type 0 where
  pub answers : told number figure ≡ count_told (fold_answer tray a b (length out))
  pub leaving : left ≡ fold_leaves tray a b out (fold_answer tray a b (length out))
