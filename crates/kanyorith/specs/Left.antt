-- What page and sheet leave in the output, for every index.
--     page-kept            page leaves its records in front, and past them what was there
--     refused-page         a page that is refused by another number than 10 has written nothing
--     page-filled          a page that stays at a record has less than 24 bytes left
--     listed-behind        sheet leaves its listing in front, and past it what was there
use Rattle.std.proofs.Math.Path.{◌≡◌, refl, ap}
use Rattle.std.proofs.Common.{sym, ◌∙◌, zero-le, zero-add, arith}
use Rattle.std.specs.Prelude.{ℕ, ◌+◌, ◌*◌, ◌≤◌, ◌<◌, Bool, cond, List, drop}
use Rattle.std.proofs.Math.Bool.{true, false}
use Rattle.std.proofs.Math.ListN.{length}
use Rattle.number.proofs.Big.Writes.{length-put, drop-put}
use Rattle.refusal.specs.declared.Refusal.{Refusal}
use Rattle.refusal.specs.declared.Refusal.TheVariants.{TrayFrame, IndexFrame, Cursor as NotBelonging}
use Rattle.refusal.specs.declared.Verdict.{Verdict}
use Rattle.refusal.specs.Table.{told, verdict_of}
use Rattle.theory.specs.Records.{Record}
use Rattle.theory.specs.Tests.{never}
use Rattle.tray.specs.Frame.{run_count, framed}
use Rattle.index.specs.Layout.{index_framed}
use Rattle.walk.specs.declared.cursor.Cursor.{Cursor}
use Rattle.walk.specs.Walk.{Spot, Walked, stayed, ended, lost}
use Rattle.walk.specs.Reads.{Written, belongs, page, sheet}
use Rattle.walk.specs.Reads.Page.{listing}
use Rattle.walk.proofs.ReadsLaws.Page.{length-listing}
use Rattle.walk.specs.Code.{spot_of}
use Rattle.answers.specs.Quick.{in_frames}
use Rattle.answers.specs.declared.Paged.{Paged}
use Rattle.answers.specs.Page.{refused_page, page_told as page_by, page_left, page_framed, left_framed, page_answer, page_leaves}
use Rattle.answers.specs.Sheet.{records_of, sheet_answer, sheet_leaves}
use Rattle.theorems.specs.Told.{page_told, count_told}
use Rattle.theorems.specs.Told.Laws.{refused-above, count-zero}
use Rattle.theorems.specs.Exactly.Quick.{Lists, to-bound, to_end, SheetSays, sheet-1, sheet-4, sheet-8, sheet-9, sheet-10, sheet-7, sheet-0}
use Rattle.theorems.proofs.Exactly.Quick.{sheet-exactly}
use Rattle.kanyorith.specs.Walks.{Ends, at-stay, at-end, at-loss, Kept, Filled, page-holds}

module _ (t x : List ℕ) (c : Cursor) (out : List ℕ) where
  -- a page is refused before it walks, or it walks
  data Path : Paged → List ℕ → Type 0 where
    at_once : (r : Refusal) → Path (refused_page r) out
    walks : Path (page_by x (page t x (spot_of c) out)) (page_left (page t x (spot_of c) out))

  path : Path (page_answer t x c out) (page_leaves t x c out)
  unfolding page_answer page_leaves page_framed left_framed in_frames
  path = go (framed t) (index_framed (run_count t) x) (belongs (run_count t) x (spot_of c))
    where
      go : (f i b : Bool)
          → Path
          (cond f (cond i (cond b (page_by x (page t x (spot_of c) out)) (refused_page (NotBelonging c.segment.0))) (refused_page IndexFrame)) (refused_page TrayFrame))
          (cond f (cond i (cond b (page_left (page t x (spot_of c) out)) out) out) out)
      go false i b = at_once TrayFrame
      go true false b = at_once IndexFrame
      go true true false = at_once (NotBelonging c.segment.0)
      go true true true = walks

  -- what is written, and what stands after it
  pub record Holds (p : Paged) (left : List ℕ) : Type 0 where
    pub fits : 24 * p.count ≤ length out
    pub long : length left ≡ length out
    pub behind : drop (24 * p.count) left ≡ drop (24 * p.count) out

  walked-holds : {w : Walked Written (Written × Spot)} → Ends (Kept out) (λ (r : Written × Spot). Filled out r.0) w → Holds (page_by x w) (page_left w)
  unfolding page_by page_left
  walked-holds (at-stay f) = record { fits = f.kept.fits; long = f.kept.long; behind = f.kept.behind }
  walked-holds (at-end k) = record { fits = k.fits; long = k.long; behind = k.behind }
  walked-holds (at-loss k) = record { fits = k.fits; long = k.long; behind = k.behind }

  path-holds : {p : Paged} {left : List ℕ} → Path p left → Holds p left
  path-holds (at_once r) = record { fits = zero-le; long = refl; behind = refl }
  path-holds walks = walked-holds (page-holds t x (spot_of c) out)

  pub page-kept : Holds (page_answer t x c out) (page_leaves t x c out)
  page-kept = path-holds path

  -- a page refused by another number than 10 has written nothing
  walked-refused : (w : Walked Written (Written × Spot)) {n f : ℕ} → told n f ≡ page_told (page_by x w).rest → 0 < n → (n ≡ 10 → ⊥)
      → ((page_by x w).count ≡ 0) × (page_left w ≡ out)
  unfolding page_by page_told
  walked-refused (stayed w) {n} e l off = let z : n ≡ 0 = ap (λ (v : Verdict). v.number) e in absurd (omega arith)
  walked-refused (ended w) {n} e l off = let z : n ≡ 0 = ap (λ (v : Verdict). v.number) e in absurd (omega arith)
  walked-refused (lost g s w) e l off = absurd (off (ap (λ (v : Verdict). v.number) e))

  path-refused : {p : Paged} {left : List ℕ} {n f : ℕ} → Path p left → told n f ≡ page_told p.rest → 0 < n → (n ≡ 10 → ⊥) → (p.count ≡ 0) × (left ≡ out)
  path-refused (at_once r) e l off = (refl, refl)
  path-refused walks e l off = walked-refused (page t x (spot_of c) out) e l off

  pub refused-page : {n f : ℕ} → told n f ≡ page_told (page_answer t x c out).rest → 0 < n → (n ≡ 10 → ⊥)
      → ((page_answer t x c out).count ≡ 0) × (page_leaves t x c out ≡ out)
  refused-page e l off = path-refused path e l off

  -- a page that stays at a record has less than 24 bytes left
  walked-filled : {w : Walked Written (Written × Spot)} → Ends (Kept out) (λ (r : Written × Spot). Filled out r.0) w
      → told 0 1 ≡ page_told (page_by x w).rest → length out < 24 * (page_by x w).count + 24
  unfolding page_by page_told
  walked-filled (at-stay f) e = f.full
  walked-filled (at-end k) e = let z : ◌≡◌ {A = ℕ} 1 0 = ap (λ (v : Verdict). v.figure) e in absurd (omega arith)
  walked-filled (at-loss k) e = let z : ◌≡◌ {A = ℕ} 0 10 = ap (λ (v : Verdict). v.number) e in absurd (omega arith)

  path-filled : {p : Paged} {left : List ℕ} → Path p left → told 0 1 ≡ page_told p.rest → length out < 24 * p.count + 24
  unfolding page_told
  path-filled (at_once r) e = let l = refused-above r in let z : 0 ≡ (verdict_of r).number = ap (λ (v : Verdict). v.number) e in absurd (omega arith)
  path-filled walks e = walked-filled (page-holds t x (spot_of c) out) e

  pub page-filled : told 0 1 ≡ page_told (page_answer t x c out).rest → length out < 24 * (page_answer t x c out).count + 24
  page-filled e = path-filled path e

-- sheet leaves its listing in front
module _ (t x prefix out : List ℕ) where
  -- the records that it lists
  lists-records : {es : List Record} → Lists t x prefix (length out) es → records_of (sheet t x prefix) ≡ es
  unfolding records_of
  lists-records (to-bound e) = ap records_of e
  lists-records (to_end e) = ap records_of e

  -- have room, and are as many as it says
  listed-room : {m n : ℕ} → SheetSays t x prefix (length out) m n → m ≡ 0 → (24 * n ≤ length out) × (n ≡ length (records_of (sheet t x prefix)))
  listed-room (sheet-1 w) z = never (cc)
  listed-room (sheet-4 f w) z = never (cc)
  listed-room (sheet-8 f w) z = never (cc)
  listed-room (sheet-9 f a b e) z = never (cc)
  listed-room (sheet-10 f p g s es e) z = never (cc)
  listed-room (sheet-7 f p es w l) z = never (cc)
  listed-room (sheet-0 f p es w l) z = (l, sym (ap length (lists-records w)))

  pub listed-behind : (n : ℕ) → told 0 n ≡ count_told (sheet_answer t x prefix (length out))
      → (length (sheet_leaves t x prefix out (sheet_answer t x prefix (length out))) ≡ length out)
      × (drop (24 * n) (sheet_leaves t x prefix out (sheet_answer t x prefix (length out))) ≡ drop (24 * n) out)
  unfolding sheet_leaves
  listed-behind n e =
      let es = records_of (sheet t x prefix) in
      let w = listed-room ((sheet-exactly t x prefix (length out) 0 n).0 e) refl in
      let size : length (listing es) ≡ 24 * n = length-listing es ∙ ap (λ (k : ℕ). 24 * k) (sym w.1) in
      let fits : 0 + length (listing es) ≤ length out = omega (arith, w.0) in
      rw (count-zero (sheet_answer t x prefix (length out)) e)
      (length-put out 0 (listing es) fits, (rw (zero-add, size) at (drop-put out 0 (listing es) zero-le)))
