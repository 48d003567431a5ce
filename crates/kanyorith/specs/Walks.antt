-- What holds along any walk, whatever the index says: a property of its state that each visit keeps holds where the walk ends or is lost, and where
-- it stays its answer was made from such a state.
--     Visited, Ends             a visit, and the end of a walk
--     walk_ends                 so every walk from a spot ends
--     Kept, Filled, page-holds  page: past the records written the output is as it was; it stays where less than 24 bytes remain
use Rattle.std.specs.Prelude.{◌≡◌, refl, List, length, drop, eqb, leb, ltb}
use Rattle.std.proofs.Common.{sym, ap, ◌∙◌, arith, drop-drop, leb-true, leb-false}
use Rattle.std.proofs.Math.Path.{subst}
use Prim.Native.Nat.{ℕ, zero, suc, ◌+◌, ◌-◌, ◌*◌, ◌≤◌, ◌<◌, zero-le}
use Rattle.number.proofs.Big.Writes.{length-put, drop-put}
use Rattle.theory.specs.Records.{Record}
use Rattle.theory.specs.Tests.{split}
use Rattle.tray.specs.Frame.{run_count}
use Rattle.index.specs.Layout.{size_of, segment_count}
use Rattle.index.specs.Scan.{run_in, raise}
use Rattle.walk.specs.Walk.{Spot, Visit, stay, go, Walked, stayed, ended, lost, selector_at, loaded, named, walk_selectors, walk_segments, walk_from}
use Rattle.walk.specs.Code.{after-visit, one-selector}
use Rattle.walk.specs.Reads.{Written, listed_bytes, write, record_by, unmarked, page_visit, page}
use Rattle.walk.proofs.ReadsLaws.Page.{length-listed}

-- a visit that keeps Q, or stays with P
pub data Visited {S R : Type 0} (Q : S → Type 0) (P : R → Type 0) : Visit S R → Type 0 where
  stays : {r : R} → P r → Visited Q P (stay r)
  goes : {st : S} → Q st → Visited Q P (go st)

-- a walk that ends so
pub data Ends {S R : Type 0} (Q : S → Type 0) (P : R → Type 0) : Walked S R → Type 0 where
  at-stay : {r : R} → P r → Ends Q P (stayed r)
  at-end : {st : S} → Q st → Ends Q P (ended st)
  at-loss : {g s : ℕ} {st : S} → Q st → Ends Q P (lost g s st)

after-ends : {S R : Type 0} {Q : S → Type 0} {P : R → Type 0} {w : Visit S R} → Visited Q P w → (on : S → Walked S R) → ((st : S) → Q st → Ends Q P (on st))
    → Ends Q P (after-visit w on)
unfolding after-visit
after-ends (stays p) on later = at-stay p
after-ends (goes {st} q) on later = later st q

module _ {S R : Type 0} (t x : List ℕ) (visit : ℕ → Spot → S → Visit S R) (Q : S → Type 0) (P : R → Type 0)
    (keeps : (v : ℕ) (c : Spot) (st : S) → Q st → Visited Q P (visit v c st)) where
  selectors-end : (k g s : ℕ) (places : List ℕ) (st : S) (rest : S → Walked S R) → Q st → ((st' : S) → Q st' → Ends Q P (rest st'))
      → Ends Q P (walk_selectors t x visit k g s places st rest)
  unfolding walk_selectors after-visit
  selectors-end zero g s places st rest q later = later st q
  selectors-end (suc k) g s places st rest q later =
      subst (Ends Q P) (sym (one-selector t x visit k g s places st rest))
      (split (Ends Q P) (eqb v 63)
      (λ y. selectors-end k g (s + 1) places st rest q later)
      (λ n. split (Ends Q P) (named t places v)
      (λ y. after-ends (keeps v spot st q) _ (λ st' q'. selectors-end k g (s + 1) (raise places (run_in v)) st' rest q' later))
      (λ n. at-loss q)))
    where
      v : ℕ
      v = selector_at (run_count t) x g s

      spot : Spot
      spot = record { segment = g; selector = s; places = places }

  segments-end : (k g : ℕ) (st : S) → Q st → Ends Q P (walk_segments t x visit k g st)
  unfolding walk_segments
  segments-end zero g st q = at-end q
  segments-end (suc k) g st q =
      selectors-end (size_of x) g 0 (loaded (run_count t) x g) st (walk_segments t x visit k (g + 1)) q (λ st' q'. segments-end k (g + 1) st' q')

  pub walk_ends : (c : Spot) (st : S) → Q st → Ends Q P (walk_from t x visit c st)
  unfolding walk_from
  walk_ends c st q =
      split (Ends Q P) (ltb c.segment (segment_count x))
      (λ y. selectors-end (size_of x - c.selector) c.segment c.selector c.places st
      (walk_segments t x visit (segment_count x - (c.segment + 1)) (c.segment + 1)) q (λ st' q'. segments-end (segment_count x - (c.segment + 1)) (c.segment + 1) st' q'))
      (λ n. at-end q)

-- what a page has done so far: the output is as long as it was, and the same past its records, which fit
pub record Kept (out : List ℕ) (w : Written) : Type 0 where
  pub fits : 24 * w.count ≤ length out
  pub long : length w.out ≡ length out
  pub behind : drop (24 * w.count) w.out ≡ drop (24 * w.count) out

-- where it stays, less than 24 bytes remain
pub record Filled (out : List ℕ) (w : Written) : Type 0 where
  pub kept : Kept out w
  pub full : length out < 24 * w.count + 24

keeps-written : (out : List ℕ) (e : Record) (w : Written) → 24 * w.count + 24 ≤ length w.out → Kept out w → Kept out (write e w)
unfolding write
keeps-written out e w l k =
    let n = 24 * w.count in
    let size : length (listed_bytes e) ≡ 24 = length-listed e in
    let same : length w.out ≡ length out = k.long in
    let next : 24 * (w.count + 1) ≡ n + length (listed_bytes e) = omega arith in
    record {
      fits = omega arith;
      long = length-put w.out n (listed_bytes e) (omega arith) ∙ k.long;
      behind =
          rw next (drop-put w.out n (listed_bytes e) (omega arith)
          ∙ sym (drop-drop (length (listed_bytes e)) n w.out)
          ∙ ap (drop (length (listed_bytes e))) k.behind
          ∙ drop-drop (length (listed_bytes e)) n out);
    }

page-keeps : (t out : List ℕ) (v : ℕ) (c : Spot) (w : Written) → Kept out w → Visited (Kept out) (λ (r : Written × Spot). Filled out r.0) (page_visit t v c w)
unfolding page_visit
page-keeps t out v c w k =
    split (Visited (Kept out) (λ (r : Written × Spot). Filled out r.0)) (unmarked v)
    (λ y. split (Visited (Kept out) (λ (r : Written × Spot). Filled out r.0)) (leb (24 * w.count + 24) (length w.out))
    (λ room. goes (keeps-written out (record_by t v c) w (leb-true _ _ room) k))
    (λ full. stays (record { kept = k; full = let a = leb-false (24 * w.count + 24) (length w.out) full in let b = k.long in omega arith })))
    (λ n. goes k)

pub page-holds : (t x : List ℕ) (c : Spot) (out : List ℕ) → Ends (Kept out) (λ (r : Written × Spot). Filled out r.0) (page t x c out)
unfolding page
page-holds t x c out =
    walk_ends t x (page_visit t) (Kept out) (λ (r : Written × Spot). Filled out r.0) (page-keeps t out) c (record { count = 0; out = out })
    (record { fits = zero-le; long = refl; behind = refl })
