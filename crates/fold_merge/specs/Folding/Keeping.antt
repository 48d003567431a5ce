-- What the code of the merge needs: each law is a way out of a function, or a turn of its loop.
--     noted-room, noted-full, noted-at              a record noted
--     fresh-first, fresh-other                      whether its key is new
--     start-low, stands_at, record-in               where it stands in the tray
--     Merging, merging-none, -more, -less, -end, -low     the records so far
use Rattle.std.specs.Prelude.{◌≡◌, refl, cond, take, drop, set, ltb}
use Rattle.std.proofs.Math.Path.{sym, ap, subst}
use Rattle.std.proofs.Common.{◌∙◌, add_assoc, add-zero, add-one, take-append-drop, get_or-take, get_or-drop, take-suc-set, take_all}
use Rattle.std.proofs.Math.Logic.{⊎_elim}
use Prim.Native.Nat.{ℕ, zero, suc, ◌+◌, ◌-◌, ◌*◌, ◌≤◌, ◌<◌}
use native.Mathlib.Omega.{arith}
use Rattle.std.proofs.Math.Bool.{Bool, false}
use mir.Val.{bool_byte}
use mathlib.Core.List.Memᴰ
use mathlib.Core.List.{List, [], ◌∷◌, ◌++◌, map, map-append, append_assoc, append-nil}
use Rattle.std.proofs.Math.ListN.{length, get_or, length-set, length-append}
use Rattle.std.proofs.lemmas.List.{length-map, take-set-le, take-append-le}
use Rattle.std.proofs.Math.Dec.{eqb}
use borrow.Author.Tests.{lt-ltb, le-ltb, ltb-true, ltb-false, eq-eqb, ne_eqb}
use Rattle.number.proofs.Big.Laws.{be-part}
use Rattle.theory.specs.Tests.{cases}
use Rattle.theory.specs.Lists.{all_nil}
use Rattle.theory.specs.Rising.{Mem, All}
use Rattle.theory.specs.Records.{Record}
use Rattle.tray.specs.Frame.{run_count, count_of, records_before, start_of, run_bytes, Framed}
use Rattle.tray.specs.Frame.Laws.{start_of-next, start_of-within}
use Rattle.tray.specs.Run.{record_from, record_at}
use Rattle.tray.specs.Check.{Sound}
use Rattle.tray.specs.Meaning.{runs_of, Fits}
use Rattle.index.specs.Scan.{next_in, raise}
use Rattle.index.specs.Scan.Code.{Reading}
use Rattle.merge_lead.specs.Heads.Leads.{NextRun, NoRun}
use Rattle.fold_merge.specs.Folding.{merge_left, merge_from, new_from, left_to, next_at, noted, Noted}
use Rattle.fold_merge.specs.Folding.Left.{next-key, merge-next, merge-pass, merge-end, merge-all, next_low, left_less}

pub noted-room : (kept : List ℕ) (n at : ℕ) → n < 4096 → set kept n at ≡ noted kept n at
unfolding noted
noted-room kept n at l = rw (lt-ltb n 4096 l)

pub noted-full : (kept : List ℕ) (n at : ℕ) → 4096 ≤ n → kept ≡ noted kept n at
unfolding noted
noted-full kept n at l = rw (le-ltb n 4096 l)

length-noted : (kept : List ℕ) (n at : ℕ) → length (noted kept n at) ≡ length kept
length-noted kept n at =
    cases (ltb n 4096) (λ y. ap length (sym (noted-room kept n at (ltb-true _ _ y))) ∙ length-set kept n at)
    (λ f. ap length (sym (noted-full kept n at (ltb-false _ _ f))))

-- the same number, as the code computes it
pub noted-at : {kept' : List ℕ} (kept : List ℕ) (n : ℕ) {at at' : ℕ} → at ≡ at' → kept' ≡ noted kept n at → kept' ≡ noted kept n at'
noted-at kept n e q = q ∙ ap (noted kept n) e

-- whether a key is new, as a number
pub fresh-first : {n : ℕ} (last k : ℕ) {b : Bool} → n ≡ 0 → b ≡ eqb n 0 → bool_byte b ≡ cond (ltb k (new_from n last)) 0 1
unfolding new_from
fresh-first {n} last k e q = rw (q, eq-eqb n 0 e, le-ltb k 0 (omega arith))

pub fresh-other : {n : ℕ} (last k : ℕ) {b : Bool} → (n ≡ 0 → ⊥) → b ≡ ltb last k → bool_byte b ≡ cond (ltb k (new_from n last)) 0 1
unfolding new_from
fresh-other {n} last k d q =
    cases (ltb last k)
    (λ y. let l : last < k = ltb-true _ _ y in rw (q, y, ne_eqb n 0 d, le-ltb k (suc last) l))
    (λ f. let l : k ≤ last = ltb-false _ _ f in rw (q, f, ne_eqb n 0 d, lt-ltb k (suc last) (omega arith)))

-- how many records stand before a run, at most
before-low : {t : List ℕ} → Framed t → (r : ℕ) → r ≤ run_count t → records_before t r ≤ 4096 * r
unfolding records_before
before-low f zero l = omega arith
before-low f (suc r) l = omega (arith, before-low f r (omega arith), f.counts r l)

-- where the last run ends, at most
pub start-low : {t : List ℕ} → Framed t → start_of t (run_count t) ≤ 6451330
unfolding start_of
start-low {t} f =
    let few : run_count t ≤ 63 = f.most-runs in
    let before : records_before t (run_count t) ≤ 4096 * run_count t = before-low f (run_count t) (omega arith) in
    omega arith

-- where run r's next record stands, as the code computes it
pub record StandsAt (t places : List ℕ) (r at : ℕ) : Type 0 where
  pub is : at ≡ next_at t places r
  pub low : at ≤ 6451330

pub stands_at : {t counts starts places : List ℕ} {r i : ℕ} → Reading t counts starts places → r < run_count t → i ≡ r → get_or places r 0 < count_of t r
    → StandsAt t places r (get_or starts i 0 + 25 * get_or places i 0)
unfolding next_at start_of
stands_at {t} {counts} {starts} {places} {r} {i} g l e k =
    let few : run_count t ≤ 63 = g.few in
    let start : get_or starts i 0 ≡ start_of t r = ap (λ (j : ℕ). get_or starts j 0) e ∙ g.at.starts-are r (omega arith) in
    let place : get_or places i 0 ≡ get_or places r 0 = ap (λ (j : ℕ). get_or places j 0) e in
    let before : records_before t r ≤ 4096 * r = before-low g.at.frame r (omega arith) in
    let count : count_of t r ≤ 4096 = g.at.frame.counts r l in
    record { is = omega arith; low = omega arith }

-- a record as it stands in the tray, and in its run
pub record-in : (t : List ℕ) (r p : ℕ) → p < count_of t r → record_from t (start_of t r + 25 * p) ≡ record_at (run_bytes t r) p
unfolding record_from run_bytes
record-in t r p l =
    let n = start_of t (suc r) - start_of t r in
    let long : start_of t (suc r) ≡ start_of t r + 25 * count_of t r = start_of-next t r in
    let key = be-part 8 (start_of t r) n t (25 * p) (omega arith) in
    let value = be-part 16 (start_of t r) n t (25 * p + 9) (omega arith) in
    let kind : get_or (take n (drop (start_of t r) t)) (25 * p + 8) 0 ≡ get_or t (start_of t r + (25 * p + 8)) 0 =
    get_or-take n (drop (start_of t r) t) (25 * p + 8) 0 (omega arith) ∙ get_or-drop (start_of t r) t (25 * p + 8) 0 in
    rw (key, value, kind, ← add_assoc (start_of t r) (25 * p) 8, ← add_assoc (start_of t r) (25 * p) 9)

-- what is at the front of a list is in it
take-mem : {x : ℕ} (n : ℕ) (xs : List ℕ) → Mem x (take n xs) → Mem x xs
take-mem {x} n xs m = subst (Mem x) (take-append-drop n xs) (Memᴰ.append_left (drop n xs) m)

-- a number noted after the others
noted-are : (kept done : List ℕ) {n : ℕ} (at : ℕ) → n ≡ length done → length kept ≡ 4096 → take n kept ≡ take 4096 done
    → take (n + 1) (noted kept n at) ≡ take 4096 (done ++ (at ∷ []))
noted-are kept done {n} at e k are =
    cases (ltb n 4096)
    (λ y. let l : n < 4096 = ltb-true _ _ y in
    let short : length (done ++ (at ∷ [])) ≤ 4096 = simp length-append (omega arith) in
    rw (sym (noted-room kept n at l), add-one, take-suc-set kept n at (omega arith), are, take_all 4096 done (omega arith))
    (sym (take_all 4096 (done ++ (at ∷ [])) short)))
    (λ f. let l : 4096 ≤ n = ltb-false _ _ f in
    rw (sym (noted-full kept n at l), take-append-le 4096 done (at ∷ []) (omega arith), sym are)
    (take_all (n + 1) kept (omega arith) ∙ sym (take_all n kept (omega arith))))

-- a number noted there leaves the others
noted-low : (kept : List ℕ) (n at : ℕ) → take n (noted kept n at) ≡ take n kept
noted-low kept n at =
    cases (ltb n 4096) (λ y. rw (sym (noted-room kept n at (ltb-true _ _ y))) (take-set-le n kept n at (omega arith)))
    (λ f. rw (sym (noted-full kept n at (ltb-false _ _ f))))

-- n records have been counted and the first 4,096 of them noted, and with the merge of what is left from the next key on they are w
pub record Merging (t : List ℕ) (w : List Record) (places kept : List ℕ) (n last : ℕ) : Type 0 where
  pub done : List ℕ
  pub number : n ≡ length done
  pub are : take n kept ≡ take 4096 done
  pub whole : map (record_from t) done ++ merge_from t (new_from n last) places ≡ w
  pub inside : All (λ at. at + 25 ≤ length t) done
  pub room : length kept ≡ 4096
  pub places-room : length places ≡ 63
  pub low : (i : ℕ) → i < run_count t → get_or places i 0 < count_of t i → last ≤ (next_in t places i).key

module _ {t : List ℕ} {w : List Record} where
  pub merging-none : {places kept : List ℕ} → merge_left t places ≡ w → length kept ≡ 4096 → length places ≡ 63 → Merging t w places kept 0 0
  unfolding new_from
  merging-none {places} e k p =
      record { done = []; number = refl; are = refl; whole = merge-all t places ∙ e; inside = all_nil _; room = k; places-room = p; low = λ i l h. omega arith }

  -- the record of the run that comes next is taken
  module _ {places kept : List ℕ} {n last r k : ℕ} (s : Sound t) (fits : Fits (runs_of t)) (g : Merging t w places kept n last) (next : NextRun t (run_count t) places r k) where
    here-room : r < length places
    here-room = omega (arith, g.places-room, next.run, s.frame.most-runs)

    key-is : (next_in t places r).key ≡ k
    key-is = next-key fits next

    raise-room : length (raise places r) ≡ 63
    unfolding raise
    raise-room = length-set places r (get_or places r 0 + 1) ∙ g.places-room

    -- its key is new
    more-new : new_from n last ≤ k → Merging t w (raise places r) (noted kept n (next_at t places r)) (n + 1) k
    unfolding next_at next_in new_from
    more-new l =
        let step = merge-next s fits next l ∙ ap (λ xs. next_in t places r ∷ xs) (merge-pass t places here-room {m = suc k} next.has (omega (arith, key-is))) in
        let up : start_of t (suc r) ≡ start_of t r + 25 * count_of t r = start_of-next t r in
        let in-tray : start_of t (suc r) ≤ length t = start_of-within t s.frame (suc r) next.run in
        let there : start_of t r + 25 * get_or places r 0 + 25 ≤ length t = omega (arith, next.has) in
        let some : eqb (n + 1) 0 ≡ false = ne_eqb (n + 1) 0 (λ e. omega arith) in
        record {
          done = g.done ++ (next_at t places r ∷ []);
          number = simp length-append (ap (λ (j : ℕ). j + 1) g.number);
          are = noted-are kept g.done (next_at t places r) g.number g.room g.are;
          whole = rw (some, map-append, append_assoc, record-in t r (get_or places r 0) next.has) (rw step at g.whole);
          inside = λ at i. ⊎_elim (λ j. g.inside at j) (λ j. subst (λ (o : ℕ). o + 25 ≤ length t) (sym (Memᴰ.eq_of_singleton j)) there) (Memᴰ.append_cases g.done i);
          room = length-noted kept n (next_at t places r) ∙ g.room;
          places-room = raise-room;
          low = next_low t places here-room s next key-is;
        }

    -- it is older than the last one
    more-old : k < new_from n last → Merging t w (raise places r) (noted kept n (next_at t places r)) n k
    unfolding new_from
    more-old l =
        let some : eqb n 0 ≡ false = cases (eqb n 0) (λ y. absurd (omega (arith, rw y at l))) (λ f. f) in
        let same : k ≡ last = omega (arith, rw some at l, g.low r next.run next.has, key-is) in
        record {
          done = g.done;
          number = g.number;
          are = noted-low kept n (next_at t places r) ∙ g.are;
          whole =
              ap (λ xs. map (record_from t) g.done ++ xs)
              (ap (λ (m : ℕ). merge_from t (cond (eqb n 0) 0 (suc m)) (raise places r)) same ∙ sym (merge-pass t places here-room next.has (omega (arith, l, key-is))))
              ∙ g.whole;
          inside = g.inside;
          room = length-noted kept n (next_at t places r) ∙ g.room;
          places-room = raise-room;
          low = next_low t places here-room s next key-is;
        }

    pub merging-more : {places' kept' : List ℕ} {j : ℕ} → places' ≡ raise places r → kept' ≡ noted kept n (next_at t places r) → j ≡ cond (ltb k (new_from n last)) 0 1
        → Merging t w places' kept' (n + j) k
    merging-more {places'} {kept'} {j} p q e =
        rw (p, q)
        (cases (ltb k (new_from n last))
        (λ y. let z : j ≡ 0 = rw y at e in rw (z, add-zero) (more-old (ltb-true _ _ y)))
        (λ f. let z : j ≡ 1 = rw f at e in rw z (more-new (ltb-false _ _ f))))

    -- there is one less
    pub merging-less : {places' : List ℕ} → places' ≡ raise places r → left_to t places' (run_count t) < left_to t places (run_count t)
    merging-less p = rw p (left_less t places here-room (run_count t) next.run next.has)

  -- nothing is left
  pub merging-end : {places kept : List ℕ} {n last : ℕ} → Merging t w places kept n last → NoRun t (run_count t) places → Noted t w kept n
  merging-end {places} {n = n} {last} g none_left =
      let all : map (record_from t) g.done ≡ w = rw (merge-end t places (new_from n last) none_left, append-nil) at g.whole in
      record {
        number = g.number ∙ sym (length-map g.done (record_from t)) ∙ ap length all;
        room = g.room;
        inside = λ at i. g.inside at (take-mem 4096 g.done (rw g.are at i));
        are = λ l. ap (map (record_from t)) (g.are ∙ take_all 4096 g.done (omega (arith, g.number))) ∙ all;
      }

-- so many records were counted at most
pub merging-low : {t : List ℕ} {w : List Record} {places kept : List ℕ} {n last : ℕ} → length w ≤ 258048 → Merging t w places kept n last → n ≤ 258048
merging-low {t} {w} {places} {n = n} {last} l g =
    let sum : length (map (record_from t) g.done) + length (merge_from t (new_from n last) places) ≡ length w =
    sym (length-append (map (record_from t) g.done) (merge_from t (new_from n last) places)) ∙ ap length g.whole in
    omega (arith, g.number, length-map g.done (record_from t))
