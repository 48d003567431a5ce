-- Sheet's second pass is a page with room for just the records of its first pass: where the first comes to its bound or the end, the page
-- writes these records, and stays at the bound or comes to the end. So sheet needs no walk of its own that writes.
--     second-bound, second-end    what the page comes to
--     second-listed               what its code leaves in the output: the records that the first pass lists
--     written_out, written-whole     what stands in the output then
use Rattle.std.specs.Prelude.{◌≡◌, refl, Bool, true, false, cond, drop, eqb, ltb, leb, Option, Some, None, Result, Ok, Err}
use Rattle.std.proofs.Common.{sym, ap, ◌∙◌, subst, zero-add, arith}
use Prim.Native.Nat.{ℕ, zero, suc, ◌+◌, ◌-◌, ◌*◌, ◌≤◌}
use mathlib.Core.List.{List, [], ◌∷◌, ◌++◌, append-nil}
use Rattle.std.proofs.Math.ListN.{length, length-append}
use Rattle.std.proofs.Math.Seq.{drop-length}
use borrow.Author.Tests.{le-leb, lt-leb}
use Rattle.number.specs.Big.{put}
use Rattle.theory.specs.Records.{Record}
use Rattle.theory.specs.Tests.{cases}
use Rattle.tray.specs.Frame.{run_count}
use Rattle.index.specs.Layout.{size_of, segment_count}
use Rattle.index.specs.Scan.{run_in, raise}
use Rattle.walk.specs.Walk.{Spot, stay, go, Walked, stayed, ended, lost, loaded, named, selector_at, walk_selectors, walk_segments, walk_from}
use Rattle.walk.specs.Reads.{Written, unmarked, record_by, sheet_visit, page_visit}
use Rattle.walk.specs.Reads.Page.{listing, written}
use Rattle.walk.proofs.ReadsLaws.Page.{write-more, written-length, length-listing}
use Rattle.walk.specs.Reads.Sheet.{Lists}
use Rattle.walk.specs.Reads.Sheet.Lists.{to-bound, to_end}
use Rattle.walk.specs.declared.cursor.Cursor.{Cursor}
use Rattle.walk.specs.declared.cursor.Lost.{Lost}
use Rattle.list.specs.declared.points.PageEnd.{PageEnd}
use Rattle.list.specs.Page.{so_far, begun, paged_as, paged_of}

-- what the page comes to, by what the first pass came to from n records on: where the room is just that of its records, the same
data Second (out : List ℕ) (n : ℕ) : Walked (List Record) (List Record) → Walked Written (Written × Spot) → Type 0 where
  at_bound : {es : List Record} {p : Walked Written (Written × Spot)} → n ≤ length es → (length out ≡ 24 * length es → (c : Spot) × (p ≡ stayed (written es out, c))) → Second out n (stayed es) p
  at-end : {es : List Record} {p : Walked Written (Written × Spot)} → n ≤ length es → (length out ≡ 24 * length es → p ≡ ended (written es out)) → Second out n (ended es) p
  at-loss : {g s : ℕ} {es : List Record} {p : Walked Written (Written × Spot)} → Second out n (lost g s es) p

-- from fewer records on, where the page goes the same way as long as there is room
second-less : {out : List ℕ} {n m : ℕ} {w : Walked (List Record) (List Record)} {p q : Walked Written (Written × Spot)} → Second out m w q → n ≤ m
    → (24 * m ≤ length out → p ≡ q) → Second out n w p
second-less (at_bound {es} l f) k e = at_bound {es = es} (omega arith) (λ r. let z = e (omega arith) in ((f r).0, z ∙ (f r).1))
second-less (at-end {es} l f) k e = at-end {es = es} (omega arith) (λ r. let z = e (omega arith) in z ∙ f r)
second-less at-loss k e = at-loss

-- both by one test
both : {A B : Type 0} (P : A → B → Type 0) (b : Bool) {y n : A} {y' n' : B} → P y y' → P n n' → P (cond b y n) (cond b y' n')
both P true p q = p
both P false p q = q

module _ (t x : List ℕ) (high : ℕ) (out : List ℕ) where
  module _ (v : ℕ) (c : Spot) (es : List Record) where
    -- a record more is written where there is room,
    page-fits : unmarked v ≡ true → 24 * length es + 24 ≤ length out → page_visit t v c (written es out) ≡ go (written (es ++ (record_by t v c ∷ [])) out)
    unfolding page_visit written
    page-fits y l =
        let long : length (written es out).out ≡ length out = written-length es out (omega arith) in
        rw (y, le-leb (24 * length es + 24) (length (written es out).out) (omega arith)) (ap go (write-more es out (record_by t v c)))

    -- the page stays where there is none,
    page-full : unmarked v ≡ true → length out ≡ 24 * length es → page_visit t v c (written es out) ≡ stay (written es out, c)
    unfolding page_visit written
    page-full y l =
        let long : length (written es out).out ≡ length out = written-length es out (omega arith) in
        rw (y, lt-leb (24 * length es + 24) (length (written es out).out) (omega arith))

    -- and passes what is marked
    page-marked : unmarked v ≡ false → page_visit t v c (written es out) ≡ go (written es out)
    unfolding page_visit
    page-marked m = rw m

    -- with what comes after the visit
    page-stays : (on' : Written → Walked Written (Written × Spot)) → unmarked v ≡ true → length out ≡ 24 * length es
        → ◌≡◌ {A = Walked Written (Written × Spot)} (elim (page_visit t v c (written es out)) [ stay r ↦ stayed r | go st ↦ on' st ]) (stayed (written es out, c))
    page-stays on' y l = rw (page-full y l)

    page-goes : (on' : Written → Walked Written (Written × Spot)) → unmarked v ≡ true → 24 * length (es ++ (record_by t v c ∷ [])) ≤ length out
        → ◌≡◌ {A = Walked Written (Written × Spot)} (elim (page_visit t v c (written es out)) [ stay r ↦ stayed r | go st ↦ on' st ])
        (on' (written (es ++ (record_by t v c ∷ [])) out))
    page-goes on' y l = let more = length-append es (record_by t v c ∷ []) in rw (page-fits y (omega arith))

    -- both walks, by one visit
    seen-second : (on : List Record → Walked (List Record) (List Record)) (on' : Written → Walked Written (Written × Spot))
        → ((fs : List Record) → Second out (length fs) (on fs) (on' (written fs out)))
        → Second out (length es) (elim (sheet_visit t high v c es) [ stay r ↦ stayed r | go st ↦ on st ])
        (elim (page_visit t v c (written es out)) [ stay r ↦ stayed r | go st ↦ on' st ])
    unfolding sheet_visit
    seen-second on on' h =
        cases (unmarked v)
        (λ y.
        cases (leb high (record_by t v c).key)
        (λ a. rw (y, a) (at_bound {es = es} (omega arith) (λ r. (c, page-stays on' y r))))
        (λ a.
        let more : length (es ++ (record_by t v c ∷ [])) ≡ length es + 1 = length-append es (record_by t v c ∷ []) in
        rw (y, a) (second-less (h (es ++ (record_by t v c ∷ []))) (omega arith) (page-goes on' y))))
        (λ m. rw (m, page-marked m) (h es))

  second-selectors : (k g s : ℕ) (places : List ℕ) (es : List Record) (rest : List Record → Walked (List Record) (List Record)) (rest' : Written → Walked Written (Written × Spot))
      → ((fs : List Record) → Second out (length fs) (rest fs) (rest' (written fs out)))
      → Second out (length es) (walk_selectors t x (sheet_visit t high) k g s places es rest) (walk_selectors t x (page_visit t) k g s places (written es out) rest')
  unfolding walk_selectors
  second-selectors zero g s places es rest rest' h = h es
  second-selectors (suc k) g s places es rest rest' h =
      both (Second out (length es)) (eqb v 63) (second-selectors k g (s + 1) places es rest rest' h)
      (both (Second out (length es)) (named t places v)
      (seen-second v (record { segment = g; selector = s; places = places }) es
      (λ (fs : List Record). walk_selectors t x (sheet_visit t high) k g (s + 1) (raise places (run_in v)) fs rest)
      (λ (w : Written). walk_selectors t x (page_visit t) k g (s + 1) (raise places (run_in v)) w rest')
      (λ fs. second-selectors k g (s + 1) (raise places (run_in v)) fs rest rest' h))
      at-loss)
    where
      v : ℕ
      v = selector_at (run_count t) x g s

  second-segments : (k g : ℕ) (es : List Record) → Second out (length es) (walk_segments t x (sheet_visit t high) k g es) (walk_segments t x (page_visit t) k g (written es out))
  unfolding walk_segments
  second-segments zero g es = at-end {es = es} (omega arith) (λ r. refl)
  second-segments (suc k) g es =
      second-selectors (size_of x) g 0 (loaded (run_count t) x g) es (walk_segments t x (sheet_visit t high) k (g + 1)) (walk_segments t x (page_visit t) k (g + 1)) (second-segments k (g + 1))

  second-pass : (c : Spot) → Second out 0 (walk_from t x (sheet_visit t high) c []) (walk_from t x (page_visit t) c (begun out))
  unfolding walk_from begun written listing
  second-pass c =
      both (Second out 0) (ltb c.segment (segment_count x))
      (second-selectors (size_of x - c.selector) c.segment c.selector c.places [] (walk_segments t x (sheet_visit t high) (segment_count x - (c.segment + 1)) (c.segment + 1))
      (walk_segments t x (page_visit t) (segment_count x - (c.segment + 1)) (c.segment + 1)) (second-segments (segment_count x - (c.segment + 1)) (c.segment + 1)))
      (at-end {es = []} (omega arith) (λ r. refl))

  module _ (c : Spot) (es : List Record) (room : length out ≡ 24 * length es) where
    bound_of : {p : Walked Written (Written × Spot)} → Second out 0 (stayed es) p → (e : Spot) × (p ≡ stayed (written es out, e))
    bound_of (at_bound l f) = f room

    end_of : {p : Walked Written (Written × Spot)} → Second out 0 (ended es) p → p ≡ ended (written es out)
    end_of (at-end l f) = f room

    -- the first pass came to its bound: the page stays there
    pub second-bound : walk_from t x (sheet_visit t high) c [] ≡ stayed es → (e : Spot) × (walk_from t x (page_visit t) c (begun out) ≡ stayed (written es out, e))
    second-bound h = bound_of (subst (λ w. Second out 0 w (walk_from t x (page_visit t) c (begun out))) h (second-pass c))

    -- it came to the end, and so does the page
    pub second-end : walk_from t x (sheet_visit t high) c [] ≡ ended es → walk_from t x (page_visit t) c (begun out) ≡ ended (written es out)
    second-end h = end_of (subst (λ w. Second out 0 w (walk_from t x (page_visit t) c (begun out))) h (second-pass c))

-- what stands in the output then: the listing at its front,
pub written_out : (es : List Record) (out : List ℕ) → (written es out).out ≡ put out 0 (listing es)
unfolding written put
written_out es out = ap (λ (k : ℕ). listing es ++ drop k out) (sym (zero-add (length (listing es)) ∙ length-listing es))

-- and nothing else in an output with room for just these
pub written-whole : (es : List Record) (out : List ℕ) → length out ≡ 24 * length es → (written es out).out ≡ listing es
unfolding written
written-whole es out l = ap (λ (r : List ℕ). listing es ++ r) (ap (λ (k : ℕ). drop k out) (sym l) ∙ drop-length out) ∙ append-nil (listing es)

-- what stands in the output where a page ends
unfoldable out_at : Walked Written (Written × Spot) → List ℕ
out_at (stayed r) = r.0.out
out_at (ended w) = w.out
out_at (lost g s w) = w.out

out-paged : (r : PageEnd) (out : List ℕ) → out_at (paged_of r out) ≡ out
unfolding out_at paged_of paged_as
out-paged r out = by-stop r.stop
  where
    by-stop : (s : Result (Option Cursor) Lost) → out_at (paged_as s (so_far r.count out)) ≡ out
    by-stop (Ok (Some c)) = refl
    by-stop (Ok None) = refl
    by-stop (Err l) = refl

-- the code of a page with room for just the records that the first pass lists leaves these in the output
pub second-listed : (t x : List ℕ) (high : ℕ) (c : Spot) (out : List ℕ) (r : PageEnd) {es : List Record} {after : List ℕ} → length out ≡ 24 * length es
    → paged_of r after ≡ walk_from t x (page_visit t) c (begun out) → Lists (walk_from t x (sheet_visit t high) c []) es → after ≡ listing es
unfolding out_at
second-listed t x high c out r {es} {after} room page first =
    sym (out-paged r after) ∙ ap out_at page ∙ by_first (walk_from t x (sheet_visit t high) c []) refl first ∙ written-whole es out room
  where
    by_first : (w : Walked (List Record) (List Record)) → walk_from t x (sheet_visit t high) c [] ≡ w → Lists w es
        → out_at (walk_from t x (page_visit t) c (begun out)) ≡ (written es out).out
    by_first w e to-bound = ap out_at (second-bound t x high out c es room e).1
    by_first w e to_end = ap out_at (second-end t x high out c es room e)
