-- A page through an accepted index (docs/RULES.md, "Reading through an index"): the first visible records from its cursor on that fit, 24 bytes
-- each, in order; then the cursor of the first unwritten one, or the end. Nothing else of the output changes.
--     listing, written     the bytes of some records, and an output with them written
--     listing-append, length-listed, length-listing     end to end, and how long
--     write-more, written-length     one record more, and that the output stays as long
--     room, paged          how many records fit, and what a page of these stops comes to
--     page-is              a page is that
-- Not here: pages put together, which are in `Pages.antt`.
use Rattle.std.specs.Prelude.{◌≡◌, ℕ, zero, suc, ◌+◌, ◌*◌, ◌≤◌, ◌<◌, cond, length, take, drop, leb}
use Rattle.std.proofs.Math.Path.{refl}
use Rattle.std.proofs.Common.{sym, ap, ap₂, ◌∙◌, subst, add-zero, arith, length-append, length-drop, take_at, drop-drop, le-leb}
use mathlib.Core.List.Memᴰ
use mathlib.Core.List.{List, [], ◌∷◌, ◌++◌, map, append_assoc, append-nil}
use Rattle.std.proofs.Math.Seq.{take-nil, drop-nil, drop-append-add, append_snoc}
use Rattle.std.proofs.lemmas.Bool.{lt-leb}
use Rattle.number.specs.Big.{put}
use Rattle.number.proofs.Big.Laws.{length-bytes_of}
use Rattle.theory.specs.Records.{Record}
use Rattle.theory.specs.Rising.{Mem, keep}
use Rattle.walk.specs.Walk.{Spot, Visit, stay, go}
use Rattle.walk.specs.Walk.Spots.{Reading, Stop}
use Rattle.walk.specs.Walk.Tours.{after, tour_then, tour, first_of, tour-same, tour-kept}
use Rattle.walk.specs.Walk.Segment.{seen}
use Rattle.walk.specs.Reads.Shown.{point_of, is_shown, Shows, stop-shows}
use Rattle.walk.specs.Reads.Standing.{Standing, walk-standing, standing_on}
use Rattle.walk.specs.Reads.{Written, listed_bytes, write, page_visit, page}
use Rattle.walk.specs.Reads.Page.{listing, written, room, paged}

pub listing-append : (es fs : List Record) → listing (es ++ fs) ≡ listing es ++ listing fs
unfolding listing
listing-append [] fs = refl
listing-append (e ∷ es) fs = rw (listing-append es fs) (sym (append_assoc (listed_bytes e) (listing es) (listing fs)))

pub length-listed : (e : Record) → length (listed_bytes e) ≡ 24
unfolding listed_bytes
length-listed e = simp (length-append, length-bytes_of)

pub length-listing : (es : List Record) → length (listing es) ≡ 24 * length es
unfolding listing
length-listing [] = refl
length-listing (e ∷ es) = simp length-append (omega (arith, length-listed e, length-listing es))

-- bytes written after others
put-behind : (xs ys out : List ℕ) (n m : ℕ) → length xs ≡ n → length ys ≡ m
    → put (xs ++ drop n out) n ys ≡ (xs ++ ys) ++ drop (n + m) out
unfolding put
put-behind xs ys out n m p q =
    let behind : drop (n + length ys) (xs ++ drop n out) ≡ drop (n + m) out =
    ap (λ k. drop (k + length ys) (xs ++ drop n out)) (sym p) ∙ drop-append-add xs (drop n out) (length ys)
    ∙ drop-drop (length ys) n out ∙ ap (λ k. drop (n + k) out) q in
    rw (take_at xs (drop n out) n p, behind) (sym (append_assoc xs ys (drop (n + m) out)))

written-eq : {v w : Written} → v.count ≡ w.count → v.out ≡ w.out → v ≡ w
written-eq p q = λ i. record { count = p i; out = q i }

-- one record more is written after the others
pub write-more : (es : List Record) (out : List ℕ) (e : Record) → write e (written es out) ≡ written (es ++ (e ∷ [])) out
unfolding write written listing
write-more es out e =
    let count : length es + 1 ≡ length (es ++ (e ∷ [])) = sym (length-append es (e ∷ [])) in
    let far : 24 * length es + 24 ≡ 24 * length (es ++ (e ∷ [])) = omega arith in
    let bytes : listing es ++ listed_bytes e ≡ listing (es ++ (e ∷ [])) =
    ap (λ l. listing es ++ l) (sym (append-nil (listed_bytes e))) ∙ sym (listing-append es (e ∷ [])) in
    written-eq count
    (put-behind (listing es) (listed_bytes e) out (24 * length es) 24 (length-listing es) (length-listed e)
    ∙ ap₂ (λ l n. l ++ drop n out) bytes far)

-- the length of the output stays
pub written-length : (es : List Record) (out : List ℕ) → 24 * length es ≤ length out → length (written es out).out ≡ length out
unfolding written
written-length es out l = simp (length-append, length-listing, length-drop) (omega arith)

-- the visitor of a page at a visible stop
abbrev page_step : Stop → Written → Visit Written (Written × Spot)
page_step p w = cond (leb (24 * w.count + 24) (length w.out)) (go (write (point_of p) w)) (stay (w, p.spot))

module _ (out : List ℕ) (es : List Record) (q : Stop) where
  -- as many records as have been written
  counted : (written es out).count ≡ length es
  unfolding written
  counted = refl

  -- a record that fits is written
  step_fits : 24 * length es + 24 ≤ length out → page_step q (written es out) ≡ go (written (es ++ (point_of q ∷ [])) out)
  step_fits l =
      let long = written-length es out (omega arith) in
      rw (le-leb (24 * (written es out).count + 24) (length (written es out).out) (omega (arith, counted)), write-more es out (point_of q))

  -- the first one that does not fit is where the page stays
  step-full : 24 * length es ≤ length out → length out < 24 * length es + 24 → page_step q (written es out) ≡ stay (written es out, q.spot)
  step-full l u =
      let long = written-length es out l in
      rw (lt-leb (24 * (written es out).count + 24) (length (written es out).out) (omega (arith, counted)))

-- from what has been written on
page-from : (out : List ℕ) (es : List Record) (qs : List Stop) (n : ℕ) → n + length es ≡ room out
    → tour page_step qs (written es out)
    ≡ first_of (λ p. (written (es ++ map point_of (take n qs)) out, p.spot)) (drop n qs) (written (es ++ map point_of (take n qs)) out)
unfolding tour_then after first_of
page-from out es [] n l = rw (take-nil, drop-nil, append-nil)
page-from out es (q ∷ qs) zero l = rw (step-full out es q (omega arith) (omega arith), append-nil)
page-from out es (q ∷ qs) (suc n) l =
    rw (step_fits out es q (omega arith), ← append_snoc es (point_of q) (map point_of (take n qs)))
    (page-from out (es ++ (point_of q ∷ [])) qs n (simp length-append (omega arith)))

module _ {t x : List ℕ} (r : Reading t x) where
  page-visit : (p : Stop) → Shows t p → (w : Written) → seen t (page_visit t) p w ≡ cond (is_shown t p) (page_step p w) (go w)
  unfolding page_visit
  page-visit p s w = rw (s.marks, s.names)

  pub page-is : {c : Spot} {ps : List Stop} → Standing t x c ps → (out : List ℕ) → page t x c out ≡ paged (keep (is_shown t) ps) out
  unfolding page paged written listing
  page-is {ps = ps} at out =
      let on = standing_on at in
      walk-standing r at (page_visit t) _
      ∙ tour-same (seen t (page_visit t)) _ ps
      (λ p m. page-visit p (stop-shows r p (subst (Mem p) (sym on.1) (Memᴰ.append_right on.0 m)))) _
      ∙ tour-kept (is_shown t) page_step ps _
      ∙ page-from out [] (keep (is_shown t) ps) (room out) (add-zero (room out))
