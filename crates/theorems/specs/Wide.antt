-- Numbers that are wider than the library's own: one above 255 is as good as 255, for both are out of every bound, and a refusal tells the number
-- that was asked for.
--     narrowed            a number as a byte
--     owned               a verdict whose figure, at one number, is the caller's own
--     narrowed-same, narrowed-le, narrowed-fits     a number up to 255 is itself; the bounds that a number keeps, its narrow one keeps too
--     narrow-low, narrow_high     the code's two cases
--     own-there, own-else         the same of a verdict with the caller's own figure
--     build-owned, build-left     build with a wide D
--     fold-owned, fold-left       fold with wide runs
use Rattle.refusal.specs.declared.Refusal.{Refusal}
use Rattle.std.specs.Prelude.{◌≡◌, refl, ℕ, ◌≤◌, ◌<◌, Bool, true, false, cond, List, eqb, leb, Ok, Err, Result}
use Rattle.std.proofs.Common.{sym, ap, ◌∙◌, subst, arith, leb-true, le-leb, ltb-true, lt-ltb, eq-eqb, ne_eqb}
use Rattle.std.proofs.lemmas.Bool.{lt-leb}
use Rattle.refusal.specs.declared.Refusal.TheVariants.{TrayFrame, KeyOrder, RecordKind, IndexFrame, Segment, SegmentSize, Room, Bounds, PrefixEnd, Lost, Cursor, RunLength}
use Rattle.refusal.specs.declared.Verdict.{Verdict}
use Rattle.refusal.specs.Table.{told}
use Rattle.theory.specs.Tests.{split, cases, clash, same_test, and-true, and_left, and_right}
use Rattle.tray.specs.Frame.{run_count, framed}
use Rattle.tray.specs.Frame.Laws.{framed-fits}
use Rattle.build_spec.specs.Build.{size_fits, build_answer, build_leaves}
use Rattle.build_spec.specs.Build.Answers.{When}
use Rattle.build_spec.proofs.Build.Answers.{build-says}
use Rattle.fold_spec.specs.Fold.{bounds_hold, fold_answer, fold_leaves}
use Rattle.fold_spec.specs.Fold.Answers.{When as FoldWhen}
use Rattle.fold_spec.proofs.Fold.Answers.{fold-says}
use Rattle.theorems.specs.Told.{count_told}

-- a number as a byte
unfoldable pub narrowed : ℕ → ℕ
narrowed n = cond (leb n 255) n 255

-- a verdict whose figure, at one number, is the caller's own
unfoldable pub owned : ℕ → ℕ → Verdict → Verdict
owned at own v = cond (eqb v.number at) (told at own) v

-- a number up to 255 is itself,
pub narrowed-same : (n : ℕ) → n ≤ 255 → narrowed n ≡ n
unfolding narrowed
narrowed-same n l = rw (le-leb n 255 l)

pub narrow-low : {n : ℕ} → n ≤ 255 → n ≡ narrowed n
narrow-low {n} l = sym (narrowed-same n l)

pub narrow_high : {n : ℕ} → 255 < n → 255 ≡ narrowed n
unfolding narrowed
narrow_high {n} l = rw (lt-leb n 255 l)

-- and so is one whose narrow one is below 255
pub narrowed-le : (n : ℕ) → narrowed n < 255 → n ≤ 255
unfolding narrowed
narrowed-le n = split (λ m. m < 255 → n ≤ 255) (leb n 255) (λ y l. leb-true n 255 y) (λ y l. absurd (omega arith))

pub narrowed-lt : (n k : ℕ) → narrowed n ≤ k → k < 255 → narrowed n ≡ n
narrowed-lt n k l m = narrowed-same n (narrowed-le n (omega arith))

-- D fits where the narrow one does
narrow_size : (h d : ℕ) → size_fits h (narrowed d) ≡ size_fits h d
unfolding size_fits
narrow_size h d =
    same_test (size_fits h (narrowed d)) (size_fits h d)
    (λ y. subst (λ n. size_fits h n ≡ true) (narrowed-lt d 128 (leb-true _ _ (and_right (leb h (narrowed d)) _ y)) (omega arith)) y)
    (λ y. subst (λ n. size_fits h n ≡ true) (sym (narrowed-same d (let l = leb-true d 128 (and_right (leb h d) _ y) in omega arith))) y)

-- build's own figure at 6 is D
own-size : (t : List ℕ) (d room : ℕ) (a : Result ℕ Refusal) → When t d room a → count_told a ≡ owned 6 d (count_told a)
unfolding count_told owned
own-size t d room (Ok n) w = refl
own-size t d room (Err TrayFrame) w = refl
own-size t d room (Err (SegmentSize n)) w = ap (told 6) w.2
own-size t d room (Err (RecordKind n)) w = refl
own-size t d room (Err (KeyOrder n)) w = refl
own-size t d room (Err (Room n)) w = refl
own-size t d room (Err IndexFrame) w = absurd w
own-size t d room (Err (Segment n)) w = absurd w
own-size t d room (Err (Bounds n)) w = absurd w
own-size t d room (Err (PrefixEnd n)) w = absurd w
own-size t d room (Err (Lost g s)) w = absurd w
own-size t d room (Err (Cursor n)) w = absurd w
own-size t d room (Err (RunLength n)) w = absurd w

-- a D that does not fit is refused
unfit : (t : List ℕ) (d room : ℕ) → size_fits (run_count t) d ≡ false → build_answer t d room ≡ cond (framed t) (Err (SegmentSize d)) (Err TrayFrame)
unfolding build_answer
unfit t d room n = rw n

-- a D that fits is at most 128, so its narrow one is the same
fit_same : (h d : ℕ) → size_fits h d ≡ true → narrowed d ≡ d
unfolding size_fits
fit_same h d y = narrowed-same d (let l = leb-true d 128 (and_right (leb h d) _ y) in omega arith)

-- build with a wide D answers as with the narrow one, and 6 tells the wide one,
pub build-owned : (t : List ℕ) (d room : ℕ) → count_told (build_answer t d room) ≡ owned 6 d (count_told (build_answer t (narrowed d) room))
unfolding count_told owned
build-owned t d room =
    cases (size_fits (run_count t) d)
    (λ y. own-size t d room (build_answer t d room) ((build-says t d room (build_answer t d room)).0 refl)
    ∙ ap (λ (k : ℕ). owned 6 d (count_told (build_answer t k room))) (sym (fit_same (run_count t) d y)))
    (λ n. rw (unfit t d room n, unfit t (narrowed d) room (narrow_size (run_count t) d ∙ n)) (off (framed t)))
  where
    off : (b : Bool) → count_told (cond b (Err (SegmentSize d)) (Err TrayFrame))
        ≡ owned 6 d (count_told (cond b (Err (SegmentSize (narrowed d))) (Err TrayFrame)))
    off true = refl
    off false = refl

-- and leaves the same
pub build-left : (t : List ℕ) (d room : ℕ) (out : List ℕ) → build_leaves t d out (build_answer t d room) ≡ build_leaves t (narrowed d) out (build_answer t (narrowed d) room)
unfolding build_leaves
build-left t d room out =
    cases (size_fits (run_count t) d)
    (λ y. ap (λ (k : ℕ). build_leaves t k out (build_answer t k room)) (sym (fit_same (run_count t) d y)))
    (λ n. rw (unfit t d room n, unfit t (narrowed d) room (narrow_size (run_count t) d ∙ n)) (off (framed t)))
  where
    off : (b : Bool) → build_leaves t d out (cond b (Err (SegmentSize d)) (Err TrayFrame))
        ≡ build_leaves t (narrowed d) out (cond b (Err (SegmentSize (narrowed d))) (Err TrayFrame))
    off true = refl
    off false = refl

-- bounds that hold are those of runs, so the narrow ones are the same;
hold-same : (h a b : ℕ) → h ≤ 63 → bounds_hold h a b ≡ true → (narrowed a ≡ a) × (narrowed b ≡ b)
unfolding bounds_hold
hold-same h a b m y =
    let l = leb-true a b (and_left (leb a b) _ y) in
    let k = ltb-true b h (and_right (leb a b) _ y) in
    (narrowed-same a (omega arith), narrowed-same b (omega arith))

-- and narrow bounds hold where the wide ones do
narrow-bounds : (h a b : ℕ) → h ≤ 63 → bounds_hold h (narrowed a) (narrowed b) ≡ true → bounds_hold h a b ≡ true
unfolding bounds_hold
narrow-bounds h a b m y =
    let l = leb-true (narrowed a) (narrowed b) (and_left (leb (narrowed a) (narrowed b)) _ y) in
    let k = ltb-true (narrowed b) h (and_right (leb (narrowed a) (narrowed b)) _ y) in
    let p = narrowed-lt a (narrowed b) l (omega arith) in
    let q = narrowed-lt b (narrowed b) (omega arith) (omega arith) in
    and-true (le-leb a b (omega arith)) (lt-ltb b h (omega arith))

-- fold's own figure at 8 is b
own-bounds : (t : List ℕ) (a b room : ℕ) (x : Result ℕ Refusal) → FoldWhen t a b room x → count_told x ≡ owned 8 b (count_told x)
unfolding count_told owned FoldWhen
own-bounds t a b room (Ok n) w = refl
own-bounds t a b room (Err TrayFrame) w = refl
own-bounds t a b room (Err (Bounds n)) w = ap (told 8) w.2
own-bounds t a b room (Err (RecordKind n)) w = refl
own-bounds t a b room (Err (KeyOrder n)) w = refl
own-bounds t a b room (Err (RunLength n)) w = refl
own-bounds t a b room (Err (Room n)) w = refl
own-bounds t a b room (Err IndexFrame) w = absurd w
own-bounds t a b room (Err (Segment n)) w = absurd w
own-bounds t a b room (Err (SegmentSize n)) w = absurd w
own-bounds t a b room (Err (PrefixEnd n)) w = absurd w
own-bounds t a b room (Err (Lost g s)) w = absurd w
own-bounds t a b room (Err (Cursor n)) w = absurd w

-- what fold answers where the frame or the bounds fail
unframed : (t : List ℕ) (a b room : ℕ) → framed t ≡ false → fold_answer t a b room ≡ Err TrayFrame
unfolding fold_answer
unframed t a b room n = rw n

unbounded : (t : List ℕ) (a b room : ℕ) → framed t ≡ true → bounds_hold (run_count t) a b ≡ false → fold_answer t a b room ≡ Err (Bounds b)
unfolding fold_answer
unbounded t a b room y n = rw (y, n)

-- the cases of wide bounds: no frame; bounds that hold; bounds that don't
pub data Wider (t : List ℕ) (a b room : ℕ) : Type 0 where
  frameless : fold_answer t a b room ≡ Err TrayFrame → fold_answer t (narrowed a) (narrowed b) room ≡ Err TrayFrame → Wider t a b room
  holding : narrowed a ≡ a → narrowed b ≡ b → Wider t a b room
  failing : fold_answer t a b room ≡ Err (Bounds b) → fold_answer t (narrowed a) (narrowed b) room ≡ Err (Bounds (narrowed b)) → Wider t a b room

wider : (t : List ℕ) (a b room : ℕ) → Wider t a b room
wider t a b room =
    cases (framed t)
    (λ y.
    let m = (framed-fits t y).most-runs in
    cases (bounds_hold (run_count t) a b)
    (λ h. let z = hold-same (run_count t) a b m h in holding z.0 z.1)
    (λ n. failing (unbounded t a b room y n) (unbounded t (narrowed a) (narrowed b) room y (narrow-fails (bounds_hold (run_count t) (narrowed a) (narrowed b)) refl m n))))
    (λ n. frameless (unframed t a b room n) (unframed t (narrowed a) (narrowed b) room n))
  where
    narrow-fails : (c : Bool) → bounds_hold (run_count t) (narrowed a) (narrowed b) ≡ c → run_count t ≤ 63 → bounds_hold (run_count t) a b ≡ false
        → bounds_hold (run_count t) (narrowed a) (narrowed b) ≡ false
    narrow-fails true e m n = clash (narrow-bounds (run_count t) a b m e) n
    narrow-fails false e m n = e

-- fold with wide runs answers as with the narrow ones, and 8 tells the wide b,
pub fold-owned : (t : List ℕ) (a b room : ℕ) → count_told (fold_answer t a b room) ≡ owned 8 b (count_told (fold_answer t (narrowed a) (narrowed b) room))
unfolding count_told owned
fold-owned t a b room = by (wider t a b room)
  where
    by : Wider t a b room → count_told (fold_answer t a b room) ≡ owned 8 b (count_told (fold_answer t (narrowed a) (narrowed b) room))
    by (frameless p q) = rw (p, q) refl
    by (holding p q) =
        own-bounds t a b room (fold_answer t a b room) ((fold-says t a b room (fold_answer t a b room)).0 refl)
        ∙ ap (λ (i : ℕ). owned 8 b (count_told (fold_answer t i b room))) (sym p)
        ∙ ap (λ (k : ℕ). owned 8 b (count_told (fold_answer t (narrowed a) k room))) (sym q)
    by (failing p q) = rw (p, q) refl

-- and leaves the same
pub fold-left : (t : List ℕ) (a b room : ℕ) (out : List ℕ)
    → fold_leaves t a b out (fold_answer t a b room) ≡ fold_leaves t (narrowed a) (narrowed b) out (fold_answer t (narrowed a) (narrowed b) room)
unfolding fold_leaves
fold-left t a b room out = by (wider t a b room)
  where
    by : Wider t a b room → fold_leaves t a b out (fold_answer t a b room) ≡ fold_leaves t (narrowed a) (narrowed b) out (fold_answer t (narrowed a) (narrowed b) room)
    by (frameless p q) = rw (p, q) refl
    by (holding p q) =
        ap (λ (i : ℕ). fold_leaves t i b out (fold_answer t i b room)) (sym p)
        ∙ ap (λ (k : ℕ). fold_leaves t (narrowed a) k out (fold_answer t (narrowed a) k room)) (sym q)
    by (failing p q) = rw (p, q) refl

-- a verdict with the caller's own figure
pub own-there : (v : Verdict) {at : ℕ} (own : ℕ) → v.number ≡ at → told at own ≡ owned at own v
unfolding owned
own-there v {at} own e = rw (eq-eqb v.number at e)

pub own-else : (v : Verdict) (at own : ℕ) → (v.number ≡ at → ⊥) → told v.number v.figure ≡ owned at own v
unfolding owned
own-else v at own e = rw (ne_eqb v.number at e)
