-- Build's answer in the table's words (docs/RULES.md, "Refusals by number", build's order 1, 6, 3/2, 7): each answer exactly when, and what
-- is left in the output.
--     size_fits_lem, fits-size                D as a test, and as the rules have it
--     When, build-says                    the table for build, and that build gives an answer exactly when the table does
--     build-written                       the bytes written, exactly when
--     build-refuses-1, -6, -3, -2, -7     each refusal, exactly when
--     leaves-written, leaves-refused      what is left in the output: the index and what was after it, or what was there
--     leaves-accepted                     what was written is an accepted index
use Rattle.std.specs.Prelude.{◌≡◌, ◌↔◌, ℕ, ◌≤◌, ◌<◌, Bool, cond, List, take, leb, Ok, Err, Result}
use Rattle.std.proofs.Math.Path.{refl, sym}
use Rattle.std.proofs.Common.{◌∙◌, subst, zero-le, zero-add}
use Rattle.std.proofs.Math.Bool.{true, false}
use Rattle.std.proofs.Math.ListN.{length}
use borrow.Author.Tests.{leb-true, leb-false, le-leb, lt-leb}
use Rattle.number.specs.Big.{Bytes}
use Rattle.number.proofs.Big.Writes.{length-put, take_put, drop-put}
use Rattle.refusal.specs.declared.Refusal.{Refusal}
use Rattle.refusal.specs.declared.Refusal.TheVariants.{TrayFrame, KeyOrder, RecordKind, IndexFrame, Segment, SegmentSize, Room, Bounds, PrefixEnd, Lost, Cursor, RunLength}
use Rattle.theory.specs.Tests.{split, cases, clash, and-true, and_left, and_right}
use Rattle.tray.specs.Frame.{run_count, records_before, Framed, framed}
use Rattle.tray.specs.Frame.Laws.{framed-fits, fits-framed}
use Rattle.tray.specs.Check.{check_tray_answer, Says, refused-1, refused-2, refused-3, records}
use Rattle.tray.proofs.Check.Laws.{says}
use Rattle.tray.specs.Check.Theorems.{WrongKeyAt, WrongKindAt}
use Rattle.tray.proofs.Check.Theorems.{answers-records, refuses-2, refuses-3}
use Rattle.tray.specs.Meaning.{runs_of}
use Rattle.index.specs.Layout.{segments_of, IndexFramed}
use Rattle.index.specs.Rules.{Accepted}
use Rattle.build_spec.specs.Build.{index_bytes, index_size, size_fits, after_check, build_answer, build_leaves}
use Rattle.build_spec.proofs.Build.Bytes.{length-index_bytes}
use Rattle.build_spec.specs.Build.Theorems.{SizeFits}
use Rattle.build_spec.proofs.Build.Theorems.{sound-ready, built-frame, built-accepted}
use Rattle.build_spec.specs.Build.Answers.{Builds, When, Leaves}

-- a D that the test admits fits,
pub size_fits_lem : (h d : ℕ) → size_fits h d ≡ true → SizeFits h d
unfolding size_fits
size_fits_lem h d e = record { least = leb-true _ _ (and_left _ _ e); most = leb-true _ _ (and_right (leb h d) _ e) }

-- and one that fits is admitted
pub fits-size : {h d : ℕ} → SizeFits h d → size_fits h d ≡ true
unfolding size_fits
fits-size s = and-true (le-leb _ _ s.least) (le-leb _ _ s.most)

module _ (t : List ℕ) where
  module _ (d room : ℕ) where
    -- after frame and D, what the check says decides
    when-checked : {a : Result ℕ Refusal} → Framed t → SizeFits (run_count t) d → Says t a → When t d room (after_check d (runs_of t) room a)
    unfolding after_check
    when-checked f s (refused-1 x) = absurd (x f)
    when-checked f s (refused-2 n r p _ a ra u k) = (s, (r, p, record { frame = f; numbered = a; before = ra }, u, k))
    when-checked f s (refused-3 n r p _ a ra u) = (s, (r, p, record { frame = f; numbered = a; before = ra }, u))
    when-checked f s (records sound) =
        let needs : Builds t d (index_size d (runs_of t)) = record { sound = sound; size = s; bytes = refl } in
        split (When t d room) (leb (index_size d (runs_of t)) room) (λ y. (needs, leb-true _ _ y)) (λ n. (needs, leb-false _ _ n))

    -- the table gives build's answer,
    build-when : When t d room (build_answer t d room)
    unfolding build_answer
    build-when = go (framed t) refl (size_fits (run_count t) d) refl
      where
        go : (b : Bool) → framed t ≡ b → (c : Bool) → size_fits (run_count t) d ≡ c
            → When t d room (cond b (cond c (after_check d (runs_of t) room (check_tray_answer t)) (Err (SegmentSize d))) (Err TrayFrame))
        go false e c k = λ f. clash (fits-framed t f) e
        go true e false k = (framed-fits t e, λ s. clash (fits-size s) k, refl)
        go true e true k = when-checked (framed-fits t e) (size_fits_lem _ _ k) (says t)

    -- where frame and D are right, the check decides,
    build-checked : Framed t → SizeFits (run_count t) d → build_answer t d room ≡ after_check d (runs_of t) room (check_tray_answer t)
    unfolding build_answer
    build-checked f s = rw (fits-framed t f, fits-size s)

    -- and where that finds nothing, the room
    build-sound : {n : ℕ} → Builds t d n → build_answer t d room ≡ cond (leb n room) (Ok n) (Err (Room n))
    unfolding after_check
    build-sound w =
        build-checked w.sound.frame w.size
        ∙ rw ((answers-records t (records_before t (run_count t))).1 (w.sound, refl), ← w.bytes)

    -- and build gives the table's
    when-build : (a : Result ℕ Refusal) → When t d room a → build_answer t d room ≡ a
    unfolding build_answer after_check
    when-build (Err TrayFrame) w = cases (framed t) (λ y. absurd (w (framed-fits t y))) (λ n. rw n)
    when-build (Err (SegmentSize n)) w =
        rw (fits-framed t w.0, w.2) (cases (size_fits (run_count t) d) (λ y. absurd (w.1 (size_fits_lem _ _ y))) (λ n. rw n))
    when-build (Err (RecordKind n)) w = build-checked w.1.2.frame w.0 ∙ rw ((refuses-3 t n).1 w.1)
    when-build (Err (KeyOrder n)) w = build-checked w.1.2.frame w.0 ∙ rw ((refuses-2 t n).1 w.1)
    when-build (Err (Room n)) w = build-sound w.0 ∙ rw (lt-leb n room w.1)
    when-build (Ok n) w = build-sound w.0 ∙ rw (le-leb n room w.1)
    when-build (Err IndexFrame) w = absurd w
    when-build (Err (Segment n)) w = absurd w
    when-build (Err (Bounds n)) w = absurd w
    when-build (Err (PrefixEnd n)) w = absurd w
    when-build (Err (Lost g s)) w = absurd w
    when-build (Err (Cursor n)) w = absurd w
    when-build (Err (RunLength n)) w = absurd w

    -- build gives an answer exactly when the table does
    pub build-says : (a : Result ℕ Refusal) → (build_answer t d room ≡ a) ↔ When t d room a
    build-says a = (λ e. subst (When t d room) e build-when, when-build a)

    -- without a refusal build answers the bytes written, exactly when the tray is sound, D fits it and the index fits the room
    pub build-written : (n : ℕ) → (build_answer t d room ≡ Ok n) ↔ (Builds t d n × (n ≤ room))
    build-written n = build-says (Ok n)

    -- 1: the tray breaks the header, count or length rules
    pub build-refuses-1 : (build_answer t d room ≡ Err TrayFrame) ↔ (Framed t → ⊥)
    build-refuses-1 = build-says (Err TrayFrame)

    -- 6: D is outside H to 128
    pub build-refuses-6 : (n : ℕ) → (build_answer t d room ≡ Err (SegmentSize n)) ↔ (Framed t × (SizeFits (run_count t) d → ⊥) × (n ≡ d))
    build-refuses-6 n = build-says (Err (SegmentSize n))

    -- 3: a kind above 1, or a gone record with a value
    pub build-refuses-3 : (n : ℕ) → (build_answer t d room ≡ Err (RecordKind n)) ↔ (SizeFits (run_count t) d × WrongKindAt t n)
    build-refuses-3 n = build-says (Err (RecordKind n))

    -- 2: a key that is not above the one before it in its run
    pub build-refuses-2 : (n : ℕ) → (build_answer t d room ≡ Err (KeyOrder n)) ↔ (SizeFits (run_count t) d × WrongKeyAt t n)
    build-refuses-2 n = build-says (Err (KeyOrder n))

    -- 7: the output is too short
    pub build-refuses-7 : (n : ℕ) → (build_answer t d room ≡ Err (Room n)) ↔ (Builds t d n × (room < n))
    build-refuses-7 n = build-says (Err (Room n))

  module _ (d : ℕ) (out : List ℕ) where
    -- the index stands in front, and past it nothing changes
    pub leaves-written : (n : ℕ) → build_answer t d (length out) ≡ Ok n → Leaves t d out n (build_leaves t d out (build_answer t d (length out)))
    unfolding build_leaves
    leaves-written n e =
        let w = (build-written d (length out) n).0 e in
        let x = index_bytes d (runs_of t) in
        let size : length x ≡ n = length-index_bytes (sound-ready w.0.sound w.0.size) ∙ sym w.0.bytes in
        rw e (record {
          front = rw (zero-add, size) at (take_put out 0 x zero-le);
          behind = rw (zero-add, size) at (drop-put out 0 x zero-le);
          long = length-put out 0 x (rw (zero-add, size) w.1);
        })

    -- so what was written is an index for this tray, and an accepted one
    pub leaves-accepted : (n : ℕ) (x : List ℕ) → Bytes t → build_answer t d (length out) ≡ Ok n
        → x ≡ take n (build_leaves t d out (build_answer t d (length out)))
        → IndexFramed (run_count t) x × Accepted (runs_of t) (segments_of (run_count t) x)
    leaves-accepted n x b e is =
        let w = ((build-written d (length out) n).0 e).0 in
        rw (is, (leaves-written n e).front) (built-frame w.sound w.size b, built-accepted w.sound w.size b)

    -- after a refusal the output is as it was
    pub leaves-refused : (r : Refusal) → build_answer t d (length out) ≡ Err r → build_leaves t d out (build_answer t d (length out)) ≡ out
    unfolding build_leaves
    leaves-refused r e = rw e
