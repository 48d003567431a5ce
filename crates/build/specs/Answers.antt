-- What the code of build needs of its answers: each law is a way out of a function.
--     Told                   whether the room is enough
--     header_is, size_is, index_is, size-least        the header, and the whole index
--     records-low, most-room, part_low                how many records there are, and a room that is surely enough
--     leaves-index, leaves-same                       what is left in the output
--     answer-frame, -outside, -refused, -short, -fits     the answers of build
--     sounded-is                                      what a tray that was checked is
use Rattle.std.specs.Prelude.{◌≡◌, refl, ℕ, ◌+◌, ◌*◌, ◌/◌, ◌≤◌, ◌<◌, true, false, set, Ok, Err, Result, MatchResult, ◌⊎◌}
use Rattle.std.proofs.Math.Path.{sym, ap, ap₂}
use Rattle.std.proofs.Common.{◌∙◌, ⊎_elim, div-le_self, length-append}
use native.Mathlib.Omega.{arith}
use mathlib.Core.List.{List, [], ◌∷◌, ◌++◌, append_assoc}
use Rattle.std.proofs.Math.ListN.{length}
use borrow.Author.Tests.{le-leb, lt-leb}
use Rattle.number.specs.Big.{bytes_of, put, Bytes}
use Rattle.number.proofs.Big.Laws.{length-bytes_of}
use Rattle.number.proofs.Big.Writes.{put-sets, put-put}
use Rattle.refusal.specs.declared.Refusal.{Refusal}
use Rattle.refusal.specs.declared.Refusal.TheVariants.{TrayFrame as FrameRefusal, SegmentSize, Room}
use Rattle.theory.specs.Records.{Record}
use Rattle.tray.specs.declared.Tray.{Tray}
use Rattle.tray.specs.Frame.{run_count, framed}
use Rattle.tray.specs.Check.{check_tray_answer}
use Rattle.tray.proofs.Check.Theorems.{answers-records}
use Rattle.tray.specs.Meaning.{runs_of}
use Rattle.tray.specs.Meaning.Laws.{length-runs_of}
use Rattle.tray.specs.Meaning.Back.{total-runs_of}
use Rattle.index.specs.Layout.{segment_at}
use Rattle.index.specs.Layout.Code.{segment_at-le}
use Rattle.build_spec.specs.Build.{cuts, segments_bytes, index_bytes, index_size, size_fits, after_check, build_answer, build_leaves}
use Rattle.build_spec.proofs.Build.Bytes.{total-short}
use Rattle.build_spec.proofs.Build.Theorems.{built-most}
use Rattle.build_marks.specs.Code.{Sounded}
use Rattle.build_marks.specs.Code.Writes.{put-before}
use Rattle.build_segment.specs.Segment.Loops.{sounded-fits}

-- whether an output of some room is long enough, told as refusal 7 where it is not
abbrev pub Told : ℕ → ℕ → Result (Unit {0}) Refusal → Type 0
Told size room r = MatchResult r (λ _. size ≤ room) (λ e. (room < size) × (e ≡ Room size))

pub header_is : (out : List ℕ) (h d s : ℕ) → 8 ≤ length out
    → put (set (set (set (set out 0 h) 1 d) 2 0) 3 0) 4 (bytes_of 4 s) ≡ put out 0 ((h ∷ d ∷ 0 ∷ 0 ∷ []) ++ bytes_of 4 s)
header_is out h d s l =
    let four : set (set (set (set out 0 h) 1 d) 2 0) 3 0 ≡ put out 0 (h ∷ d ∷ 0 ∷ 0 ∷ []) = put-sets out 0 (h ∷ d ∷ 0 ∷ 0 ∷ []) (omega arith) in
    ap (λ (o : List ℕ). put o 4 (bytes_of 4 s)) four ∙ put-put out 0 (h ∷ d ∷ 0 ∷ 0 ∷ []) (bytes_of 4 s) (omega arith)

module _ (t : List ℕ) (d : ℕ) {h s : ℕ} (runs-are : h ≡ run_count t) (number : s ≡ length (cuts d (runs_of t))) where
  runs-length : h ≡ length (runs_of t)
  runs-length = runs-are ∙ sym (length-runs_of t)

  pub size_is : {r : ℕ} → r ≡ segment_at h d s → r ≡ index_size d (runs_of t)
  unfolding index_size
  size_is e = e ∙ ap₂ (λ (k n : ℕ). segment_at k d n) runs-length number

  pub index_is : (out : List ℕ) {out₁ out₂ : List ℕ} → 8 ≤ length out → out₁ ≡ put out 8 (segments_bytes d (runs_of t) [] (cuts d (runs_of t)))
      → out₂ ≡ put out₁ 0 ((h ∷ d ∷ 0 ∷ 0 ∷ []) ++ bytes_of 4 s) → out₂ ≡ put out 0 (index_bytes d (runs_of t))
  unfolding index_bytes
  index_is out l p q =
      let body = segments_bytes d (runs_of t) [] (cuts d (runs_of t)) in
      q ∙ ap (λ (o : List ℕ). put o 0 ((h ∷ d ∷ 0 ∷ 0 ∷ []) ++ bytes_of 4 s)) p
      ∙ put-before out 8 ((h ∷ d ∷ 0 ∷ 0 ∷ []) ++ bytes_of 4 s) body l (simp (length-append, length-bytes_of))
      ∙ ap (put out 0) (append_assoc (h ∷ d ∷ 0 ∷ 0 ∷ []) (bytes_of 4 s) body)
      ∙ ap₂ (λ (k n : ℕ). put out 0 ((k ∷ d ∷ 0 ∷ 0 ∷ []) ++ (bytes_of 4 n ++ body))) runs-length number

-- the index has a header
pub size-least : (d : ℕ) (t : List (List Record)) → 8 ≤ index_size d t
unfolding index_size segment_at
size-least d t = omega arith

module _ {tray : Tray} {d n : ℕ} (s : Sounded tray d n) where
  -- a tray has at most 63 times 4,096 records
  pub records-low : n ≤ 258048
  records-low =
      let fits = sounded-fits s in
      omega (arith, s.records, total-runs_of tray.bytes.now, total-short (runs_of tray.bytes.now) fits.counts, fits.most-runs)

  -- a room that is surely enough
  pub most-room : {h x k room : ℕ} → h ≡ run_count tray.bytes.now → x ≡ d → k ≡ segment_at h d (2 * (n / (x + 1)) + 1) → k ≤ room → index_size d (runs_of tray.bytes.now) ≤ room
  unfolding index_size
  most-room {h} {x} {k} {room} runs-are e q l =
      let most : length (cuts d (runs_of tray.bytes.now)) ≤ 2 * (n / (x + 1)) + 1 =
      rw (e, s.records) (built-most s.sound (record { least = s.least; most = s.most })) in
      let inside : segment_at h d (length (cuts d (runs_of tray.bytes.now))) ≤ segment_at h d (2 * (n / (x + 1)) + 1) = segment_at-le h d (length (cuts d (runs_of tray.bytes.now))) (2 * (n / (x + 1)) + 1) most in
      let same : segment_at h d (length (cuts d (runs_of tray.bytes.now))) ≡ segment_at (length (runs_of tray.bytes.now)) d (length (cuts d (runs_of tray.bytes.now))) =
      ap (λ (j : ℕ). segment_at j d (length (cuts d (runs_of tray.bytes.now)))) (runs-are ∙ sym (length-runs_of tray.bytes.now)) in
      omega arith

pub part_low : (n k : ℕ) {most : ℕ} → n ≤ most → n / k ≤ most
part_low n k l = omega (arith, div-le_self n k)

-- what is left where the index was written, and where it was not
pub leaves-index : (t out : List ℕ) {out' : List ℕ} (d r : ℕ) → out' ≡ put out 0 (index_bytes d (runs_of t)) → out' ≡ build_leaves t d out (Ok r)
unfolding build_leaves
leaves-index t out d r e = e

pub leaves-same : (t out : List ℕ) (d : ℕ) (r : Refusal) → out ≡ build_leaves t d out (Err r)
unfolding build_leaves
leaves-same t out d r = refl

module _ (t : List ℕ) (d room : ℕ) where
  pub answer-frame : framed t ≡ false → Err FrameRefusal ≡ build_answer t d room
  unfolding build_answer
  answer-frame n = rw n

  module _ (fit : framed t ≡ true) {h : ℕ} (runs-are : h ≡ run_count t) where
    pub answer-outside : (d < h) ⊎ ((h ≤ d) × (128 < d)) → Err (SegmentSize d) ≡ build_answer t d room
    unfolding build_answer size_fits
    answer-outside x =
        ⊎_elim (λ l. rw (fit, lt-leb (run_count t) d (omega arith)))
        (λ p. let l = p.1 in rw (fit, le-leb (run_count t) d (omega arith), lt-leb d 128 l)) x

    module _ (least : h ≤ d) (most : d ≤ 128) where
      checked-is : build_answer t d room ≡ after_check d (runs_of t) room (check_tray_answer t)
      unfolding build_answer size_fits
      checked-is = rw (fit, le-leb (run_count t) d (omega arith), le-leb d 128 most)

      pub answer-refused : {r : Refusal} → Err r ≡ check_tray_answer t → Err r ≡ build_answer t d room
      unfolding after_check
      answer-refused e = sym (checked-is ∙ rw (sym e))

      module _ {n : ℕ} (e : Ok n ≡ check_tray_answer t) where
        pub answer-short : room < index_size d (runs_of t) → Err (Room (index_size d (runs_of t))) ≡ build_answer t d room
        unfolding after_check
        answer-short l = sym (checked-is ∙ rw (sym e, lt-leb (index_size d (runs_of t)) room l))

        pub answer-fits : {r : ℕ} → index_size d (runs_of t) ≤ room → r ≡ index_size d (runs_of t) → Ok r ≡ build_answer t d room
        unfolding after_check
        answer-fits l q = rw q (sym (checked-is ∙ rw (sym e, le-leb (index_size d (runs_of t)) room l)))

-- what a tray that was checked is
pub sounded-is : (tray : Tray) {d n : ℕ} → Bytes tray.bytes.now → tray.runs ≤ d → d ≤ 128 → Ok n ≡ check_tray_answer tray.bytes.now → Sounded tray d n
sounded-is tray {d} {n} bytes least most e =
    let w = (answers-records tray.bytes.now n).0 (sym e) in
    record { bytes = bytes; sound = w.0; least = omega (arith, tray.frame.runs); most = most; records = w.1 }
