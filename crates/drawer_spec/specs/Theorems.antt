-- What follows from `turn` for every line (docs/DRAWER.md, "The program `drawer`").
--     bad-formed, bad-frame     a bad line changes nothing, and says ff0d with its number
--     over-long, turn-front     an over-long line is bad; what stands from character 32,771 on does not matter
--     tray-alone, sheet-alone   01 alone is check tray of nothing, 04 alone is sheet with an empty prefix
--     says-bytes, says-room     what a line says are bytes, at most 6 and a full room
--     answer-digits, answer-room     so an answer line has digits and one line feed at its end, at most 65,549 of them
use Rattle.std.specs.Prelude.{◌≡◌, refl, ℕ, ◌+◌, ◌≤◌, ◌<◌, true, false, List, [], ◌∷◌, ◌++◌, length, get_or, take, drop, eqb, leb, Ok, Err, Result}
use Rattle.std.proofs.Common.{sym, ap, ◌∙◌, arith, length-append, take_all, length-take-le, leb-true, leb-false}
use Rattle.number.specs.Big.{bytes_of, Bytes}
use Rattle.number.proofs.Big.Laws.{length-bytes_of, bytes-bytes_of, bytes-cons, bytes-append}
use Rattle.refusal.specs.declared.Refusal.{Refusal}
use Rattle.refusal.specs.declared.Refusal.TheVariants.{TrayFrame, KeyOrder, RecordKind, IndexFrame, Segment, SegmentSize, Room, Bounds, PrefixEnd, Lost, Cursor, RunLength}
use Rattle.refusal.specs.Table.{verdict_of}
use Rattle.theory.specs.Records.{Record}
use Rattle.theory.specs.Listed.{listed}
use Rattle.theory.specs.Tests.{split, cases}
use Rattle.tray.specs.Check.{check_tray_answer}
use Rattle.tray.specs.Meaning.{runs_of}
use Rattle.build_spec.specs.Build.{build_answer, index_bytes}
use Rattle.build_spec.proofs.Build.Answers.{build-written}
use Rattle.build_spec.proofs.Build.Bytes.{length-index_bytes, bytes-index_bytes}
use Rattle.build_spec.proofs.Build.Theorems.{sound-ready}
use Rattle.answers.specs.Get.{get_answer, get_framed, got_told}
use Rattle.answers.specs.Seek.Hands.{in-frames}
use Rattle.walk.specs.Reads.{Got, value, absent, get-lost, get, listed_bytes, sheet}
use Rattle.walk.specs.Reads.Page.{listing}
use Rattle.walk.proofs.ReadsLaws.Page.{length-listing}
use Rattle.answers.specs.Sheet.{records_of, sheet_answer}
use Rattle.hexadecimal.specs.Hex.{is_digit, digit_of, all_digits, bytes_in, hex_of}
use Rattle.hexadecimal.specs.Hex.Laws.{length-hex_of, all_digits-hex_of}
use Rattle.drawer_spec.specs.Line.{room_size, line_size, Turn, answer, refusal, bad_answer, after_tray, after_build, after_get, after_sheet, formed, known, frame_turn, turn, answer_line}
use Rattle.drawer_spec.specs.Line.Code.{sheet-room}
use Rattle.drawer_spec.specs.Turns.{heard, ignored, formed-known, turn-heard, turn-ignored, heard-known, heard-bad}

-- a line that is not well formed changes nothing, and is told by its number
pub bad-formed : (t x : List ℕ) (n : ℕ) (line : List ℕ) → formed line ≡ false → turn t x n line ≡ record { tray = t; index = x; says = bad_answer n }
unfolding ignored
bad-formed t x n line e = turn-ignored t x n line e

-- and so does one whose frame is not known
pub bad-frame : (t x : List ℕ) (n : ℕ) (line : List ℕ) → known (bytes_in line) ≡ false → turn t x n line ≡ record { tray = t; index = x; says = bad_answer n }
unfolding turn
bad-frame t x n line e = rw e (split (λ (u : Turn). u ≡ record { tray = t; index = x; says = bad_answer n }) (formed line) (λ y. refl) (λ y. refl))

-- an over-long line is bad
pub over-long : (t x : List ℕ) (n : ℕ) (line : List ℕ) → 32770 < length line → turn t x n line ≡ record { tray = t; index = x; says = bad_answer n }
over-long t x n line l = cases (formed line) (λ y. absurd (omega (arith, (formed-known line y).short))) (bad-formed t x n line)

-- so what stands from character 32,771 on does not matter
pub turn-front : (t x : List ℕ) (n : ℕ) (line : List ℕ) → turn t x n line ≡ turn t x n (take 32771 line)
turn-front t x n line =
    cases (leb (length line) 32770) (λ y. ap (turn t x n) (sym (take_all 32771 line (omega (arith, leb-true (length line) 32770 y)))))
    (λ y. let long : 32770 < length line = leb-false (length line) 32770 y in
    let cut : length (take 32771 line) ≡ 32771 = length-take-le 32771 line (omega arith) in
    over-long t x n line long ∙ sym (over-long t x n (take 32771 line) (omega arith)))

-- 01 alone is check tray of nothing
pub tray-alone : (t x : List ℕ) (n : ℕ) → turn t x n (48 ∷ 49 ∷ []) ≡ after_tray [] (check_tray_answer [])
unfolding turn formed known frame_turn all_digits is_digit bytes_in digit_of listed
tray-alone t x n = refl

-- 04 alone is sheet with an empty prefix
pub sheet-alone : (t x : List ℕ) (n : ℕ)
    → turn t x n (48 ∷ 52 ∷ []) ≡ record { tray = t; index = x; says = after_sheet (listing (records_of (sheet t x []))) (sheet_answer t x [] room_size) }
unfolding turn formed known frame_turn all_digits is_digit bytes_in digit_of listed
sheet-alone t x n = refl

-- what may be said: bytes, at most a head and a full room
pub record Sayable (says : List ℕ) : Type 0 where
  pub bytes : Bytes says
  pub fits : length says ≤ 6 + room_size

-- an answer is, where its kind and number are bytes, and what comes with it are bytes that fit the room
sayable-answer : (kind number figure : ℕ) (more : List ℕ) → kind < 128 → number < 256 → Bytes more → length more ≤ room_size
    → Sayable (answer kind number figure more)
unfolding answer
sayable-answer kind number figure more k n b l =
    record {
      bytes = bytes-cons (128 + kind) (number ∷ (bytes_of 4 figure ++ more)) (omega arith) (bytes-cons number (bytes_of 4 figure ++ more) n (bytes-append (bytes_of 4 figure) more (bytes-bytes_of 4 figure) b));
      fits = simp (length-append, length-bytes_of) (omega arith);
    }

none-bytes : Bytes []
none-bytes i = omega arith

-- a refusal's number is one of twelve
number-low : (r : Refusal) → (verdict_of r).number < 256
number-low TrayFrame = omega arith
number-low (KeyOrder n) = omega arith
number-low (RecordKind n) = omega arith
number-low IndexFrame = omega arith
number-low (Segment n) = omega arith
number-low (SegmentSize n) = omega arith
number-low (Room n) = omega arith
number-low (Bounds n) = omega arith
number-low (PrefixEnd n) = omega arith
number-low (Lost g s) = omega arith
number-low (Cursor n) = omega arith
number-low (RunLength n) = omega arith

sayable-refusal : (kind : ℕ) (r : Refusal) → kind < 128 → Sayable (refusal kind r)
unfolding refusal
sayable-refusal kind r k = sayable-answer kind (verdict_of r).number (verdict_of r).figure [] k (number-low r) none-bytes (omega arith)

sayable-bad : (n : ℕ) → Sayable (bad_answer n)
unfolding bad_answer
sayable-bad n =
    record { bytes = bytes-cons 255 (13 ∷ bytes_of 4 n) (omega arith) (bytes-cons 13 (bytes_of 4 n) (omega arith) (bytes-bytes_of 4 n)); fits = omega (arith, length-bytes_of 4 n) }

sayable-tray : (t : List ℕ) (a : Result ℕ Refusal) → Sayable (after_tray t a).says
unfolding after_tray
sayable-tray t (Ok n) = sayable-answer 1 0 n [] (omega arith) (omega arith) none-bytes (omega arith)
sayable-tray t (Err r) = sayable-refusal 1 r (omega arith)

sayable-build : (t : List ℕ) (d : ℕ) (a : Result ℕ Refusal) → build_answer t d room_size ≡ a → Sayable (after_build t d a).says
unfolding after_build
sayable-build t d (Ok n) e =
    let w = (build-written t d room_size n).0 e in
    let ready = sound-ready w.0.sound w.0.size in
    sayable-answer 2 0 n (index_bytes d (runs_of t)) (omega arith) (omega arith) (bytes-index_bytes ready) (omega (arith, length-index_bytes ready, w.0.bytes, w.1))
sayable-build t d (Err r) e = sayable-refusal 2 r (omega arith)

sayable-get : (t x key : List ℕ) → Sayable (after_get (get_answer t x key))
unfolding get_answer get_framed after_get got_told
sayable-get t x key = in-frames (λ g. Sayable (after_get g)) Err t x _ refused (λ f i. told (get t x _))
  where
    refused : (r : Refusal) → Sayable (after_get (Err r))
    refused r = sayable-refusal 3 r (omega arith)

    told : (g : Got) → Sayable (after_get (got_told g))
    told (value v) = sayable-answer 3 0 1 (bytes_of 16 v) (omega arith) (omega arith) (bytes-bytes_of 16 v) (omega (arith, length-bytes_of 16 v))
    told absent = sayable-answer 3 0 0 [] (omega arith) (omega arith) none-bytes (omega arith)
    told (get-lost g s) = sayable-refusal 3 _ (omega arith)

listing-bytes : (es : List Record) → Bytes (listing es)
unfolding listing listed_bytes
listing-bytes [] = none-bytes
listing-bytes (e ∷ es) =
    bytes-append (listed_bytes e) (listing es) (bytes-append (bytes_of 8 e.key) (bytes_of 16 e.value) (bytes-bytes_of 8 e.key) (bytes-bytes_of 16 e.value))
    (listing-bytes es)

sayable-sheet : (t x prefix : List ℕ) (a : Result ℕ Refusal) → sheet_answer t x prefix room_size ≡ a
    → Sayable (after_sheet (listing (records_of (sheet t x prefix))) a)
unfolding after_sheet
sayable-sheet t x prefix (Ok n) e =
    let fits = sheet-room t x prefix room_size n e in
    let es = records_of (sheet t x prefix) in
    sayable-answer 4 0 n (listing es) (omega arith) (omega arith) (listing-bytes es) (omega (arith, length-listing es, fits.0, fits.1))
sayable-sheet t x prefix (Err r) e = sayable-refusal 4 r (omega arith)

-- what a known frame says
sayable-frame : (t x frame : List ℕ) → Sayable (frame_turn t x frame).says
unfolding frame_turn
sayable-frame t x frame =
    let kind = get_or frame 0 0 in
    let rest = drop 1 frame in
    split (λ (u : Turn). Sayable u.says) (eqb kind 1) (λ y. sayable-tray rest (check_tray_answer rest))
    (λ y. split (λ (u : Turn). Sayable u.says) (eqb kind 2) (λ z. sayable-build t (get_or frame 1 0) _ refl)
    (λ z. split (λ (u : Turn). Sayable u.says) (eqb kind 3) (λ w. sayable-get t x rest) (λ w. sayable-sheet t x rest _ refl)))

-- what any frame says
sayable-heard : (t x : List ℕ) (n : ℕ) (frame : List ℕ) → Sayable (heard t x n frame).says
unfolding ignored
sayable-heard t x n frame =
    cases (known frame) (λ y. rw (heard-known t x n frame y) (sayable-frame t x frame)) (λ y. rw (heard-bad t x n frame y) (sayable-bad n))

-- what any line says are bytes, at most a head and a full room
pub turn-sayable : (t x : List ℕ) (n : ℕ) (line : List ℕ) → Sayable (turn t x n line).says
unfolding ignored
turn-sayable t x n line =
    cases (formed line) (λ y. rw (turn-heard t x n line y) (sayable-heard t x n (bytes_in line))) (λ y. rw (turn-ignored t x n line y) (sayable-bad n))

-- an answer line: digits, and a line feed after them
pub record LineOf (line : List ℕ) : Type 0 where
  pub digits : List ℕ
  pub all_digits : all_digits digits ≡ true
  pub is : line ≡ digits ++ (10 ∷ [])
  pub fits : length line ≤ line_size

pub answer-line : (t x : List ℕ) (n : ℕ) (line : List ℕ) → LineOf (answer_line (turn t x n line).says)
unfolding answer_line
answer-line t x n line =
    let says = (turn t x n line).says in
    let s = turn-sayable t x n line in
    record {
      digits = hex_of says;
      all_digits = all_digits-hex_of says s.bytes;
      is = refl;
      fits = simp length-append (omega (arith, length-hex_of says, s.fits));
    }
