-- What the code of answers and frames needs of the definitions.
--     head-is, said-line             an answer line written: its head, and all of it
--     bad-is, refusal-said           that of a bad line, and that of a refusal
--     index-front                    02: the index that was written
--     sheet-room, sheet-front        04: the listing that was written
use Rattle.std.specs.Prelude.{◌≡◌, ℕ, ◌+◌, ◌*◌, ◌/◌, ◌%◌, ◌≤◌, leb, Ok, Err, Result}
use Rattle.std.proofs.Math.Path.{sym, ap}
use Rattle.std.proofs.Common.{◌∙◌, div-add-mod', zero-add, append_assoc, arith, leb-true}
use mathlib.Core.List.{List, [], ◌∷◌, ◌++◌, append-nil}
use Rattle.std.proofs.Math.ListN.{length, take}
use Rattle.number.specs.Big.{bytes_of, put}
use Rattle.number.proofs.Big.Laws.{length-bytes_of, bytes_of-add}
use Rattle.number.proofs.Big.Writes.{take_put}
use Rattle.refusal.specs.declared.Refusal.{Refusal}
use Rattle.refusal.specs.Table.{verdict_of}
use Rattle.theory.specs.Records.{Record}
use Rattle.theory.specs.Tests.{split, never}
use Rattle.tray.specs.Meaning.{runs_of}
use Rattle.build_spec.specs.Build.{build_answer, index_bytes, build_leaves}
use Rattle.build_spec.proofs.Build.Answers.{build-written, leaves-written}
use Rattle.walk.specs.Walk.{Walked, stayed, ended, lost}
use Rattle.walk.specs.Reads.{sheet}
use Rattle.walk.specs.Reads.Page.{listing}
use Rattle.walk.proofs.ReadsLaws.Page.{length-listing}
use Rattle.answers.specs.Seek.Hands.{in-frames}
use Rattle.answers.specs.Sheet.{prefix_long, prefix_last, listed_in, sheet_told, records_of, sheet_framed, sheet_answer, sheet_leaves}
use Rattle.hexadecimal.specs.Hex.{hex_of}
use Rattle.hexadecimal.specs.Hex.Laws.{hex_of-append}
use Rattle.drawer_spec.specs.Line.{room_size, answer, refusal, bad_answer, answer_line}

-- a number's 4 lowest bytes are those of its lowest 32 bits
low-bytes : (n : ℕ) → bytes_of 4 (n % 0x100000000) ≡ bytes_of 4 n
unfolding bytes_of
low-bytes n = sym (bytes_of-add 0 4 (n / 0x100000000) (n % 0x100000000) (omega arith)) ∙ ap (bytes_of 4) (div-add-mod' n 0x100000000)

-- the head of an answer, whose figure is written behind two bytes
pub head-is : (code number figure : ℕ) {head : List ℕ} → head ≡ put (code ∷ number ∷ 0 ∷ 0 ∷ 0 ∷ 0 ∷ []) 2 (bytes_of 4 (figure % 0x100000000))
    → head ≡ code ∷ number ∷ bytes_of 4 figure
unfolding put
head-is code number figure e =
    e ∙ rw (low-bytes figure, length-bytes_of 4 figure) (ap (λ (l : List ℕ). code ∷ number ∷ l) (append-nil (bytes_of 4 figure)))

-- an answer line, written in three parts
pub said-line : (before head more : List ℕ) → ((before ++ hex_of head) ++ hex_of more) ++ (10 ∷ []) ≡ before ++ answer_line (head ++ more)
unfolding answer_line
said-line before head more = simp (append_assoc, hex_of-append)

-- a bad line's answer is one of kind 127, whose figure is the line's number
pub bad-is : (n : ℕ) → answer 127 13 n [] ≡ bad_answer n
unfolding answer bad_answer
bad-is n = ap (λ (l : List ℕ). 255 ∷ 13 ∷ l) (append-nil (bytes_of 4 n))

-- a refusal's answer, said by its code: nothing comes after its figure
pub refusal-said : (kind : ℕ) (r : Refusal) (before : List ℕ) {after : List ℕ}
    → after ≡ before ++ answer_line ((128 + kind) ∷ (verdict_of r).number ∷ bytes_of 4 (verdict_of r).figure) → after ≡ before ++ answer_line (refusal kind r)
unfolding refusal answer
refusal-said kind r before e = rw (append-nil (bytes_of 4 (verdict_of r).figure)) e

-- 02: the index that was written stands at the front of its buffer
pub record IndexFront (t : List ℕ) (d k : ℕ) (bytes : List ℕ) : Type 0 where
  pub fits : k ≤ room_size
  pub is : take k bytes ≡ index_bytes d (runs_of t)

pub index-front : (t : List ℕ) (d : ℕ) (before : List ℕ) {after : List ℕ} {a : Result ℕ Refusal} {k : ℕ} → length before ≡ room_size
    → a ≡ build_answer t d (length before) → after ≡ build_leaves t d before a → a ≡ Ok k → IndexFront t d k after
index-front t d before {a = a} {k} room is left e =
    let written : build_answer t d (length before) ≡ Ok k = sym is ∙ e in
    record {
      fits = omega (arith, ((build-written t d (length before) k).0 written).1);
      is = ap (take k) (left ∙ ap (build_leaves t d before) is) ∙ (leaves-written t d before k written).front;
    }

-- 04
-- where records are listed, they are those of the walk, and there is room for them
abbrev Fitting : List ℕ → List ℕ → List ℕ → ℕ → Result ℕ Refusal → Type 0
Fitting t x prefix room a = (n : ℕ) → a ≡ Ok n → (n ≡ length (records_of (sheet t x prefix))) × (24 * n ≤ room)

refused-fitting : (t x prefix : List ℕ) (room : ℕ) (r : Refusal) → Fitting t x prefix room (Err r)
refused-fitting t x prefix room r n e = never (cc)

listed-fitting : (room : ℕ) (es : List Record) (n : ℕ) → listed_in room es ≡ Ok n → (n ≡ length es) × (24 * n ≤ room)
unfolding listed_in
listed-fitting room es n =
    split (λ (a : Result ℕ Refusal). a ≡ Ok n → (n ≡ length es) × (24 * n ≤ room)) (leb (24 * length es) room)
    (λ y e. let same : n ≡ length es = cc in (same, omega (arith, leb-true (24 * length es) room y)))
    (λ z e. never (cc))

told-fitting : (room : ℕ) (w : Walked (List Record) (List Record)) (n : ℕ) → sheet_told room w ≡ Ok n
    → (n ≡ length (records_of w)) × (24 * n ≤ room)
unfolding sheet_told records_of
told-fitting room (stayed es) n e = listed-fitting room es n e
told-fitting room (ended es) n e = listed-fitting room es n e
told-fitting room (lost g s es) n e = never (cc)

pub sheet-room : (t x prefix : List ℕ) (room : ℕ) → Fitting t x prefix room (sheet_answer t x prefix room)
unfolding sheet_answer sheet_framed
sheet-room t x prefix room =
    in-frames (Fitting t x prefix room) Err t x _ (refused-fitting t x prefix room)
    (λ f i. split (Fitting t x prefix room) (prefix_long prefix)
    (λ y. split (Fitting t x prefix room) (prefix_last prefix) (λ z. refused-fitting t x prefix room _) (λ z. told-fitting room (sheet t x prefix)))
    (λ y. refused-fitting t x prefix room _))

-- the listing that was written stands at the front of its room
pub record SheetFront (t x prefix : List ℕ) (k : ℕ) (bytes : List ℕ) : Type 0 where
  pub fits : 24 * k ≤ room_size
  pub is : take (24 * k) bytes ≡ listing (records_of (sheet t x prefix))

pub sheet-front : (t x prefix before : List ℕ) {after : List ℕ} {a : Result ℕ Refusal} {k : ℕ} → length before ≡ room_size
    → a ≡ sheet_answer t x prefix (length before) → after ≡ sheet_leaves t x prefix before a → a ≡ Ok k → SheetFront t x prefix k after
unfolding sheet_leaves
sheet-front t x prefix before {after} {k = k} room is left e =
    let fitting = sheet-room t x prefix (length before) k (sym is ∙ e) in
    let es = records_of (sheet t x prefix) in
    let long : 0 + length (listing es) ≡ 24 * k = zero-add (length (listing es)) ∙ length-listing es ∙ ap (λ (n : ℕ). 24 * n) (sym fitting.0) in
    let front : take (0 + length (listing es)) after ≡ listing es =
    ap (take (0 + length (listing es))) (left ∙ ap (sheet_leaves t x prefix before) e) ∙ take_put before 0 (listing es) (omega arith) in
    record { fits = omega (arith, fitting.1); is = rw long at front }
