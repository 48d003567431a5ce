-- What a line does to the kept tray and index, and what its answer line says (docs/DRAWER.md, "The program `drawer`"), for every line of any bytes.
-- A tray or index that is not there is empty.
pub mod Code
use Rattle.std.specs.Prelude.{ℕ, ◌+◌, ◌%◌, Bool, true, cond, ◌&&◌, List, [], ◌∷◌, ◌++◌, length, get_or, drop, eqb, leb, Ok, Err, Result, Some, None}
use Rattle.number.specs.Big.{bytes_of}
use Rattle.refusal.specs.declared.Refusal.{Refusal}
use Rattle.refusal.specs.Table.{verdict_of}
use Rattle.tray.specs.Check.{check_tray_answer}
use Rattle.tray.specs.Meaning.{runs_of}
use Rattle.build_spec.specs.Build.{build_answer, index_bytes}
use Rattle.answers.specs.Get.{Value, get_answer}
use Rattle.walk.specs.Reads.{sheet}
use Rattle.walk.specs.Reads.Page.{listing}
use Rattle.answers.specs.Sheet.{records_of, sheet_answer}
use Rattle.hexadecimal.specs.Hex.{all_digits, bytes_in, hex_of}

-- the room of a build and of a sheet
abbrev pub room_size : ℕ
room_size = 32768

-- the longest tray that a frame of 16,385 bytes holds
abbrev pub tray_size : ℕ
tray_size = 16384

-- the longest answer line: a head of 6 bytes and a full room, two digits a byte, and a line feed
abbrev pub line_size : ℕ
line_size = 65549

-- after a line: the kept tray and index, and the bytes that the answer line spells
pub record Turn : Type 0 where
  pub tray : List ℕ
  pub index : List ℕ
  pub says : List ℕ

-- an answer: the kind plus 0x80, the refusal (0 none), a figure of 4 bytes, and what comes with it
unfoldable pub answer : ℕ → ℕ → ℕ → List ℕ → List ℕ
answer kind number figure more = (128 + kind) ∷ number ∷ (bytes_of 4 figure ++ more)

-- a refusal's answer ends with its figure
unfoldable pub refusal : ℕ → Refusal → List ℕ
refusal kind r = answer kind (verdict_of r).number (verdict_of r).figure []

-- a bad line's answer: ff0d and the line's number, from 1, modulo 2^32
unfoldable pub bad_answer : ℕ → List ℕ
bad_answer n = 255 ∷ 13 ∷ bytes_of 4 n

-- 01: a tray, kept if check tray accepts it, and the index is emptied; else both become empty
unfoldable pub after_tray : List ℕ → Result ℕ Refusal → Turn
after_tray t (Ok n) = record { tray = t; index = []; says = answer 1 0 n [] }
after_tray t (Err r) = record { tray = []; index = []; says = refusal 1 r }

-- 02: D, build and keep; a refused build leaves the index empty
unfoldable pub after_build : List ℕ → ℕ → Result ℕ Refusal → Turn
after_build t d (Ok n) = record { tray = t; index = index_bytes d (runs_of t); says = answer 2 0 n (index_bytes d (runs_of t)) }
after_build t d (Err r) = record { tray = t; index = []; says = refusal 2 r }

-- 03: a key: 1 and its value, or 0
unfoldable pub after_get : Value → List ℕ
after_get (Ok (Some v)) = answer 3 0 1 v
after_get (Ok None) = answer 3 0 0 []
after_get (Err r) = refusal 3 r

-- 04: a prefix: the records listed
unfoldable pub after_sheet : List ℕ → Result ℕ Refusal → List ℕ
after_sheet list (Ok n) = answer 4 0 n list
after_sheet list (Err r) = refusal 4 r

-- a line is well formed: not empty, even, at most 32,770 characters, all of them digits
unfoldable pub formed : List ℕ → Bool
formed line = leb 1 (length line) && (eqb (length line % 2) 0 && (leb (length line) 32770 && all_digits line))

-- a frame is known: kind 1 or 4, or kind 2 of 2 bytes, or kind 3 of 9
unfoldable pub known : List ℕ → Bool
known frame =
    let kind = get_or frame 0 0 in
    cond (eqb kind 1) true (cond (eqb kind 4) true (cond (eqb kind 2) (eqb (length frame) 2) (cond (eqb kind 3) (eqb (length frame) 9) Bool.false)))

-- what a known frame does, with a kept tray and index
unfoldable pub frame_turn : List ℕ → List ℕ → List ℕ → Turn
frame_turn t x frame =
    let kind = get_or frame 0 0 in
    let rest = drop 1 frame in
    cond (eqb kind 1) (after_tray rest (check_tray_answer rest))
    (cond (eqb kind 2) (after_build t (get_or frame 1 0) (build_answer t (get_or frame 1 0) room_size))
    (cond (eqb kind 3) (record { tray = t; index = x; says = after_get (get_answer t x rest) })
    (record { tray = t; index = x; says = after_sheet (listing (records_of (sheet t x rest))) (sheet_answer t x rest room_size) })))

-- what line number n does: a bad one changes nothing
unfoldable pub turn : List ℕ → List ℕ → ℕ → List ℕ → Turn
turn t x n line =
    let bad : Turn = record { tray = t; index = x; says = bad_answer n } in
    cond (formed line) (cond (known (bytes_in line)) (frame_turn t x (bytes_in line)) bad) bad

-- the answer line: the bytes as digits, and a line feed
unfoldable pub answer_line : List ℕ → List ℕ
answer_line says = hex_of says ++ (10 ∷ [])
