-- The lines of docs/DRAWER.md, "The program `drawer`", and what the words there leave to a case, each by computation.
use Rattle.std.specs.Prelude.{◌≡◌, refl, ℕ, List, [], ◌∷◌}
use Prim.Native.Char.{code}
use Prim.Native.String.{String, [] as none, ◌∷◌ as ◌then◌}
use Rattle.number.specs.Big.{be, bytes_of}
use Rattle.theory.specs.Rising.{any, insert, insert_all}
use Rattle.theory.specs.Listed.{listed}
use Rattle.theory.specs.Merge.{hidden}
use Rattle.theory.specs.View.{spread, entries_from, view, old}
use Rattle.theory.specs.Places.{count}
use Rattle.theory.specs.Pack.{joined, grouped, groups, pack_on, pack}
use Rattle.tray.specs.Frame.{run_count, count_of, records_before, start_of, run_bytes, header_fits, counts_fit, framed}
use Rattle.tray.specs.Run.{record_from, kind_wrong, key_wrong, judge_from}
use Rattle.tray.specs.Check.{after_run, check_runs, check_tray_answer}
use Rattle.tray.specs.Meaning.{run_of, runs_of}
use Rattle.index.specs.Layout.{size_of, segment_count, head_size, segment_at, index_framed}
use Rattle.index.specs.Rules.{selector_of}
use Rattle.index.specs.Scan.{raise}
use Rattle.build_spec.specs.Build.{cuts, anchor_of, offsets_bytes, segment_bytes, segments_bytes, index_bytes, index_size, size_fits, after_check, build_answer}
use Rattle.walk.specs.Start.{probe, start}
use Rattle.walk.specs.Walk.{loaded, named, walk_selectors, walk_segments, walk_from}
use Rattle.walk.specs.Reads.{record_by, unmarked, found_by, seek_visit, seek, got_from, get, low_key, high_key, sheet_visit, sheet_from, sheet, listed_bytes}
use Rattle.walk.specs.Reads.Page.{listing}
use Rattle.answers.specs.Quick.{in_frames}
use Rattle.answers.specs.Get.{got_told, get_framed, get_answer}
use Rattle.answers.specs.Sheet.{prefix_long, prefix_last, listed_in, sheet_told, records_of, sheet_framed, sheet_answer}
use Rattle.hexadecimal.specs.Hex.{is_digit, digit_of, digit, all_digits, bytes_in, hex_of}
use Rattle.drawer_spec.specs.Line.{Turn, answer, refusal, bad_answer, after_tray, after_build, after_get, after_sheet, formed, known, frame_turn, turn, answer_line}

-- a text as its characters
unfoldable pub chars : String → List ℕ
chars none = []
chars (c then s) = code c ∷ chars s

-- the bytes that a text spells
unfoldable pub spelt : String → List ℕ
unfolding chars bytes_in digit_of listed
spelt s = bytes_in (chars s)

-- a turn with all that it computes by: to unfold it is to unfold them
unfoldable pub taken : List ℕ → List ℕ → ℕ → List ℕ → Turn
unfolding chars spelt
    turn frame_turn known formed after_tray after_build after_get after_sheet bad_answer refusal answer all_digits is_digit bytes_in digit_of listed bytes_of be
    check_tray_answer check_runs after_run judge_from kind_wrong key_wrong record_from framed header_fits counts_fit run_count count_of records_before start_of run_bytes
    build_answer after_check size_fits index_size segment_at head_size index_bytes segments_bytes segment_bytes offsets_bytes anchor_of cuts selector_of
    runs_of run_of joined count pack pack_on groups grouped view entries_from spread insert_all insert old hidden any
    get_answer in_frames get_framed got_told get got_from seek start probe walk_from walk_segments walk_selectors loaded named seek_visit record_by unmarked found_by
    index_framed segment_count size_of raise
    sheet_answer sheet_framed sheet_told listed_in prefix_long prefix_last sheet sheet_from sheet_visit low_key high_key records_of listing listed_bytes
taken t x n line = turn t x n line

-- a line and what it says, where it changes nothing
abbrev pub Says : List ℕ → List ℕ → ℕ → String → String → Type 0
Says t x n line answer = turn t x n (chars line) ≡ record { tray = t; index = x; says = spelt answer }

-- the tray of the sound input, and its index
abbrev pub sample_tray : List ℕ
sample_tray = spelt "02000000000100020000000000070001000000032000000190000000010000000200000000000700010000000064000000320000000100000002000000000007000200000000650000003200000000ffffffff"

abbrev pub sample_index : List ℕ
sample_index = spelt "02040000000000010000000000070001000000000081013f"

-- the line that ends in two letters that aren't hexadecimal
pub bad-letters : Says [] [] 1 "01020000000001000200000000000700010000000320000001900000000100000002000000000007000100000000640000003200000001000000020000000000070002000000006500000032zz" "ff0d00000001"
unfolding taken
bad-letters = refl

-- the sound input, line by line
pub sample-1 : turn [] [] 1 (chars "0102000000000100020000000000070001000000032000000190000000010000000200000000000700010000000064000000320000000100000002000000000007000200000000650000003200000000ffffffff") ≡ record { tray = sample_tray; index = []; says = spelt "810000000003" }
unfolding taken
sample-1 = refl

pub sample-2 : turn sample_tray [] 2 (chars "0204") ≡ record { tray = sample_tray; index = sample_index; says = spelt "82000000001802040000000000010000000000070001000000000081013f" }
unfolding taken
sample-2 = refl

pub sample-3 : Says sample_tray sample_index 3 "030000000000070001" "83000000000100000320000001900000000100000002"
unfolding taken
sample-3 = refl

pub sample-4 : Says sample_tray sample_index 4 "030000000000070003" "830000000000"
unfolding taken
sample-4 = refl

pub sample-5 : Says sample_tray sample_index 5 "04000000000007" "8400000000020000000000070001000003200000019000000001000000020000000000070002000000650000003200000000ffffffff"
unfolding taken
sample-5 = refl

pub sample-6 : Says sample_tray sample_index 6 "0400ff" "840900000002"
unfolding taken
sample-6 = refl

-- an answer line, as its text
pub answer-text : answer_line (spelt "840900000002") ≡ chars "840900000002\n"
unfolding taken answer_line hex_of digit
answer-text = refl

-- what else is a bad line, with a tray and an index kept: an empty one,
pub bad-empty : Says sample_tray sample_index 7 "" "ff0d00000007"
unfolding taken
bad-empty = refl

-- an odd one,
pub bad-odd : Says sample_tray sample_index 0xffffffff "020" "ff0dffffffff"
unfolding taken
bad-odd = refl

-- upper case,
pub bad-case : Says sample_tray sample_index 0 "0400FE" "ff0d00000000"
unfolding taken
bad-case = refl

-- a carriage return,
pub bad-return : Says sample_tray sample_index 7 "0204\r" "ff0d00000007"
unfolding taken
bad-return = refl

-- an unknown kind,
pub bad_kind : Says sample_tray sample_index 7 "0500" "ff0d00000007"
unfolding taken
bad_kind = refl

-- a wrong length for 02 or 03
pub bad-build : Says sample_tray sample_index 7 "02" "ff0d00000007"
unfolding taken
bad-build = refl

pub bad-get : Says sample_tray sample_index 7 "03000000000007000100" "ff0d00000007"
unfolding taken
bad-get = refl

-- a refused 02 empties the index, and a refused 01 both
pub refused-build : turn sample_tray sample_index 7 (chars "0201") ≡ record { tray = sample_tray; index = []; says = spelt "820600000001" }
unfolding taken
refused-build = refl

pub refused-tray : turn sample_tray sample_index 7 (chars "0100") ≡ record { tray = []; index = []; says = spelt "810100000000" }
unfolding taken
refused-tray = refl

-- a tray that is kept empties the index
pub other-tray : turn sample_tray sample_index 7 (chars "01010000000000") ≡ record { tray = spelt "010000000000"; index = []; says = spelt "810000000000" }
unfolding taken
other-tray = refl

-- 04 alone is a prefix of no bytes
pub no-prefix : Says sample_tray sample_index 7 "04" "840800000000"
unfolding taken
no-prefix = refl
