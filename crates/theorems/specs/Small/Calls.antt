-- What the library's definitions give for runs and a D: each call with all that it computes by, so that to unfold it here is to unfold them.
use Rattle.refusal.specs.declared.Refusal.{Refusal}
use Rattle.std.specs.Prelude.{ℕ, List, [], ◌∷◌, ◌++◌, map, length, replicate, Ok, Err, Result, Some, None}
use Rattle.number.specs.Big.{be, bytes_of, put}
use Rattle.refusal.specs.Table.{verdict_of}
use Rattle.refusal.specs.declared.Verdict.{Verdict}
use Rattle.theory.specs.Rising.{any, keep, insert, insert_all}
use Rattle.theory.specs.Listed.{listed}
use Rattle.theory.specs.Records.{Record}
use Rattle.theory.specs.Merge.{hidden, over, merged, fold}
use Rattle.theory.specs.View.{spread, entries_from, view, old}
use Rattle.theory.specs.Places.{count}
use Rattle.theory.specs.Pack.{joined, grouped, groups, pack_on, pack}
use Rattle.tray.specs.Frame.{run_count, count_of, records_before, start_of, run_bytes, header_fits, counts_fit, framed}
use Rattle.tray.specs.Run.{record_from, kind_wrong, key_wrong, judge_from}
use Rattle.tray.specs.Check.{after_run, check_runs, check_tray_answer}
use Rattle.tray.specs.Meaning.{run_of, runs_of, record_bytes, records_bytes, counts_bytes, runs_bytes, tray_bytes, total}
use Rattle.index.specs.Layout.{size_of, segment_count, head_size, segment_at, Segment, index_framed}
use Rattle.index.specs.Rules.{selector_of}
use Rattle.index.specs.Scan.{marked, raise, begins, joins, offsets_hold, only_placeholders, next_in, has_next, heads_above, used_up, names, closed, following, selectors_scan, segment_scan, scan_from}
use Rattle.index.specs.Check.{after_scan, judge_index, framed_index, after_tray, check_index_answer}
use Rattle.build_spec.specs.Build.{cuts, anchor_of, offsets_bytes, segment_bytes, segments_bytes, index_bytes, index_size, size_fits, after_check, build_answer, build_leaves}
use Rattle.fold_spec.specs.Fold.{folded_run, folded_runs, fold_bytes, fold_size, bounds_hold, after_check as after_fold, fold_answer, fold_leaves}
use Rattle.answers.specs.declared.Stand.{Stand}
use Rattle.answers.specs.declared.Stand.TheVariants.{Found as SeekFound, End as SeekEnd}
use Rattle.walk.specs.Start.{probe, start}
use Rattle.walk.specs.Walk.{loaded, named, walk_selectors, walk_segments}
use Rattle.walk.specs.Reads.{record_by, unmarked, end_spot, found_by, seek_visit, seek, got_from, get}
use Rattle.answers.specs.Quick.{cursor_of, in_frames}
use Rattle.answers.specs.Seek.{seek_told, seek_framed, seek_answer}
use Rattle.answers.specs.Get.{Value, got_told, get_framed, get_answer}
use Rattle.theorems.specs.Small.Rows.{accepted}

-- what a call gives: its answer as number and figure, and what it leaves in its output, if it has one
pub record Given : Type 0 where
  pub answer : Verdict
  pub output : List ℕ

-- a call without output
abbrev pub gives : Verdict → Given
gives v = record { answer = v; output = [] }

-- the output of build or fold before the call
abbrev pub room : List ℕ
room = replicate 200 0xaa

-- the bytes of an index that is given by its segments: with segments of d, for h runs
abbrev pub bytes_of_segment : Segment → List ℕ
bytes_of_segment s = bytes_of 8 s.anchor ++ (joined (map (bytes_of 2) s.offsets) ++ s.selectors)

unfoldable pub bytes_of_index : ℕ → ℕ → List Segment → List ℕ
unfolding joined bytes_of
bytes_of_index h d ss = (h ∷ d ∷ 0 ∷ 0 ∷ []) ++ (bytes_of 4 (length ss) ++ joined (map bytes_of_segment ss))

-- answers as number and figure
abbrev pub count_verdict : Result ℕ Refusal → Verdict
count_verdict (Ok n) = accepted n
count_verdict (Err r) = verdict_of r

-- seek's answer: 1 with run and place where it found a record, 0 at the end
abbrev pub seek_given : Result Stand Refusal → Given
seek_given (Ok (SeekFound run place c)) = record { answer = accepted 1; output = run.0 ∷ place.0 ∷ [] }
seek_given (Ok (SeekEnd c)) = gives (accepted 0)
seek_given (Err r) = gives (verdict_of r)

-- get's answer: 1 with the value where it found one, 0 where it did not
abbrev pub get_given : Value → Given
get_given (Ok (Some v)) = record { answer = accepted 1; output = v }
get_given (Ok None) = gives (accepted 0)
get_given (Err r) = gives (verdict_of r)

-- check tray
unfoldable pub checks : List (List Record) → Given
unfolding tray_bytes counts_bytes runs_bytes records_bytes record_bytes bytes_of
    check_tray_answer check_runs after_run judge_from kind_wrong key_wrong record_from framed header_fits counts_fit run_count count_of records_before start_of run_bytes be
checks runs = gives (count_verdict (check_tray_answer (tray_bytes runs)))

-- check index, for an index that is given by its segments
unfoldable pub judged : List (List Record) → ℕ → List Segment → Given
unfolding checks bytes_of_index
    check_index_answer after_tray framed_index judge_index after_scan scan_from segment_scan selectors_scan following closed names used_up heads_above has_next next_in
    only_placeholders offsets_hold joins begins raise marked index_framed segment_at head_size segment_count size_of
judged runs d ss = gives (count_verdict (check_index_answer (tray_bytes runs) (bytes_of_index (length runs) d ss)))

-- build
unfoldable pub built : List (List Record) → ℕ → Given
unfolding checks
    build_leaves build_answer after_check size_fits index_size segment_at head_size index_bytes segments_bytes segment_bytes offsets_bytes anchor_of cuts selector_of put
    runs_of run_of listed joined count pack pack_on groups grouped view entries_from spread insert_all insert old hidden any
built runs d =
    let a = build_answer (tray_bytes runs) d (length room) in
    record { answer = count_verdict a; output = build_leaves (tray_bytes runs) d room a }

-- seek and get of a key, through an index that is given by its segments
unfoldable pub sought : List (List Record) → ℕ → List Segment → ℕ → Given
unfolding judged listed
    seek_answer in_frames seek_framed seek_told seek start probe walk_segments walk_selectors loaded named seek_visit record_by unmarked found_by end_spot cursor_of
sought runs d ss key = seek_given (seek_answer (tray_bytes runs) (bytes_of_index (length runs) d ss) (bytes_of 8 key))

unfoldable pub gotten : List (List Record) → ℕ → List Segment → ℕ → Given
unfolding sought get_answer get_framed got_told get got_from
gotten runs d ss key = get_given (get_answer (tray_bytes runs) (bytes_of_index (length runs) d ss) (bytes_of 8 key))

-- fold
unfoldable pub folded : List (List Record) → ℕ → ℕ → Given
unfolding checks
    fold_leaves fold_answer after_fold bounds_hold fold_size folded_run fold_bytes folded_runs total fold merged over hidden any keep insert insert_all put
    runs_of run_of listed
folded runs a b =
    let r = fold_answer (tray_bytes runs) a b (length room) in
    record { answer = count_verdict r; output = fold_leaves (tray_bytes runs) a b room r }
