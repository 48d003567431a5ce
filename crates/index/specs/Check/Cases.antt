-- Worked cases of check index, most of them the sample's with a byte changed. Each holds by computation.
use Rattle.refusal.specs.declared.Refusal.{Refusal}
use Rattle.std.specs.Prelude.{◌≡◌, refl, ℕ, List, [], ◌∷◌, ◌++◌, take, set, replicate, Ok, Err, Result}
use Rattle.number.specs.Big.{be}
use Rattle.refusal.specs.declared.Refusal.TheVariants.{TrayFrame, KeyOrder, IndexFrame, Segment}
use Rattle.tray.specs.Frame.{run_count, count_of, records_before, start_of, run_bytes, header_fits, counts_fit, framed}
use Rattle.tray.specs.Run.{record_from, kind_wrong, key_wrong, judge_from}
use Rattle.tray.specs.Check.{after_run, check_runs, check_tray_answer}
use Rattle.tray.specs.Sample.{sample}
use Rattle.index.specs.Layout.{size_of, segment_count, head_size, segment_at, index_framed}
use Rattle.index.specs.Scan.{marked, raise, begins, joins, offsets_hold, only_placeholders, next_in, has_next, heads_above, used_up, names, closed, following, selectors_scan, segment_scan, scan_from}
use Rattle.index.specs.Check.{after_scan, judge_index, framed_index, after_tray, check_index_answer}
use Rattle.index.specs.Sample.{sample_index}

-- check index with all that it computes by: to unfold it is to unfold them
checked : List ℕ → List ℕ → Result ℕ Refusal
unfolding check_index_answer after_tray framed_index judge_index after_scan index_framed size_of segment_count head_size segment_at scan_from segment_scan selectors_scan following closed names heads_above used_up has_next next_in offsets_hold only_placeholders begins joins marked raise check_tray_answer check_runs after_run judge_from kind_wrong key_wrong record_from framed header_fits counts_fit run_count count_of records_before start_of run_bytes be
checked t x = check_index_answer t x

-- refusal 5
abbrev wrong : ℕ → Result ℕ Refusal
wrong n = Err (Segment n)

-- four selectors
abbrev four : ℕ → ℕ → ℕ → ℕ → List ℕ
four v w y z = v ∷ w ∷ y ∷ z ∷ []

-- the sample's index with other selectors,
abbrev spelling : List ℕ → List ℕ
spelling selectors = take 20 sample_index ++ selectors

-- and with a second segment, whose anchor is a point of sheet 7 and whose offsets are a and b
abbrev in_two : List ℕ → ℕ → ℕ → ℕ → List ℕ → List ℕ
in_two first point a b second =
    set (spelling first) 7 2 ++ (0 ∷ 0 ∷ 0 ∷ 0 ∷ 0 ∷ 7 ∷ 0 ∷ point ∷ 0 ∷ a ∷ 0 ∷ b ∷ second)

-- an index of no segment, for segments of d
abbrev without : ℕ → List ℕ
without d = 2 ∷ d ∷ replicate 6 0

-- point 7:1 of a kind, with no value
abbrev point : ℕ → List ℕ
point kind = 0 ∷ 0 ∷ 0 ∷ 0 ∷ 0 ∷ 7 ∷ 0 ∷ 1 ∷ kind ∷ replicate 16 0

-- a tray that has it in two runs
abbrev twice : ℕ → ℕ → List ℕ
twice k l = 2 ∷ 0 ∷ 0 ∷ 0 ∷ 0 ∷ 1 ∷ 0 ∷ 1 ∷ (point k ++ point l)

-- the sample's index is accepted, and so is one that ends a segment earlier
pub sound : check_index_answer sample sample_index ≡ Ok 1
unfolding checked
sound = refl

pub ends-early : check_index_answer sample (in_two (four 0x00 0x81 0x3f 0x3f) 2 1 1 (four 0x01 0x3f 0x3f 0x3f)) ≡ Ok 2
unfolding checked
ends-early = refl

-- 1 to 3: the tray decides first
pub tray-frame : check_index_answer (take 4 sample) sample_index ≡ Err TrayFrame
unfolding checked
tray-frame = refl

pub tray-key : check_index_answer (set sample 65 1) [] ≡ Err (KeyOrder 2)
unfolding checked
tray-key = refl

-- 4: the header,
pub no_bytes : check_index_answer sample [] ≡ Err IndexFrame
unfolding checked
no_bytes = refl

pub other-runs : check_index_answer sample (set sample_index 0 3) ≡ Err IndexFrame
unfolding checked
other-runs = refl

pub byte-2 : check_index_answer sample (set sample_index 2 1) ≡ Err IndexFrame
unfolding checked
byte-2 = refl

pub byte-3 : check_index_answer sample (set sample_index 3 1) ≡ Err IndexFrame
unfolding checked
byte-3 = refl

-- the segment size,
pub size-1 : check_index_answer sample (without 1) ≡ Err IndexFrame
unfolding checked
size-1 = refl

pub size-2 : check_index_answer sample (without 2) ≡ wrong 0
unfolding checked
size-2 = refl

pub size-128 : check_index_answer sample (without 128) ≡ wrong 0
unfolding checked
size-128 = refl

pub size-129 : check_index_answer sample (without 129) ≡ Err IndexFrame
unfolding checked
size-129 = refl

-- the length
pub byte-missing : check_index_answer sample (take 23 sample_index) ≡ Err IndexFrame
unfolding checked
byte-missing = refl

pub byte-after : check_index_answer sample (sample_index ++ (0 ∷ [])) ≡ Err IndexFrame
unfolding checked
byte-after = refl

-- 5: records left over, where there is no segment and where all are right
pub all_left : check_index_answer sample (without 4) ≡ wrong 0
unfolding checked
all_left = refl

pub one_left : check_index_answer sample (spelling (four 0x00 0x81 0x3f 0x3f)) ≡ wrong 1
unfolding checked
one_left = refl

-- only 0x3f is a placeholder, it is never the first selector, and no selector follows it
pub placeholder-7f : check_index_answer sample (spelling (four 0x00 0x81 0x01 0x7f)) ≡ wrong 0
unfolding checked
placeholder-7f = refl

pub placeholder-bf : check_index_answer sample (spelling (four 0x00 0x81 0x01 0xbf)) ≡ wrong 0
unfolding checked
placeholder-bf = refl

pub placeholder-ff : check_index_answer sample (spelling (four 0x00 0x81 0x01 0xff)) ≡ wrong 0
unfolding checked
placeholder-ff = refl

pub placeholder-first : check_index_answer sample (spelling (four 0x3f 0x00 0x81 0x01)) ≡ wrong 0
unfolding checked
placeholder-first = refl

pub placeholder-between : check_index_answer sample (spelling (four 0x00 0x81 0x3f 0x01)) ≡ wrong 0
unfolding checked
placeholder-between = refl

-- a selector's run is one of the tray, and has a record left
pub run-2 : check_index_answer sample (spelling (four 0x00 0x81 0x02 0x3f)) ≡ wrong 0
unfolding checked
run-2 = refl

pub none_left : check_index_answer sample (spelling (four 0x00 0x81 0x01 0x01)) ≡ wrong 0
unfolding checked
none_left = refl

-- the old mark stands where it must, and nowhere else; equal keys newest first
pub mark-missing : check_index_answer sample (spelling (four 0x00 0x01 0x01 0x3f)) ≡ wrong 0
unfolding checked
mark-missing = refl

pub mark-too-many : check_index_answer sample (spelling (four 0x00 0x81 0x81 0x3f)) ≡ wrong 0
unfolding checked
mark-too-many = refl

pub oldest-first : check_index_answer sample (spelling (four 0x01 0x80 0x01 0x3f)) ≡ wrong 0
unfolding checked
oldest-first = refl

-- a gone record is marked so, old or not, and what stands below it is old
pub gone : check_index_answer (twice 1 0) (spelling (four 0x40 0x81 0x3f 0x3f)) ≡ Ok 1
unfolding checked
gone = refl

pub gone_old : check_index_answer (twice 1 1) (spelling (four 0x40 0xc1 0x3f 0x3f)) ≡ Ok 1
unfolding checked
gone_old = refl

pub gone-unmarked : check_index_answer (twice 1 0) (spelling (four 0x00 0x81 0x3f 0x3f)) ≡ wrong 0
unfolding checked
gone-unmarked = refl

pub below-gone : check_index_answer (twice 1 0) (spelling (four 0x40 0x01 0x3f 0x3f)) ≡ wrong 0
unfolding checked
below-gone = refl

-- the anchor is the first key; the offsets are those of the first key, not of the last
pub anchor-last : check_index_answer sample (set sample_index 15 2) ≡ wrong 0
unfolding checked
anchor-last = refl

pub offsets-last : check_index_answer sample (set (set sample_index 17 1) 19 1) ≡ wrong 0
unfolding checked
offsets-last = refl

pub offset-second : check_index_answer sample (in_two (four 0x00 0x81 0x3f 0x3f) 2 1 2 (four 0x01 0x3f 0x3f 0x3f)) ≡ wrong 1
unfolding checked
offset-second = refl

-- all versions of a key share a segment
pub versions-cut : check_index_answer sample (in_two (four 0x00 0x3f 0x3f 0x3f) 1 1 0 (four 0x81 0x01 0x3f 0x3f)) ≡ wrong 0
unfolding checked
versions-cut = refl
