-- Worked cases of sheet on trays of one run and an index of one segment. Each holds by computation.
use Rattle.refusal.specs.declared.Refusal.{Refusal}
use Rattle.std.specs.Prelude.{◌≡◌, refl, ℕ, List, [], ◌∷◌, ◌++◌, replicate, Ok, Err, Result}
use Rattle.number.specs.Big.{be}
use Rattle.refusal.specs.declared.Refusal.TheVariants.{IndexFrame, Room, Bounds, PrefixEnd, Lost}
use Rattle.theory.specs.Listed.{listed}
use Rattle.tray.specs.Frame.{run_count, count_of, records_before, start_of, run_bytes, header_fits, counts_fit, framed}
use Rattle.tray.specs.Run.{record_from}
use Rattle.index.specs.Layout.{size_of, segment_count, head_size, segment_at, index_framed}
use Rattle.index.specs.Scan.{raise}
use Rattle.walk.specs.Start.{probe, start}
use Rattle.walk.specs.Walk.{loaded, named, walk_selectors, walk_segments, walk_from}
use Rattle.walk.specs.Reads.{record_by, unmarked, found_by, seek_visit, seek, low_key, high_key, sheet_visit, sheet_from, sheet}
use Rattle.answers.specs.Quick.{in_frames}
use Rattle.answers.specs.Sheet.{prefix_long, prefix_last, listed_in, sheet_told, sheet_framed, sheet_answer}

-- sheet's answer with all that it computes by: to unfold it is to unfold them
answered : List ℕ → List ℕ → List ℕ → ℕ → Result ℕ Refusal
unfolding sheet_answer sheet_framed sheet_told listed_in prefix_long prefix_last in_frames sheet sheet_from sheet_visit low_key high_key seek seek_visit found_by unmarked record_by walk_from walk_segments walk_selectors named loaded start probe index_framed size_of segment_count head_size segment_at raise record_from framed header_fits counts_fit run_count count_of records_before start_of run_bytes listed be
answered t x prefix room = sheet_answer t x prefix room

-- a point whose key begins with a byte, with no value
abbrev point : ℕ → List ℕ
point k = k ∷ replicate 24 0

-- a tray of one run of three points
abbrev tray : ℕ → ℕ → ℕ → List ℕ
tray a b c = 1 ∷ 0 ∷ 0 ∷ 0 ∷ 0 ∷ 3 ∷ (point a ++ (point b ++ point c))

-- an index of one segment, with these selectors
abbrev index : ℕ → ℕ → ℕ → List ℕ
index u v w = 1 ∷ 3 ∷ 0 ∷ 0 ∷ 0 ∷ 0 ∷ 0 ∷ 1 ∷ (replicate 10 0 ++ (u ∷ v ∷ w ∷ []))

abbrev plain : List ℕ
plain = index 0 0 0

-- sheet 5 of three points,
pub within : sheet_answer (tray 4 5 6) plain (5 ∷ []) 24 ≡ Ok 1
unfolding answered
within = refl

-- and where there is a byte too little room
pub short : sheet_answer (tray 4 5 5) plain (5 ∷ []) 47 ≡ Err (Room 48)
unfolding answered
short = refl

-- sheet does not filter: on runs in wrong order it lists a key below the prefix too,
pub unfiltered : sheet_answer (tray 5 4 5) plain (5 ∷ []) 72 ≡ Ok 3
unfolding answered
unfiltered = refl

-- and stops at the first key past it
pub stops : sheet_answer (tray 5 6 5) plain (5 ∷ []) 72 ≡ Ok 1
unfolding answered
stops = refl

-- nothing found needs no room
pub nothing : sheet_answer (tray 1 2 3) plain (5 ∷ []) 0 ≡ Ok 0
unfolding answered
nothing = refl

-- a lost walk comes before too little room
pub lost-first : sheet_answer (tray 5 5 5) (index 0 0x7f 0) (5 ∷ []) 0 ≡ Err (Lost 0 1)
unfolding answered
lost-first = refl

-- a prefix of 0 or 9 bytes, though its last byte is 255; the last byte 255; and the index's frame before both
pub empty : sheet_answer (tray 4 5 6) plain [] 72 ≡ Err (Bounds 0)
unfolding answered
empty = refl

pub nine : sheet_answer (tray 4 5 6) plain (replicate 9 255) 72 ≡ Err (Bounds 9)
unfolding answered
nine = refl

pub last-255 : sheet_answer (tray 4 5 6) plain (0 ∷ 255 ∷ []) 72 ≡ Err (PrefixEnd 2)
unfolding answered
last-255 = refl

pub frame-first : sheet_answer (tray 4 5 6) [] [] 72 ≡ Err IndexFrame
unfolding answered
frame-first = refl
