-- The index that the builder writes (docs/RULES.md, "The index": it puts a key's versions into the current segment if all fit and else opens a
-- new one), and its answer for every input: order 1, 6, 3/2, 7.
pub mod Answers
pub mod Theorems
pub mod Read
pub mod Bytes
pub mod Laws
use Rattle.refusal.specs.declared.Refusal.{Refusal}
use Rattle.std.specs.Prelude.{ℕ, ◌-◌, Bool, cond, ◌&&◌, List, [], ◌∷◌, ◌++◌, map, length, replicate, leb, Ok, Err, Result}
use Rattle.number.specs.Big.{bytes_of, put}
use Rattle.refusal.specs.declared.Refusal.TheVariants.{TrayFrame, SegmentSize, Room}
use Rattle.theory.specs.Records.{Record}
use Rattle.theory.specs.View.{view}
use Rattle.theory.specs.Places.{count}
use Rattle.theory.specs.Pack.{joined, groups, pack}
use Rattle.tray.specs.Frame.{run_count, framed}
use Rattle.tray.specs.Check.{check_tray_answer}
use Rattle.tray.specs.Meaning.{runs_of}
use Rattle.theory.specs.Listed.{listed}
use Rattle.index.specs.Layout.{segment_at}
use Rattle.index.specs.Rules.{Item, key_of, placeholder, selector_of}

-- the key of a record of the view
abbrev pub item_key : Item → ℕ
item_key e = key_of e.item

-- the view cut into segments of at most d, a key's versions together
unfoldable pub cuts : ℕ → List (List Record) → List (List Item)
cuts d t = pack d (groups item_key (view key_of t))

-- the anchor: the key of the first record
unfoldable pub anchor_of : List Item → ℕ
anchor_of [] = 0
anchor_of (e ∷ es) = item_key e

-- the offsets of h runs: how many records of each stand in earlier segments, 2 bytes each
unfoldable pub offsets_bytes : ℕ → List Item → List ℕ
offsets_bytes h before = joined (listed h 0 (λ r. bytes_of 2 (count r before)))

-- a segment: anchor, offsets, the selectors of its records, and placeholders
unfoldable pub segment_bytes : ℕ → List (List Record) → List Item → List Item → List ℕ
segment_bytes d t before own =
    bytes_of 8 (anchor_of own) ++ (offsets_bytes (length t) before ++ (map (selector_of t) own ++ replicate (d - length own) placeholder))

-- segments, after the records before them
unfoldable pub segments_bytes : ℕ → List (List Record) → List Item → List (List Item) → List ℕ
segments_bytes d t before [] = []
segments_bytes d t before (own ∷ rest) = segment_bytes d t before own ++ segments_bytes d t (before ++ own) rest

-- the whole index
unfoldable pub index_bytes : ℕ → List (List Record) → List ℕ
index_bytes d t = (length t ∷ d ∷ 0 ∷ 0 ∷ []) ++ (bytes_of 4 (length (cuts d t)) ++ segments_bytes d t [] (cuts d t))

-- its length
unfoldable pub index_size : ℕ → List (List Record) → ℕ
index_size d t = segment_at (length t) d (length (cuts d t))

-- D asked for fits a tray of h runs: from h to 128
unfoldable pub size_fits : ℕ → ℕ → Bool
size_fits h d = leb h d && leb d 128

-- the answer where the tray has been checked, for an output of some room
unfoldable pub after_check : ℕ → List (List Record) → ℕ → Result ℕ Refusal → Result ℕ Refusal
after_check d t room (Err r) = Err r
after_check d t room (Ok n) = cond (leb (index_size d t) room) (Ok (index_size d t)) (Err (Room (index_size d t)))

-- build's answer
unfoldable pub build_answer : List ℕ → ℕ → ℕ → Result ℕ Refusal
build_answer t d room =
    let checked = after_check d (runs_of t) room (check_tray_answer t) in
    cond (framed t) (cond (size_fits (run_count t) d) checked (Err (SegmentSize d))) (Err TrayFrame)

-- what build leaves in the output: the index at its front where it was written, and else what was there
unfoldable pub build_leaves : List ℕ → ℕ → List ℕ → Result ℕ Refusal → List ℕ
build_leaves t d out (Ok n) = put out 0 (index_bytes d (runs_of t))
build_leaves t d out (Err r) = out
