-- The index that is built for a sound tray (docs/RULES.md, "The index"): its frame, its segments, that it is accepted, and how many segments
-- it has. How long it is and that it is bytes: `length-index_bytes` and `bytes-index_bytes`, by `sound-ready`.
use Rattle.std.specs.Prelude.{◌≡◌, ℕ, ◌+◌, ◌*◌, ◌/◌, ◌≤◌, List, [], length}
use Rattle.std.proofs.Common.{◌∙◌}
use Rattle.number.specs.Big.{Bytes}
use Rattle.theory.specs.View.{view}
use Rattle.tray.specs.Frame.{run_count, records_before}
use Rattle.tray.specs.Check.{Sound}
use Rattle.tray.specs.Meaning.{runs_of}
use Rattle.tray.specs.Meaning.Laws.{length-runs_of, runs-good}
use Rattle.tray.specs.Meaning.Back.{total-runs_of, fits-runs}
use Rattle.index.specs.Layout.{size_of, segment_count, segments_of, IndexFramed}
use Rattle.index.specs.Rules.{key_of, Accepted}
use Rattle.build_spec.specs.Build.{cuts, index_bytes}
use Rattle.build_spec.specs.Build.Laws.{Ready}
use Rattle.build_spec.proofs.Build.Laws.{cuts-bound, cuts-most, length-view}
use Rattle.build_spec.specs.Build.Read.{built_segments}
use Rattle.build_spec.proofs.Build.Read.{read-size, read_count, read-frame, read-segments}
use Rattle.build_spec.proofs.Build.Accepted.{accepted-built}
use Rattle.build_spec.specs.Build.Theorems.{SizeFits}

-- D as it is written
pub built-size : (t : List ℕ) (d : ℕ) → size_of (index_bytes d (runs_of t)) ≡ d
built-size t d = read-size d (runs_of t)

module _ {t : List ℕ} {d : ℕ} (sound : Sound t) (size : SizeFits (run_count t) d) where
  -- an index can be built
  pub sound-ready : Ready d (runs_of t)
  sound-ready =
      record {
        good = runs-good sound;
        few = rw length-runs_of sound.frame.most-runs;
        least = rw length-runs_of size.least;
        most = size.most;
      }

  -- the view has all records of the tray
  length-viewed : length (view key_of (runs_of t)) ≡ records_before t (run_count t)
  length-viewed = length-view sound-ready ∙ total-runs_of t

  -- half of S rounded down, times D + 1, is at most N
  pub built-bound : length (cuts d (runs_of t)) / 2 * (d + 1) ≤ records_before t (run_count t)
  built-bound = rw length-viewed at (cuts-bound d (runs_of t))

  -- so S is at most
  pub built-most : length (cuts d (runs_of t)) ≤ 2 * (records_before t (run_count t) / (d + 1)) + 1
  built-most = rw length-viewed at (cuts-most d (runs_of t))

  module _ (bytes : Bytes t) where
    -- the frame of an index for this tray
    pub built-frame : IndexFramed (run_count t) (index_bytes d (runs_of t))
    built-frame = rw length-runs_of at (read-frame sound-ready (fits-runs sound.frame bytes))

    -- S as it is written
    pub built-count : segment_count (index_bytes d (runs_of t)) ≡ length (cuts d (runs_of t))
    built-count = read_count sound-ready (fits-runs sound.frame bytes)

    -- the segments that the bytes spell
    pub built-segments : segments_of (run_count t) (index_bytes d (runs_of t)) ≡ built_segments d (runs_of t) [] (cuts d (runs_of t))
    built-segments = rw length-runs_of at (read-segments sound-ready (fits-runs sound.frame bytes))

    -- every segment is right, and no record is left over
    pub built-accepted : Accepted (runs_of t) (segments_of (run_count t) (index_bytes d (runs_of t)))
    built-accepted = rw built-segments (accepted-built sound-ready)
