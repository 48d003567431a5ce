-- What the sample tray means, and what its runs are written as. Each case holds by computation.
use Rattle.std.specs.Prelude.{◌≡◌, refl, ℕ, List, [], ◌∷◌}
use Rattle.number.specs.Big.{be, bytes_of}
use Rattle.theory.specs.Listed.{listed}
use Rattle.theory.specs.Records.{Record}
use Rattle.tray.specs.Frame.{run_count, count_of, records_before, start_of, run_bytes}
use Rattle.tray.specs.Run.{record_from}
use Rattle.tray.specs.Sample.{sample}
use Rattle.tray.specs.Meaning.{run_of, runs_of, record_bytes, records_bytes, counts_bytes, runs_bytes, tray_bytes}

-- a point, live
abbrev point : ℕ → ℕ → Record
point k v = record { key = k; kind = 0; value = v }

abbrev sample_runs : List (List Record)
sample_runs =
    (point 0x70001 0x320000001900000000100000002 ∷ [])
    ∷ (point 0x70001 0x64000000320000000100000002 ∷ point 0x70002 0x650000003200000000ffffffff ∷ [])
    ∷ []

-- what it means
pub means : runs_of sample ≡ sample_runs
unfolding runs_of run_of listed run_count count_of records_before start_of run_bytes record_from be
means = refl

-- and what its runs are written as
pub written : tray_bytes (runs_of sample) ≡ sample
unfolding tray_bytes counts_bytes runs_bytes records_bytes record_bytes bytes_of runs_of run_of listed run_count count_of records_before start_of run_bytes record_from be
written = refl
