-- Laws of the runs that a tray means: its records by run and place, and that a framed tray is sound exactly when its runs are good.
--     length-run_of, get_elem?-run_of, get_elem?-run_of-past     a run has n records, each at its place
--     mem-run_of, all-run_of                                  they are its members
--     rises-run_of, run_of-rises                              a run rises exactly when each key is below the next one
--     run_in, length-runs_of, get_elem?-runs_of, run_at-runs_of, run_at-runs_of-past     a tray has H runs, each at its number
--     mem-runs_of, all-runs_of                                they are its members
--     runs-good, good-sound                                 soundness in the rules' words, and the runs that are good
use Rattle.std.specs.Prelude.{◌≡◌, ℕ, suc, ◌≤◌, ◌<◌, List, [], length}
use Rattle.std.proofs.Math.Option.{none, some}
use Rattle.std.proofs.Common.{zero-add, arith}
use Rattle.std.proofs.Math.ListN.{get_elem?}
use Rattle.theory.specs.Lists.{place_none}
use Rattle.theory.specs.Rising.{Mem, All, Rises}
use Rattle.theory.proofs.Listed.Laws.{length-listed, mem-listed, all_listed, get_elem?-listed, rises-listed, listed-rises}
use Rattle.theory.specs.Records.{Record, SoundRecord}
use Rattle.theory.specs.Merge.{GoodRun, Good}
use Rattle.theory.specs.View.{run_at}
use Rattle.theory.proofs.View.Entries.{run_at-place, run_at-past}
use Rattle.tray.specs.Frame.{run_count, count_of, run_bytes, Framed}
use Rattle.tray.specs.Run.{record_at}
use Rattle.tray.specs.Check.{Sound}
use Rattle.tray.specs.Meaning.{run_of, runs_of}

pub length-run_of : (n : ℕ) (run : List ℕ) → length (run_of n run) ≡ n
unfolding run_of
length-run_of n run = length-listed n 0 (record_at run)

pub get_elem?-run_of : (n : ℕ) (run : List ℕ) (p : ℕ) → p < n → get_elem? (run_of n run) p ≡ some (record_at run p)
unfolding run_of
get_elem?-run_of n run p h = rw (get_elem?-listed n 0 (record_at run) p h, zero-add)

pub get_elem?-run_of-past : (n : ℕ) (run : List ℕ) (p : ℕ) → n ≤ p → get_elem? (run_of n run) p ≡ none
get_elem?-run_of-past n run p h = place_none (run_of n run) p (rw length-run_of h)

pub mem-run_of : (n : ℕ) (run : List ℕ) (p : ℕ) → p < n → Mem (record_at run p) (run_of n run)
unfolding run_of
mem-run_of n run p h = mem-listed n 0 (record_at run) p (omega arith) (omega arith)

pub all-run_of : (P : Record → Type 0) (n : ℕ) (run : List ℕ) → ((p : ℕ) → p < n → P (record_at run p)) → All P (run_of n run)
unfolding run_of
all-run_of P n run h = all_listed P n 0 (record_at run) (λ p l u. h p (omega arith))

pub rises-run_of : (n : ℕ) (run : List ℕ)
    → ((p : ℕ) → suc p < n → (record_at run p).key < (record_at run (suc p)).key) → Rises (λ e. e.key) (run_of n run)
unfolding run_of
rises-run_of n run h = rises-listed (λ e. e.key) n 0 (record_at run) (λ p l u. h p (omega arith))

pub run_of-rises : (n : ℕ) (run : List ℕ) → Rises (λ e. e.key) (run_of n run)
    → (p : ℕ) → suc p < n → (record_at run p).key < (record_at run (suc p)).key
unfolding run_of
run_of-rises n run h p l = listed-rises (λ e. e.key) n 0 (record_at run) h p (omega arith) (omega arith)

-- run r of a tray
abbrev pub run_in : List ℕ → ℕ → List Record
run_in t r = run_of (count_of t r) (run_bytes t r)

pub length-runs_of : (t : List ℕ) → length (runs_of t) ≡ run_count t
unfolding runs_of
length-runs_of t = length-listed (run_count t) 0 (run_in t)

pub get_elem?-runs_of : (t : List ℕ) (r : ℕ) → r < run_count t → get_elem? (runs_of t) r ≡ some (run_in t r)
unfolding runs_of
get_elem?-runs_of t r h = rw (get_elem?-listed (run_count t) 0 (run_in t) r h, zero-add)

pub run_at-runs_of : (t : List ℕ) (r : ℕ) → r < run_count t → run_at (runs_of t) r ≡ run_in t r
run_at-runs_of t r h = run_at-place (runs_of t) r (get_elem?-runs_of t r h)

pub run_at-runs_of-past : (t : List ℕ) (r : ℕ) → run_count t ≤ r → run_at (runs_of t) r ≡ []
run_at-runs_of-past t r h = run_at-past (runs_of t) r (rw length-runs_of h)

pub mem-runs_of : (t : List ℕ) (r : ℕ) → r < run_count t → Mem (run_in t r) (runs_of t)
unfolding runs_of
mem-runs_of t r h = mem-listed (run_count t) 0 (run_in t) r (omega arith) (omega arith)

pub all-runs_of : (P : List Record → Type 0) (t : List ℕ) → ((r : ℕ) → r < run_count t → P (run_in t r)) → All P (runs_of t)
unfolding runs_of
all-runs_of P t h = all_listed P (run_count t) 0 (run_in t) (λ r l u. h r (omega arith))

pub runs-good : {t : List ℕ} → Sound t → Good SoundRecord (λ e. e.key) (runs_of t)
runs-good {t} s = all-runs_of (GoodRun SoundRecord (λ e. e.key)) t (λ r h. record {
  rises = rises-run_of (count_of t r) (run_bytes t r) (λ p l. s.keys r p h l);
  sound = all-run_of SoundRecord (count_of t r) (run_bytes t r) (λ p l. s.kinds r p h l);
})

pub good-sound : {t : List ℕ} → Framed t → Good SoundRecord (λ e. e.key) (runs_of t) → Sound t
good-sound {t} f g =
    record {
      frame = f;
      kinds = λ r p l k. (g (run_in t r) (mem-runs_of t r l)).sound (record_at (run_bytes t r) p) (mem-run_of (count_of t r) (run_bytes t r) p k);
      keys = λ r p l k. run_of-rises (count_of t r) (run_bytes t r) (g (run_in t r) (mem-runs_of t r l)).rises p k;
    }
