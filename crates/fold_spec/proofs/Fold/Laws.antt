-- Laws of what a fold writes, for a tray and bounds that no refusal but 7 meets (docs/RULES.md, "Folding").
--     folded_run-says             the folded run has, of each key in the runs a to b, the record of the lowest-numbered run
--     folded_run-rises            by rising key
--     folded_run-whole            all runs at once make the merge of all
--     length-fold_bytes           how many bytes are written
--     InBounds, Foldable         what the laws below ask of the bounds and of the tray
--     all-folded                 what holds of the runs and of the folded one holds of each run of the folded tray
--     fold-fits, fold-sound, fold-bytes     the folded tray fits, is sound, and is bytes
--     fold-means                 it means the folded runs
--     fold-copies                a = b copies the tray
use Rattle.std.specs.Prelude.{◌≡◌, ◌↔◌, ℕ, suc, ◌-◌, ◌≤◌, ◌<◌, List, ◌++◌, take, drop}
use Rattle.std.proofs.Common.{ap, subst, ⊎_elim, arith, take_all}
use mathlib.Core.List.Memᴰ
use Rattle.std.proofs.Math.ListN.{length}
use Rattle.number.specs.Big.{Bytes}
use Rattle.theory.specs.Lists.{here}
use Rattle.theory.specs.Rising.{Mem, All, Rises}
use Rattle.theory.specs.Records.{Record, SoundRecord}
use Rattle.theory.specs.Hiding.{same_key}
use Rattle.theory.specs.Merge.{merged, fold, Good}
use Rattle.theory.proofs.Merge.Hidden.{NotOld}
use Rattle.theory.proofs.Merge.Laws.{merged-mem, mem-merged}
use Rattle.theory.proofs.Merge.Chains.{fold-parts, length-fold, fold_same, fold-good}
use Rattle.tray.specs.Frame.{run_count}
use Rattle.tray.specs.Check.{Sound}
use Rattle.tray.specs.Meaning.{runs_of, FitsRecord, Fits}
use Rattle.tray.specs.Meaning.Laws.{length-runs_of, runs-good}
use Rattle.tray.specs.Meaning.Write.{write-back}
use Rattle.tray.specs.Meaning.Read.{length-tray_bytes, read_back}
use Rattle.tray.specs.Meaning.Back.{sound_back, bytes_back, fits-runs}
use Rattle.fold_spec.specs.Fold.{key_of, folded_run, folded_runs, fold_bytes, fold_size}
use Rattle.fold_spec.specs.Fold.Laws.{key_rule, Foldable}

pub folded_run-says : (a b : ℕ) (t : List (List Record)) (x : Record)
    → Mem x (folded_run a b t) ↔ NotOld (same_key key_of) x (take (suc b - a) (drop a t))
unfolding folded_run
folded_run-says a b t x = (λ m. merged-mem key_of (same_key key_of) _ m, λ w. mem-merged key_of (same_key key_of) _ w)

pub folded_run-rises : (a b : ℕ) (t : List (List Record)) → a ≤ b → Good SoundRecord key_of t → Rises key_of (folded_run a b t)
unfolding folded_run fold
folded_run-rises a b t l good =
    (fold-good key_of (same_key key_of) (key_rule SoundRecord) good l (folded_run a b t) (Memᴰ.append_right (take a t) here)).rises

pub folded_run-whole : (t : List (List Record)) → 0 < length t → folded_run 0 (length t - 1) t ≡ merged key_of (same_key key_of) t
unfolding folded_run
folded_run-whole t l = ap (merged key_of (same_key key_of)) (take_all (suc (length t - 1) - 0) t (omega arith))

pub length-fold_bytes : (a b : ℕ) (t : List (List Record)) → length (fold_bytes a b t) ≡ fold_size a b t
unfolding fold_bytes fold_size
length-fold_bytes a b t = length-tray_bytes (folded_runs a b t)

pub all-folded : (P : List Record → Type 0) {a b : ℕ} {t : List (List Record)} → a ≤ b
    → All P t → P (folded_run a b t) → All P (folded_runs a b t)
unfolding folded_run folded_runs fold
all-folded P {a} {b} {t} l all one r m =
    let old : All P (take a t ++ (take (suc b - a) (drop a t) ++ drop (suc b) t)) = subst (All P) (fold-parts a b t l) all in
    ⊎_elim
    (λ n. old r (Memᴰ.append_left _ n))
    (λ n. ⊎_elim (λ e. rw e one) (λ k. old r (Memᴰ.append_right (take a t) (Memᴰ.append_right (take (suc b - a) (drop a t)) k)))
    (Memᴰ.cases_cons n))
    (Memᴰ.append_cases (take a t) m)

module _ {t : List ℕ} {a b : ℕ} (f : Foldable t a b) where
  -- the tray's runs fit,
  runs_fit : Fits (runs_of t)
  runs_fit = fits-runs f.sound.frame f.bytes

  -- and are good in that too: their keys rise, and their records fit
  fitting-good : Good FitsRecord key_of (runs_of t)
  fitting-good r m = record { rises = (runs-good f.sound r m).rises; sound = runs_fit.records r m }

  pub fold-fits : Fits (folded_runs a b (runs_of t))
  unfolding folded_runs
  fold-fits =
      let few : length (runs_of t) ≤ 63 = runs_fit.most-runs in
      let inside : b < length (runs_of t) = rw length-runs_of f.bounds.within in
      let size : length (folded_runs a b (runs_of t)) ≡ length (runs_of t) - (b - a) =
      length-fold key_of (same_key key_of) a b (runs_of t) f.bounds.order inside in
      record {
        some-run = omega arith;
        most-runs = omega arith;
        counts = all-folded (λ r. length r ≤ 4096) f.bounds.order runs_fit.counts f.short;
        records = λ r m. (fold-good key_of (same_key key_of) (key_rule FitsRecord) fitting-good f.bounds.order r m).sound;
      }

  pub fold-sound : Sound (fold_bytes a b (runs_of t))
  unfolding fold_bytes folded_runs
  fold-sound = sound_back fold-fits (fold-good key_of (same_key key_of) (key_rule SoundRecord) (runs-good f.sound) f.bounds.order)

  pub fold-bytes : Bytes (fold_bytes a b (runs_of t))
  unfolding fold_bytes
  fold-bytes = bytes_back fold-fits

  pub fold-means : runs_of (fold_bytes a b (runs_of t)) ≡ folded_runs a b (runs_of t)
  unfolding fold_bytes
  fold-means = read_back fold-fits

pub fold-copies : {t : List ℕ} {a b : ℕ} → Sound t → Bytes t → b < run_count t → a ≡ b → fold_bytes a b (runs_of t) ≡ t
unfolding fold_bytes folded_runs
fold-copies {t} {a} {b} s bytes within e =
    let inside : b < length (runs_of t) = rw length-runs_of within in
    rw (e, fold_same key_of (same_key key_of) (key_rule SoundRecord) (runs-good s) inside) (write-back s bytes)
