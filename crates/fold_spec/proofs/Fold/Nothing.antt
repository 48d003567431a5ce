-- What adds nothing to a tray, on bytes (demand 3): an empty run, and an older neighbour that is a copy. Folded with a neighbour it
-- leaves the bytes of the tray without it, and what is read of the two is the same.
--     without, without_run        the runs, and the tray, without one run
--     Removed, without-run       the tray without one of its runs is a sound tray of the others
--     AddsNothing                two neighbours folded leave the tray without one of them, and the same merge
--     empty-run                  an empty run, folded with the run after it or before it
--     older-copy                 a run that is a copy of the one before it, folded with that one
--     same_bytes                 runs of the same bytes are copies
use Rattle.std.specs.Prelude.{◌≡◌, get_or, drop}
use Rattle.std.proofs.Math.Path.{sym, ap}
use Rattle.std.proofs.Common.{subst, ◌∙◌, ⊎_elim, add-one, length-append, length-take, length-drop}
use Prim.Native.Nat.{ℕ, suc, ◌-◌, ◌≤◌, ◌<◌}
use native.Mathlib.Omega.{arith}
use mathlib.Core.List.Memᴰ
use mathlib.Core.List.{List, [], ◌∷◌, ◌++◌, append_assoc}
use Rattle.std.proofs.Math.ListN.{length, take}
use Rattle.std.proofs.Math.Seq.{length-take-le, split_at, take-suc, drop-cons}
use Rattle.number.specs.Big.{Bytes}
use Rattle.theory.specs.Lists.{here}
use Rattle.theory.specs.Rising.{Mem, All}
use Rattle.theory.specs.Records.{Record, SoundRecord}
use Rattle.theory.specs.Hiding.{same_key}
use Rattle.theory.specs.Merge.{over, merged, fold, GoodRun, Good}
use Rattle.theory.proofs.Merge.Laws.{over-nil-left, over-nil-right, over-self}
use Rattle.theory.proofs.Merge.Chains.{fold-merged}
use Rattle.theory.proofs.Merge.Nothing.{fold_pair}
use Rattle.theory.specs.View.{run_at}
use Rattle.theory.specs.Listed.{listed}
use Rattle.tray.specs.Frame.{run_count, count_of, run_bytes}
use Rattle.tray.specs.Frame.Laws.{length_run}
use Rattle.tray.specs.Check.{Sound}
use Rattle.tray.specs.Meaning.{run_of, runs_of, tray_bytes, Fits}
use Rattle.tray.specs.Meaning.Laws.{run_in, length-runs_of, run_at-runs_of, runs-good}
use Rattle.tray.specs.Meaning.Read.{read_back}
use Rattle.tray.specs.Meaning.Back.{sound_back, bytes_back, fits-runs}
use Rattle.fold_spec.specs.Fold.{key_of, folded_run, folded_runs, fold_bytes}
use Rattle.fold_spec.specs.Fold.Laws.{key_rule}
use Rattle.fold_spec.specs.Fold.Nothing.{without, without_run, Removed, AddsNothing}

-- the others are of the same sort,
all_without : {A : Type 0} {P : A → Type 0} (r : ℕ) {rs : List A} (d : A) → r < length rs → All P rs → All P (without r rs)
unfolding without
all_without {P = P} r {rs} d l all a m =
    let old : All P (take r rs ++ (get_or rs r d ∷ drop (suc r) rs)) = subst (All P) (split_at rs r d l) all in
    ⊎_elim (λ n. old a (Memᴰ.append_left _ n)) (λ n. old a (Memᴰ.append_right (take r rs) (Memᴰ.tail n)))
    (Memᴰ.append_cases (take r rs) m)

-- and one fewer
length_without : {A : Type 0} (r : ℕ) (rs : List A) → r < length rs → length (without r rs) ≡ length rs - 1
unfolding without
length_without r rs l = simp (length-append, length-take, length-drop) (omega arith)

pub without-run : {t : List ℕ} (r : ℕ) → Sound t → Bytes t → 2 ≤ run_count t → r < run_count t → Removed t r
unfolding without_run
without-run {t} r s bytes two l =
    let inside : r < length (runs_of t) = rw length-runs_of l in
    let old = fits-runs s.frame bytes in
    let few : length (runs_of t) ≤ 63 = old.most-runs in
    let size = length_without r (runs_of t) inside in
    let fits : Fits (without r (runs_of t)) = record {
      some-run = omega (arith, length-runs_of t);
      most-runs = omega arith;
      counts = all_without r [] inside old.counts;
      records = all_without r [] inside old.records;
    } in
    record { sound = sound_back fits (all_without r [] inside (runs-good s)); bytes = bytes_back fits; runs = read_back fits }

-- a run of a good tray is good
run-good : {rs : List (List Record)} → Good SoundRecord key_of rs → (r : ℕ) → r < length rs → GoodRun SoundRecord key_of (run_at rs r)
unfolding run_at
run-good {rs} good r k = good (run_at rs r) (subst (Mem (run_at rs r)) (sym (split_at rs r [] k)) (Memᴰ.append_right (take r rs) here))

-- two neighbours a and a + 1 folded
module _ {rs : List (List Record)} (good : Good SoundRecord key_of rs) (a : ℕ) (l : suc a < length rs) where
  -- the runs around them
  around : rs ≡ take a rs ++ (run_at rs a ∷ run_at rs (suc a) ∷ drop (suc (suc a)) rs)
  unfolding run_at
  around = split_at rs a [] (omega arith) ∙ ap (λ z. take a rs ++ (run_at rs a ∷ z)) (drop-cons rs (suc a) [] l)

  -- the newer over the older takes their place
  pair-folded : folded_runs a (suc a) rs ≡ take a rs ++ (over key_of (same_key key_of) (run_at rs a) (run_at rs (suc a)) ∷ drop (suc (suc a)) rs)
  unfolding folded_runs
  pair-folded =
      let before : length (take a rs) ≡ a = length-take-le a rs (omega arith) in
      let law = fold_pair key_of (same_key key_of) (key_rule SoundRecord) (take a rs) (drop (suc (suc a)) rs) (run_at rs a) (run-good good (suc a) l) in
      ap (fold key_of (same_key key_of) a (suc a)) around ∙ (rw (before, add-one) at law)

  -- where only the older is left, the newer has gone,
  older-left : over key_of (same_key key_of) (run_at rs a) (run_at rs (suc a)) ≡ run_at rs (suc a) → folded_runs a (suc a) rs ≡ without a rs
  unfolding without run_at
  older-left e = pair-folded ∙ rw (e, drop-cons rs (suc a) [] l)

  -- and the other way round
  newer-left : over key_of (same_key key_of) (run_at rs a) (run_at rs (suc a)) ≡ run_at rs a → folded_runs a (suc a) rs ≡ without (suc a) rs
  unfolding without run_at
  newer-left e = let inside : a < length rs = omega arith in pair-folded ∙ rw (e, take-suc rs a [] inside, append_assoc)

module _ {t : List ℕ} (s : Sound t) (bytes : Bytes t) where
  -- from the fold of the runs
  adds-nothing : (a i : ℕ) → suc a < run_count t → i < run_count t
      → folded_runs a (suc a) (runs_of t) ≡ without i (runs_of t) → AddsNothing t a i
  unfolding without_run fold_bytes folded_runs folded_run fold
  adds-nothing a i l k e =
      let gone : Removed t i = without-run i s bytes (omega arith) k in
      let fits = fits-runs gone.sound.frame gone.bytes in
      let up : a ≤ suc a = omega arith in
      record {
        removed = gone;
        foldable = record {
          sound = s;
          bytes = bytes;
          bounds = record { order = up; within = l };
          short = fits.counts (folded_run a (suc a) (runs_of t)) (rw (gone.runs, ← e) (Memᴰ.append_right (take a (runs_of t)) here));
        };
        folds = ap tray_bytes e;
        merge = ap (merged key_of (same_key key_of)) (gone.runs ∙ sym e)
            ∙ fold-merged key_of (same_key key_of) (key_rule SoundRecord) (runs-good s) up;
      }

  -- a run without records
  empty-at : (r : ℕ) → r < run_count t → count_of t r ≡ 0 → run_at (runs_of t) r ≡ []
  unfolding run_of listed
  empty-at r l e = run_at-runs_of t r l ∙ rw e

  -- a number of a run, among the runs
  inside : {r : ℕ} → r < run_count t → r < length (runs_of t)
  inside l = rw length-runs_of l

  -- the run of a number is good
  good-at : {r : ℕ} → r < run_count t → GoodRun SoundRecord key_of (run_at (runs_of t) r)
  good-at {r} l = run-good (runs-good s) r (inside l)

  -- an empty run folded with the run after it,
  empty-newer : (a : ℕ) → suc a < run_count t → count_of t a ≡ 0 → AddsNothing t a a
  empty-newer a l e =
      let k : a < run_count t = omega arith in
      let none : run_at (runs_of t) a ≡ [] = empty-at a k e in
      adds-nothing a a l k (older-left (runs-good s) a (inside l) (rw none (over-nil-left key_of (same_key key_of) _)))

  -- or before it
  empty-older : (a : ℕ) → suc a < run_count t → count_of t (suc a) ≡ 0 → AddsNothing t a (suc a)
  empty-older a l e =
      let k : a < run_count t = omega arith in
      let none : run_at (runs_of t) (suc a) ≡ [] = empty-at (suc a) l e in
      adds-nothing a (suc a) l l
      (newer-left (runs-good s) a (inside l) (rw none (over-nil-right key_of (same_key key_of) (key_rule SoundRecord) (good-at k))))

  pub empty-run : (r : ℕ) → r < run_count t → count_of t r ≡ 0
      → (suc r < run_count t → AddsNothing t r r) × ((a : ℕ) → r ≡ suc a → AddsNothing t a r)
  empty-run r l e =
      (λ k. empty-newer r k e, λ a n. subst (AddsNothing t a) (sym n) (empty-older a (rw n at l) (rw n at e)))

  pub older-copy : (a : ℕ) → suc a < run_count t → run_in t (suc a) ≡ run_in t a → AddsNothing t a (suc a)
  older-copy a l e =
      let k : a < run_count t = omega arith in
      let copy : run_at (runs_of t) (suc a) ≡ run_at (runs_of t) a = run_at-runs_of t (suc a) l ∙ e ∙ sym (run_at-runs_of t a k) in
      adds-nothing a (suc a) l l
      (newer-left (runs-good s) a (inside l) (rw copy (over-self key_of (same_key key_of) (key_rule SoundRecord) (good-at k))))

  -- runs of the same bytes are copies
  pub same_bytes : (r q : ℕ) → r < run_count t → q < run_count t → run_bytes t r ≡ run_bytes t q → run_in t r ≡ run_in t q
  same_bytes r q l k e =
      let lengths : length (run_bytes t r) ≡ length (run_bytes t q) = ap length e in
      let counts : count_of t r ≡ count_of t q = omega (arith, length_run t s.frame r l, length_run t s.frame q k) in
      cc
