-- What the functions of fold promise each other: the parts of the folded tray, and the answer for a sound tray. The laws stand below.
pub mod Parts
pub mod Trays
pub mod Writes
use Rattle.refusal.specs.declared.Refusal.{Refusal}
use Rattle.std.specs.Prelude.{ℕ, ◌+◌, ◌-◌, ◌*◌, cond, List, [], ◌∷◌, ◌++◌, length, take, drop, leb, Ok, Err, Result}
use Rattle.number.specs.Big.{bytes_of}
use Rattle.refusal.specs.declared.Refusal.TheVariants.{Room, RunLength}
use Rattle.theory.specs.Records.{Record}
use Rattle.tray.specs.Frame.{run_count}
use Rattle.tray.specs.Meaning.{records_bytes}
use Rattle.fold_spec.specs.Fold.{folded_run, fold_size}
use Rattle.fold_merge.specs.Folding.{between}

-- the header and the counts of a tray whose runs a to b are one of n records
unfoldable pub head_bytes : List ℕ → ℕ → ℕ → ℕ → List ℕ
head_bytes t a b n =
    ((run_count t - (b - a)) ∷ 0 ∷ 0 ∷ 0 ∷ []) ++ (between 4 (4 + 2 * a) t ++ (bytes_of 2 n ++ between (6 + 2 * b) (4 + 2 * run_count t) t))

-- the bytes up to place y, the records w, and the bytes from place z on
unfoldable pub body_bytes : List ℕ → ℕ → ℕ → ℕ → List Record → List ℕ
body_bytes t x y z w = between x y t ++ (records_bytes w ++ between z (length t) t)

-- the answer for a sound tray and bounds that hold: 12, then 7
unfoldable pub sound_answer : ℕ → ℕ → List (List Record) → ℕ → Result ℕ Refusal
sound_answer a b t room =
    cond (leb (length (folded_run a b t)) 4096) (cond (leb (fold_size a b t) room) (Ok (fold_size a b t)) (Err (Room (fold_size a b t))))
    (Err (RunLength (length (folded_run a b t))))
