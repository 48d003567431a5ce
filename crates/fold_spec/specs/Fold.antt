-- Fold a..b writes a tray in which those runs are one (docs/RULES.md, "Folding": for each key in them the record of the lowest-numbered run, gone
-- ones included; other runs are copied), and its answer for every input: order 1, 8, 3/2, 12, 7.
pub mod Nothing
pub mod Chains
pub mod Answers
pub mod Leaves
pub mod Laws
use Rattle.refusal.specs.declared.Refusal.{Refusal}
use Rattle.std.specs.Prelude.{ℕ, suc, ◌+◌, ◌-◌, ◌*◌, ◌≡◌, Bool, cond, ◌&&◌, List, length, take, drop, leb, ltb, Ok, Err, Result}
use Rattle.number.specs.Big.{put}
use Rattle.refusal.specs.declared.Refusal.TheVariants.{TrayFrame, Room, Bounds, RunLength}
use Rattle.theory.specs.Records.{Record}
use Rattle.theory.specs.Hiding.{same_key}
use Rattle.theory.specs.Merge.{merged, fold}
use Rattle.tray.specs.Frame.{run_count, framed}
use Rattle.tray.specs.Check.{check_tray_answer}
use Rattle.tray.specs.Meaning.{runs_of, tray_bytes, total}

-- a record's key
abbrev pub key_of : Record → ℕ
key_of e = e.key

-- the runs a to b of a tray made one
unfoldable pub folded_run : ℕ → ℕ → List (List Record) → List Record
folded_run a b t = merged key_of (same_key key_of) (take (suc b - a) (drop a t))

-- the tray after the fold
unfoldable pub folded_runs : ℕ → ℕ → List (List Record) → List (List Record)
folded_runs a b t = fold key_of (same_key key_of) a b t

-- its bytes, and how many they are
unfoldable pub fold_bytes : ℕ → ℕ → List (List Record) → List ℕ
fold_bytes a b t = tray_bytes (folded_runs a b t)

unfoldable pub fold_size : ℕ → ℕ → List (List Record) → ℕ
fold_size a b t = 4 + 2 * length (folded_runs a b t) + 25 * total (folded_runs a b t)

-- the bounds hold: a is at most b, and b is a run of the tray
unfoldable pub bounds_hold : ℕ → ℕ → ℕ → Bool
bounds_hold h a b = leb a b && ltb b h

-- the answer where the tray has been checked, for an output of some room: 12, then 7
unfoldable pub after_check : ℕ → ℕ → List (List Record) → ℕ → Result ℕ Refusal → Result ℕ Refusal
after_check a b t room (Err r) = Err r
after_check a b t room (Ok n) =
    cond (leb (length (folded_run a b t)) 4096) (cond (leb (fold_size a b t) room) (Ok (fold_size a b t)) (Err (Room (fold_size a b t))))
    (Err (RunLength (length (folded_run a b t))))

-- fold's answer
unfoldable pub fold_answer : List ℕ → ℕ → ℕ → ℕ → Result ℕ Refusal
fold_answer t a b room =
    let checked = after_check a b (runs_of t) room (check_tray_answer t) in
    cond (framed t) (cond (bounds_hold (run_count t) a b) checked (Err (Bounds b))) (Err TrayFrame)

-- what fold leaves in the output: the tray at its front where it was written, and else what was there
unfoldable pub fold_leaves : List ℕ → ℕ → ℕ → List ℕ → Result ℕ Refusal → List ℕ
fold_leaves t a b out (Ok n) = put out 0 (fold_bytes a b (runs_of t))
fold_leaves t a b out (Err r) = out

-- a chain of fold calls of which none is refused: each folds what the one before it wrote
pub data Calls : List ℕ → List ℕ → Type 0 where
  no_call : {t : List ℕ} → Calls t t
  call : {t u : List ℕ} (a b n : ℕ) (out : List ℕ) → fold_answer t a b (length out) ≡ Ok n
      → Calls (take n (fold_leaves t a b out (Ok n))) u → Calls t u
