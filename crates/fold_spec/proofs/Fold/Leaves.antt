-- What fold leaves in the output (docs/RULES.md, "Folding": bytes past its length are untouched; "Refusals by number": output is untouched).
--     front-written              a list that is written whole at the front
--     leaves-written             the folded tray at the front, what was there after it, and the same length
--     leaves-refused             what was there
use Rattle.std.specs.Prelude.{◌≡◌, refl, ℕ, ◌+◌, ◌≤◌, List, length, Ok, Err}
use Rattle.std.proofs.Common.{arith, zero-add}
use Rattle.refusal.specs.declared.Refusal.{Refusal}
use Rattle.number.specs.Big.{put}
use Rattle.number.proofs.Big.Writes.{length-put, take_put, drop-put}
use Rattle.tray.specs.Meaning.{runs_of}
use Rattle.fold_spec.specs.Fold.{fold_bytes, fold_answer, fold_leaves}
use Rattle.fold_spec.proofs.Fold.Laws.{length-fold_bytes}
use Rattle.fold_spec.proofs.Fold.Answers.{fold-written}
use Rattle.fold_spec.specs.Fold.Leaves.{Front}

-- what is written whole at the front
pub front-written : (s ys : List ℕ) (n : ℕ) → n ≡ length ys → n ≤ length s → Front s ys (put s 0 ys) n
front-written s ys n e h =
    let fits : 0 + length ys ≤ length s = omega arith in
    record {
      front = rw e (simp zero-add at (take_put s 0 ys (omega arith)));
      behind = rw e (simp zero-add at (drop-put s 0 ys (omega arith)));
      same = length-put s 0 ys fits;
    }

pub leaves-written : (t : List ℕ) (a b : ℕ) (out : List ℕ) (n : ℕ) → fold_answer t a b (length out) ≡ Ok n
    → Front out (fold_bytes a b (runs_of t)) (fold_leaves t a b out (Ok n)) n
unfolding fold_leaves
leaves-written t a b out n e =
    let w = (fold-written t a b (length out) n).0 e in
    let size = length-fold_bytes a b (runs_of t) in
    front-written out (fold_bytes a b (runs_of t)) n (cc) (omega (arith, w.3, w.4))

pub leaves-refused : (t : List ℕ) (a b : ℕ) (out : List ℕ) (r : Refusal) → fold_leaves t a b out (Err r) ≡ out
unfolding fold_leaves
leaves-refused t a b out r = refl
