-- What a fold writes, in the parts that the code writes: most of it is copied from the tray.
--     counts-part, runs-part     the counts, and the runs, from one run up to another stand in the tray
--     fold-parts                 the folded tray: a head of header and counts, and a body of runs
--     size-parts                 how long it is
use Rattle.std.specs.Prelude.{◌≡◌, List, [], ◌∷◌, ◌++◌, take}
use Rattle.std.proofs.Math.Path.{refl, ap}
use Rattle.std.proofs.Common.{sym, ap₂, ◌∙◌, zero-add, append_assoc, length-append, length-drop, take_at, length-take-le}
use Prim.Native.Nat.{ℕ, suc, ◌+◌, ◌-◌, ◌*◌, ◌≤◌, ◌<◌}
use native.Mathlib.Omega.{arith}
use Rattle.std.proofs.Math.ListN.{length, drop}
use Rattle.number.specs.Big.{bytes_of, Bytes}
use Rattle.number.proofs.Big.Laws.{bytes_of-be, length-bytes_of}
use Rattle.theory.specs.Lists.{part-on}
use Rattle.theory.specs.Records.{Record}
use Rattle.theory.specs.Hiding.{same_key}
use Rattle.theory.specs.Merge.{fold}
use Rattle.theory.proofs.Merge.Chains.{length-fold}
use Rattle.theory.specs.Listed.{listed}
use Rattle.theory.proofs.Listed.Laws.{laid}
use Rattle.tray.specs.Frame.{run_count, count_of, start_of, run_bytes, Framed}
use Rattle.tray.specs.Frame.Laws.{start_of-zero, start_of-next, start_of-le, start_of-within, length_run}
use Rattle.tray.specs.Meaning.{runs_of, records_bytes, counts_bytes, runs_bytes, tray_bytes}
use Rattle.tray.specs.Meaning.Laws.{run_in, length-run_of, length-runs_of}
use Rattle.tray.specs.Meaning.Read.{length-records_bytes}
use Rattle.tray.specs.Meaning.Write.{records-back, bytes_run}
use Rattle.fold_spec.specs.Fold.{key_of, folded_run, folded_runs, fold_bytes, fold_size}
use Rattle.fold_spec.proofs.Fold.Laws.{length-fold_bytes}
use Rattle.fold_merge.specs.Folding.{between}
use Rattle.fold_write.specs.Write.{head_bytes, body_bytes}
use Rattle.fold_merge.specs.Folding.Start.{listed-part, listed-drop}

-- what stands between two places
part-is : (x y : ℕ) (xs t : List ℕ) → x ≤ y → y ≤ length t → xs ++ drop y t ≡ drop x t → xs ≡ between x y t
part-is x y xs t l h e =
    let long : length xs + length (drop y t) ≡ length (drop x t) = sym (length-append xs (drop y t)) ∙ ap length e in
    let own : length xs ≡ y - x = omega (arith, length-drop y t, length-drop x t) in
    sym (take_at xs (drop y t) (y - x) own) ∙ ap (take (y - x)) e

pub length-between : (x y : ℕ) (s : List ℕ) → x ≤ y → y ≤ length s → length (between x y s) ≡ y - x
length-between x y s l h = length-take-le (y - x) (drop x s) (omega (arith, length-drop x s))

module _ {t : List ℕ} (f : Framed t) (b : Bytes t) where
  -- a count stands in the tray
  count-on : (r : ℕ) → r < run_count t → bytes_of 2 (length (run_in t r)) ++ drop (4 + 2 * suc r) t ≡ drop (4 + 2 * r) t
  unfolding count_of
  count-on r l =
      let room : start_of t 0 ≤ length t = start_of-within t f 0 (omega arith) in
      let next : 4 + 2 * suc r ≡ 4 + 2 * r + 2 = omega arith in
      rw (length-run_of, bytes_of-be 2 t (4 + 2 * r) b (omega (arith, start_of-zero t)), next) (part-on (4 + 2 * r) 2 t)

  -- and so does a run
  run_on : (r : ℕ) → r < run_count t → records_bytes (run_in t r) ++ drop (start_of t (suc r)) t ≡ drop (start_of t r) t
  unfolding run_bytes
  run_on r l =
      let up : start_of t (suc r) ≡ start_of t r + 25 * count_of t r = start_of-next t r in
      let next : start_of t r + (start_of t (suc r) - start_of t r) ≡ start_of t (suc r) = omega arith in
      rw (records-back (count_of t r) (run_bytes t r) (bytes_run t r b) (length_run t f r l))
      (rw next at (part-on (start_of t r) (start_of t (suc r) - start_of t r) t))

  pub counts-part : (n i k : ℕ) → i + n ≡ k → k ≤ run_count t → counts_bytes (listed n i (run_in t)) ≡ between (4 + 2 * i) (4 + 2 * k) t
  unfolding counts_bytes
  counts-part n i k e l =
      let room : start_of t 0 ≤ length t = start_of-within t f 0 (omega arith) in
      part-is (4 + 2 * i) (4 + 2 * k) (counts_bytes (listed n i (run_in t))) t (omega arith) (omega (arith, start_of-zero t))
      (ap (λ (j : ℕ). counts_bytes (listed n i (run_in t)) ++ drop (4 + 2 * j) t) (sym e)
      ∙ laid (λ r. bytes_of 2 (length r)) counts_bytes refl (λ r rs. refl) t (run_in t) (λ r. 4 + 2 * r) n i (λ r u v. count-on r (omega arith)))

  pub runs-part : (n i k : ℕ) → i + n ≡ k → k ≤ run_count t → runs_bytes (listed n i (run_in t)) ≡ between (start_of t i) (start_of t k) t
  unfolding runs_bytes
  runs-part n i k e l =
      part-is (start_of t i) (start_of t k) (runs_bytes (listed n i (run_in t))) t (start_of-le t i k (omega arith)) (start_of-within t f k l)
      (ap (λ (j : ℕ). runs_bytes (listed n i (run_in t)) ++ drop (start_of t j) t) (sym e)
      ∙ laid records_bytes runs_bytes refl (λ r rs. refl) t (run_in t) (start_of t) n i (λ r u v. run_on r (omega arith)))

-- bytes of two lists of runs
counts_bytes-append : (rs qs : List (List Record)) → counts_bytes (rs ++ qs) ≡ counts_bytes rs ++ counts_bytes qs
unfolding counts_bytes
counts_bytes-append [] qs = refl
counts_bytes-append (r ∷ rs) qs = rw (counts_bytes-append rs qs, append_assoc)

runs_bytes-append : (rs qs : List (List Record)) → runs_bytes (rs ++ qs) ≡ runs_bytes rs ++ runs_bytes qs
unfolding runs_bytes
runs_bytes-append [] qs = refl
runs_bytes-append (r ∷ rs) qs = rw (runs_bytes-append rs qs, append_assoc)

-- a tray of the runs xs, w and ys
tray-parts : (xs ys : List (List Record)) (w : List Record)
    → tray_bytes (xs ++ (w ∷ ys)) ≡ ((length (xs ++ (w ∷ ys)) ∷ 0 ∷ 0 ∷ 0 ∷ []) ++ (counts_bytes xs ++ (bytes_of 2 (length w) ++ counts_bytes ys)))
    ++ (runs_bytes xs ++ (records_bytes w ++ runs_bytes ys))
unfolding tray_bytes counts_bytes runs_bytes
tray-parts xs ys w = rw (counts_bytes-append xs (w ∷ ys), runs_bytes-append xs (w ∷ ys)) (simp append_assoc)

module _ {t : List ℕ} {a b : ℕ} (f : Framed t) (bytes : Bytes t) (order : a ≤ b) (within : b < run_count t) where
  front-runs : take a (runs_of t) ≡ listed a 0 (run_in t)
  unfolding runs_of
  front-runs = listed-part (run_count t) 0 a (run_in t) (omega arith)

  back-runs : drop (suc b) (runs_of t) ≡ listed (run_count t - suc b) (suc b) (run_in t)
  unfolding runs_of
  back-runs = listed-drop (run_count t) (suc b) (run_in t) within

  pub fold-parts : fold_bytes a b (runs_of t)
      ≡ head_bytes t a b (length (folded_run a b (runs_of t))) ++ body_bytes t (start_of t 0) (start_of t a) (start_of t (suc b)) (folded_run a b (runs_of t))
  unfolding fold_bytes folded_runs folded_run fold head_bytes body_bytes
  fold-parts =
      let w = folded_run a b (runs_of t) in
      let inside : b < length (runs_of t) = rw length-runs_of within in
      let number : length (take a (runs_of t) ++ (w ∷ drop (suc b) (runs_of t))) ≡ run_count t - (b - a) =
      length-fold key_of (same_key key_of) a b (runs_of t) order inside ∙ ap (λ (n : ℕ). n - (b - a)) (length-runs_of t) in
      let rest : suc b + (run_count t - suc b) ≡ run_count t = omega arith in
      let six : 4 + 2 * suc b ≡ 6 + 2 * b = omega arith in
      let counts-front : counts_bytes (take a (runs_of t)) ≡ between 4 (4 + 2 * a) t = ap counts_bytes front-runs ∙ counts-part f bytes a 0 a (zero-add a) (omega arith) in
      let counts-back : counts_bytes (drop (suc b) (runs_of t)) ≡ between (6 + 2 * b) (4 + 2 * run_count t) t =
      ap counts_bytes back-runs ∙ counts-part f bytes (run_count t - suc b) (suc b) (run_count t) rest (omega arith)
      ∙ ap (λ (x : ℕ). between x (4 + 2 * run_count t) t) six in
      let runs-front : runs_bytes (take a (runs_of t)) ≡ between (start_of t 0) (start_of t a) t =
      ap runs_bytes front-runs ∙ runs-part f bytes a 0 a (zero-add a) (omega arith) in
      let runs-back : runs_bytes (drop (suc b) (runs_of t)) ≡ between (start_of t (suc b)) (length t) t =
      ap runs_bytes back-runs ∙ runs-part f bytes (run_count t - suc b) (suc b) (run_count t) rest (omega arith)
      ∙ ap (λ (y : ℕ). between (start_of t (suc b)) y t) (sym f.whole) in
      tray-parts (take a (runs_of t)) (drop (suc b) (runs_of t)) w ∙ rw (number, counts-front, counts-back, runs-front, runs-back)

  pub length-head : (n : ℕ) → length (head_bytes t a b n) ≡ 4 + 2 * (run_count t - (b - a))
  unfolding head_bytes
  length-head n =
      let room : start_of t 0 ≤ length t = start_of-within t f 0 (omega arith) in
      let front : length (between 4 (4 + 2 * a) t) ≡ 2 * a = length-between 4 (4 + 2 * a) t (omega arith) (omega (arith, start_of-zero t)) ∙ omega arith in
      let back : length (between (6 + 2 * b) (4 + 2 * run_count t) t) ≡ 2 * (run_count t - (b + 1)) =
      length-between (6 + 2 * b) (4 + 2 * run_count t) t (omega arith) (omega (arith, start_of-zero t)) ∙ omega arith in
      simp (length-append, length-bytes_of, front, back) (omega arith)

  pub length-body : (w : List Record)
      → length (body_bytes t (start_of t 0) (start_of t a) (start_of t (suc b)) w) ≡ (start_of t a - start_of t 0) + 25 * length w + (length t - start_of t (suc b))
  unfolding body_bytes
  length-body w =
      let up : start_of t 0 ≤ start_of t a = start_of-le t 0 a (omega arith) in
      let in-tray : start_of t a ≤ length t = start_of-within t f a (omega arith) in
      let in-tray-2 : start_of t (suc b) ≤ length t = start_of-within t f (suc b) within in
      simp (length-append, length-records_bytes, length-between (start_of t 0) (start_of t a) t up in-tray, length-between (start_of t (suc b)) (length t) t in-tray-2 (omega arith)) (omega arith)

  pub size-parts : fold_size a b (runs_of t)
      ≡ 4 + 2 * (run_count t - (b - a)) + ((start_of t a - start_of t 0) + 25 * length (folded_run a b (runs_of t)) + (length t - start_of t (suc b)))
  size-parts =
      let w = folded_run a b (runs_of t) in
      sym (length-fold_bytes a b (runs_of t)) ∙ ap length fold-parts
      ∙ length-append (head_bytes t a b (length w)) (body_bytes t (start_of t 0) (start_of t a) (start_of t (suc b)) w)
      ∙ ap₂ (λ (m n : ℕ). m + n) (length-head (length w)) (length-body w)
