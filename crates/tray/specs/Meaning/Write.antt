-- Writing the runs of a framed tray gives its bytes back.
--     record-back                          a record is written as the 25 bytes that it was read from
--     records-back                         the records of a run as the run
--     bytes_run                            a run of bytes is bytes
--     header-back, counts-back, runs-back  the parts of a tray
--     framed-write-back, write-back        the tray, where it is framed, and so where it is sound
use Rattle.std.specs.Prelude.{◌≡◌, List, [], ◌∷◌, ◌++◌, take}
use Rattle.std.proofs.Math.Path.{refl}
use Prim.Native.Nat.{ℕ, suc, ◌+◌, ◌-◌, ◌*◌, ◌≤◌, ◌<◌}
use Rattle.std.proofs.Math.Nat.{zero-add}
use native.Mathlib.Omega.{arith}
use Rattle.std.proofs.Math.ListN.{length, drop}
use Rattle.std.proofs.Common.{drop-drop, take-add}
use Rattle.std.proofs.Math.Seq.{drop-cons}
use Rattle.number.specs.Big.{bytes_of, Bytes}
use Rattle.number.proofs.Big.Laws.{bytes_of-be, bytes_take, bytes_drop}
use Rattle.theory.specs.Lists.{part-on, part_end}
use Rattle.theory.proofs.Listed.Laws.{laid}
use Rattle.tray.specs.Frame.{run_count, count_of, start_of, run_bytes, Framed}
use Rattle.tray.specs.Frame.Laws.{start_of-zero, start_of-next, start_of-within, length_run}
use Rattle.tray.specs.Run.{record_from, record_at}
use Rattle.tray.specs.Check.{Sound}
use Rattle.tray.specs.Meaning.{run_of, runs_of, record_bytes, records_bytes, counts_bytes, runs_bytes, tray_bytes}
use Rattle.tray.specs.Meaning.Laws.{run_in, length-run_of, length-runs_of}

pub record-back : (s : List ℕ) (at : ℕ) → Bytes s → at + 25 ≤ length s → record_bytes (record_from s at) ≡ take 25 (drop at s)
unfolding record_bytes record_from
record-back s at b h =
    let next : suc (at + 8) ≡ at + 9 = omega arith in
    let room : at + 8 < length s = omega arith in
    let key = bytes_of-be 8 s at b (omega arith) in
    let value = bytes_of-be 16 s (at + 9) b (omega arith) in
    rw (key, value, take-add 8 17 (drop at s), drop-drop 8 at s, drop-cons s (at + 8) 0 room, ← next)

pub records-back : (n : ℕ) (run : List ℕ) → Bytes run → length run ≡ 25 * n → records_bytes (run_of n run) ≡ run
unfolding records_bytes run_of
records-back n run b e =
    part_end (records_bytes (run_of n run)) run run (25 * n) (omega arith)
    (rw zero-add at (laid record_bytes records_bytes refl (λ e es. refl) run (record_at run) (λ p. 25 * p) n 0 one))
  where
    one : (p : ℕ) → 0 ≤ p → p < 0 + n → record_bytes (record_at run p) ++ drop (25 * suc p) run ≡ drop (25 * p) run
    one p l u =
        let next : 25 * suc p ≡ 25 * p + 25 = omega arith in
        rw (record-back run (25 * p) b (omega arith), next) (part-on (25 * p) 25 run)

pub bytes_run : (t : List ℕ) (r : ℕ) → Bytes t → Bytes (run_bytes t r)
unfolding run_bytes
bytes_run t r b = bytes_take (start_of t (suc r) - start_of t r) (drop (start_of t r) t) (bytes_drop (start_of t r) t b)

-- a run, and the tray from the next one on
run_on : (t : List ℕ) (r : ℕ) → run_bytes t r ++ drop (start_of t (suc r)) t ≡ drop (start_of t r) t
unfolding run_bytes
run_on t r =
    let up : start_of t (suc r) ≡ start_of t r + 25 * count_of t r = start_of-next t r in
    let next : start_of t r + (start_of t (suc r) - start_of t r) ≡ start_of t (suc r) = omega arith in
    rw next at (part-on (start_of t r) (start_of t (suc r) - start_of t r) t)

module _ {t : List ℕ} (f : Framed t) (b : Bytes t) where
  pub counts-back : counts_bytes (runs_of t) ++ drop (4 + 2 * run_count t) t ≡ drop 4 t
  unfolding counts_bytes runs_of count_of
  counts-back = rw zero-add at (laid (λ r. bytes_of 2 (length r)) counts_bytes refl (λ r rs. refl) t (run_in t) (λ r. 4 + 2 * r) (run_count t) 0 one)
    where
      one : (r : ℕ) → 0 ≤ r → r < 0 + run_count t → bytes_of 2 (length (run_in t r)) ++ drop (4 + 2 * suc r) t ≡ drop (4 + 2 * r) t
      one r l u =
          let room : start_of t 0 ≤ length t = start_of-within t f 0 (omega arith) in
          let next : 4 + 2 * suc r ≡ 4 + 2 * r + 2 = omega arith in
          rw (length-run_of, bytes_of-be 2 t (4 + 2 * r) b (omega (arith, start_of-zero t)), next) (part-on (4 + 2 * r) 2 t)

  pub runs-back : runs_bytes (runs_of t) ≡ drop (4 + 2 * run_count t) t
  unfolding runs_bytes runs_of
  runs-back =
      part_end (runs_bytes (runs_of t)) (drop (4 + 2 * run_count t) t) t (start_of t (run_count t)) (omega arith)
      (rw (zero-add, start_of-zero) at (laid records_bytes runs_bytes refl (λ r rs. refl) t (run_in t) (start_of t) (run_count t) 0 one))
    where
      one : (r : ℕ) → 0 ≤ r → r < 0 + run_count t → records_bytes (run_in t r) ++ drop (start_of t (suc r)) t ≡ drop (start_of t r) t
      one r l u = rw (records-back (count_of t r) (run_bytes t r) (bytes_run t r b) (length_run t f r (omega arith))) (run_on t r)

  pub header-back : (run_count t ∷ 0 ∷ 0 ∷ 0 ∷ []) ++ drop 4 t ≡ t
  unfolding run_count
  header-back =
      let room : start_of t 0 ≤ length t = start_of-within t f 0 (omega arith) in
      let long : 4 ≤ length t = omega (arith, start_of-zero t) in
      cc (drop-cons t 0 0 (omega arith), drop-cons t 1 0 (omega arith), drop-cons t 2 0 (omega arith), drop-cons t 3 0 (omega arith))

  pub framed-write-back : tray_bytes (runs_of t) ≡ t
  unfolding tray_bytes
  framed-write-back = rw (length-runs_of t, runs-back, counts-back) header-back

pub write-back : {t : List ℕ} → Sound t → Bytes t → tray_bytes (runs_of t) ≡ t
write-back s b = framed-write-back s.frame b
