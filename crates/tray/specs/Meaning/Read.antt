-- Reading the bytes of fitting runs gives the runs back.
--     length-record_bytes, length-records_bytes, length-counts_bytes, length-runs_bytes, length-tray_bytes     how many bytes are written
--     record-read                record e is read where the bytes of e stand
--     records-read, run-read     so are the records from a place on, and all of a run
--     count-read                 a count is read where its two bytes stand
--     runs-read, read-back       so are the runs from a number on, and all of a tray
use Rattle.std.specs.Prelude.{◌≡◌, get_or}
use Rattle.std.proofs.Math.Path.{refl}
use Rattle.std.proofs.Common.{sym, ◌∙◌, add-zero, arith, length-append, get_or-drop, take_at}
use Prim.Native.Nat.{ℕ, suc, ◌+◌, ◌-◌, ◌*◌, ◌^◌, ◌≤◌, ◌<◌}
use mathlib.Core.List.{List, [], ◌∷◌, ◌++◌, append_assoc, append-nil}
use Rattle.std.proofs.Math.ListN.{length, drop}
use Rattle.number.specs.Big.{be, bytes_of}
use Rattle.number.proofs.Big.Laws.{be-drop, be-append-left, be-bytes_of, length-bytes_of}
use Rattle.theory.specs.Lists.{here, all_tail, part-next}
use Rattle.theory.specs.Rising.{All}
use Rattle.theory.specs.Listed.{listed}
use Rattle.theory.specs.Records.{Record}
use Rattle.tray.specs.Frame.{run_count, count_of, start_of, run_bytes}
use Rattle.tray.specs.Frame.Laws.{start_of-zero, start_of-next}
use Rattle.tray.specs.Run.{record_from, record_at}
use Rattle.tray.specs.Meaning.{run_of, runs_of, record_bytes, records_bytes, counts_bytes, runs_bytes, tray_bytes, total, FitsRecord, Fits}
use Rattle.tray.specs.Meaning.Laws.{run_in}

pub length-record_bytes : (e : Record) → length (record_bytes e) ≡ 25
unfolding record_bytes
length-record_bytes e = simp (length-append, length-bytes_of)

pub length-records_bytes : (es : List Record) → length (records_bytes es) ≡ 25 * length es
unfolding records_bytes
length-records_bytes [] = refl
length-records_bytes (e ∷ es) = simp (length-append, length-record_bytes, length-records_bytes es) (omega arith)

pub length-counts_bytes : (rs : List (List Record)) → length (counts_bytes rs) ≡ 2 * length rs
unfolding counts_bytes
length-counts_bytes [] = refl
length-counts_bytes (r ∷ rs) = simp (length-append, length-bytes_of, length-counts_bytes rs) (omega arith)

pub length-runs_bytes : (rs : List (List Record)) → length (runs_bytes rs) ≡ 25 * total rs
unfolding runs_bytes total
length-runs_bytes [] = refl
length-runs_bytes (r ∷ rs) = simp (length-append, length-records_bytes, length-runs_bytes rs) (omega arith)

pub length-tray_bytes : (rs : List (List Record)) → length (tray_bytes rs) ≡ 4 + 2 * length rs + 25 * total rs
unfolding tray_bytes
length-tray_bytes rs = simp (length-append, length-counts_bytes, length-runs_bytes) (omega arith)

-- a number whose bytes stand at a place
number_read : (w n p : ℕ) (s z : List ℕ) → n < 256 ^ w → drop p s ≡ bytes_of w n ++ z → be w s p ≡ n
number_read w n p s z h e =
    let room : 0 + w ≤ length (bytes_of w n) = rw length-bytes_of (omega arith) in
    let here : be w (drop p s) 0 ≡ be w s p = rw add-zero at (be-drop w p s 0) in
    sym here ∙ rw e (be-append-left w (bytes_of w n) z 0 room ∙ be-bytes_of w n h)

-- a byte that stands at a place
byte-read : (x p : ℕ) (s z : List ℕ) → drop p s ≡ x ∷ z → get_or s p 0 ≡ x
byte-read x p s z e = let here : get_or (drop p s) 0 0 ≡ get_or s p 0 = rw add-zero at (get_or-drop p s 0 0) in sym here ∙ rw e

pub record-read : (e : Record) (at : ℕ) (s z : List ℕ) → FitsRecord e → drop at s ≡ record_bytes e ++ z → record_from s at ≡ e
unfolding record_from record_bytes
record-read e at s z fits here =
    let start : drop at s ≡ bytes_of 8 e.key ++ (e.kind ∷ bytes_of 16 e.value ++ z) = rw append_assoc at here in
    let middle : drop (at + 8) s ≡ e.kind ∷ bytes_of 16 e.value ++ z =
    part-next at (at + 8) s (bytes_of 8 e.key) start (length-bytes_of 8 e.key) refl in
    let end : drop (at + 9) s ≡ bytes_of 16 e.value ++ z = part-next (at + 8) (at + 9) s (e.kind ∷ []) middle refl (omega arith) in
    let key = number_read 8 e.key at s _ fits.key start in
    let kind = byte-read e.kind (at + 8) s _ middle in
    let value = number_read 16 e.value (at + 9) s z fits.value end in
    λ i. record { key = key i; kind = kind i; value = value i }

-- the records from place i on
pub records-read : (es : List Record) (i : ℕ) (run z : List ℕ) → All FitsRecord es → drop (25 * i) run ≡ records_bytes es ++ z
    → listed (length es) i (record_at run) ≡ es
unfolding listed records_bytes
records-read [] i run z fits e = refl
records-read (a ∷ es) i run z fits e =
    let stands : drop (25 * i) run ≡ record_bytes a ++ (records_bytes es ++ z) = rw append_assoc at e in
    let next : drop (25 * suc i) run ≡ records_bytes es ++ z =
    part-next (25 * i) (25 * suc i) run (record_bytes a) stands (length-record_bytes a) (omega arith) in
    let first = record-read a (25 * i) run _ (fits a here) stands in
    let others = records-read es (suc i) run z (all_tail fits) next in
    cc

pub run-read : (r : List Record) → All FitsRecord r → run_of (length r) (records_bytes r) ≡ r
unfolding run_of
run-read r fits = records-read r 0 (records_bytes r) [] fits (sym (append-nil (records_bytes r)))

module _ (t : List ℕ) where
  pub count-read : (n i : ℕ) (z : List ℕ) → n ≤ 4096 → drop (4 + 2 * i) t ≡ bytes_of 2 n ++ z → count_of t i ≡ n
  unfolding count_of
  count-read n i z h e = number_read 2 n (4 + 2 * i) t z (omega arith) e

  -- the bytes of a run whose count is known
  run_bytes-read : (xs z : List ℕ) (i : ℕ) → length xs ≡ 25 * count_of t i → drop (start_of t i) t ≡ xs ++ z → run_bytes t i ≡ xs
  unfolding run_bytes
  run_bytes-read xs z i l e = rw e (take_at xs z (start_of t (suc i) - start_of t i) (omega (arith, start_of-next t i)))

  -- the runs from run i on
  pub runs-read : (rs : List (List Record)) (i : ℕ) (y z : List ℕ) → All (λ r. length r ≤ 4096) rs → All (λ r. All FitsRecord r) rs
      → drop (4 + 2 * i) t ≡ counts_bytes rs ++ y → drop (start_of t i) t ≡ runs_bytes rs ++ z → listed (length rs) i (run_in t) ≡ rs
  unfolding listed counts_bytes runs_bytes
  runs-read [] i y z few fits c e = refl
  runs-read (r ∷ rs) i y z few fits c e =
      let counted : drop (4 + 2 * i) t ≡ bytes_of 2 (length r) ++ (counts_bytes rs ++ y) = rw append_assoc at c in
      let stands : drop (start_of t i) t ≡ records_bytes r ++ (runs_bytes rs ++ z) = rw append_assoc at e in
      let count : count_of t i ≡ length r = count-read (length r) i _ (few r here) counted in
      let long : length (records_bytes r) ≡ 25 * count_of t i = rw count (length-records_bytes r) in
      let bytes : run_bytes t i ≡ records_bytes r = run_bytes-read (records_bytes r) _ i long stands in
      let first : run_in t i ≡ r = rw (count, bytes) (run-read r (fits r here)) in
      let counted_next = part-next (4 + 2 * i) (4 + 2 * suc i) t (bytes_of 2 (length r)) counted (length-bytes_of 2 (length r)) (omega arith) in
      let next = part-next (start_of t i) (start_of t (suc i)) t (records_bytes r) stands long (start_of-next t i) in
      let others = runs-read rs (suc i) y z (all_tail few) (all_tail fits) counted_next next in
      cc

pub read_back : {rs : List (List Record)} → Fits rs → runs_of (tray_bytes rs) ≡ rs
unfolding runs_of tray_bytes run_count
read_back {rs} fits =
    let t = tray_bytes rs in
    let end : runs_bytes rs ≡ runs_bytes rs ++ [] = sym (append-nil (runs_bytes rs)) in
    let runs : drop (start_of t 0) t ≡ runs_bytes rs = part-next 4 (start_of t 0) t (counts_bytes rs) refl (length-counts_bytes rs) (start_of-zero t) in
    runs-read t rs 0 (runs_bytes rs) [] fits.counts fits.records refl (runs ∙ end)
