-- Sound trays and good runs that fit correspond one to one: what the bytes of fitting runs are, and that a tray's runs fit.
--     total-runs_of               the records of a tray, counted by runs
--     run_count-tray_bytes         byte 0 of what is written
--     bytes-record_bytes, bytes-records_bytes, bytes-counts_bytes, bytes-runs_bytes, bytes_back     what is written are bytes
--     framed-back, sound_back    fitting runs make a framed tray, good ones a sound tray
--     fits-runs                  the runs of a framed tray fit
--     tray_bytes-one              two lists of fitting runs with the same bytes are equal
--     runs_of-one                 two framed trays with the same runs are equal
use Rattle.std.specs.Prelude.{◌≡◌, refl, ℕ, zero, suc, ◌+◌, ◌*◌, ◌≤◌, ◌<◌, List, [], ◌∷◌, ◌++◌}
use Rattle.std.proofs.Common.{sym, ◌∙◌, subst, add-zero, zero-add, add-suc, suc-add, arith}
use Rattle.std.proofs.Math.Path.{ap}
use Rattle.std.proofs.Math.ListN.{length}
use Rattle.number.specs.Big.{bytes_of, Bytes}
use Rattle.number.proofs.Big.Laws.{be-bound, bytes-bytes_of, bytes-cons, bytes-append}
use Rattle.theory.specs.Lists.{here, all_tail}
use Rattle.theory.specs.Rising.{Mem, All}
use Rattle.theory.specs.Listed.{listed}
use Rattle.theory.specs.Records.{Record, SoundRecord}
use Rattle.theory.specs.Merge.{Good}
use Rattle.tray.specs.Frame.{run_count, count_of, records_before, start_of, run_bytes, Framed}
use Rattle.tray.specs.Frame.Laws.{records_before-zero, records_before-next}
use Rattle.tray.specs.Run.{record_from}
use Rattle.tray.specs.Check.{Sound}
use Rattle.tray.specs.Meaning.{runs_of, record_bytes, records_bytes, counts_bytes, runs_bytes, tray_bytes, total, FitsRecord, Fits}
use Rattle.tray.specs.Meaning.Laws.{run_in, length-run_of, all-run_of, length-runs_of, mem-runs_of, all-runs_of, good-sound}
use Rattle.tray.specs.Meaning.Write.{bytes_run, framed-write-back}
use Rattle.tray.specs.Meaning.Read.{length-tray_bytes, read_back}

-- the records of n runs from run i on
total-from : (t : List ℕ) (n i : ℕ) → records_before t i + total (listed n i (run_in t)) ≡ records_before t (i + n)
unfolding listed total
total-from t zero i = simp add-zero
total-from t (suc n) i =
    let others : records_before t (suc i) + total (listed n (suc i) (run_in t)) ≡ records_before t (suc i + n) = total-from t n (suc i) in
    rw (length-run_of, add-suc, ← suc-add) (omega (arith, records_before-next t i))

pub total-runs_of : (t : List ℕ) → total (runs_of t) ≡ records_before t (run_count t)
unfolding runs_of
total-runs_of t = simp (records_before-zero, zero-add) at (total-from t (run_count t) 0)

pub run_count-tray_bytes : (rs : List (List Record)) → run_count (tray_bytes rs) ≡ length rs
unfolding run_count tray_bytes
run_count-tray_bytes rs = refl

-- the first four bytes
bytes-header : (n : ℕ) (s : List ℕ) → n < 256 → Bytes s → Bytes (n ∷ 0 ∷ 0 ∷ 0 ∷ s)
bytes-header n s h b =
    bytes-cons n (0 ∷ 0 ∷ 0 ∷ s) h
    (bytes-cons 0 (0 ∷ 0 ∷ s) (omega arith) (bytes-cons 0 (0 ∷ s) (omega arith) (bytes-cons 0 s (omega arith) b)))

-- `flat` lays what `one` makes of each member end to end: bytes laid so are bytes
bytes-laid : {A : Type 0} (one : A → List ℕ) (flat : List A → List ℕ)
    → flat [] ≡ [] → ((a : A) (xs : List A) → flat (a ∷ xs) ≡ one a ++ flat xs)
    → (xs : List A) → All (λ a. Bytes (one a)) xs → Bytes (flat xs)
bytes-laid one flat flat-nil flat-cons [] b = rw flat-nil (λ i. omega arith)
bytes-laid one flat flat-nil flat-cons (a ∷ xs) b =
    rw flat-cons (bytes-append (one a) (flat xs) (b a here) (bytes-laid one flat flat-nil flat-cons xs (all_tail b)))

pub bytes-record_bytes : (e : Record) → FitsRecord e → Bytes (record_bytes e)
unfolding record_bytes
bytes-record_bytes e f =
    bytes-append (bytes_of 8 e.key) (e.kind ∷ bytes_of 16 e.value) (bytes-bytes_of 8 e.key)
    (bytes-cons e.kind (bytes_of 16 e.value) f.kind (bytes-bytes_of 16 e.value))

pub bytes-records_bytes : (es : List Record) → All FitsRecord es → Bytes (records_bytes es)
unfolding records_bytes
bytes-records_bytes es f = bytes-laid record_bytes records_bytes refl (λ e es. refl) es (λ e m. bytes-record_bytes e (f e m))

pub bytes-counts_bytes : (rs : List (List Record)) → Bytes (counts_bytes rs)
unfolding counts_bytes
bytes-counts_bytes rs = bytes-laid (λ r. bytes_of 2 (length r)) counts_bytes refl (λ r rs. refl) rs (λ r m. bytes-bytes_of 2 (length r))

pub bytes-runs_bytes : (rs : List (List Record)) → All (λ r. All FitsRecord r) rs → Bytes (runs_bytes rs)
unfolding runs_bytes
bytes-runs_bytes rs f = bytes-laid records_bytes runs_bytes refl (λ r rs. refl) rs (λ r m. bytes-records_bytes r (f r m))

module _ {rs : List (List Record)} (fits : Fits rs) where
  -- a run that is read is one of those that were written
  mem-back : (r : ℕ) → r < run_count (tray_bytes rs) → Mem (run_in (tray_bytes rs) r) rs
  mem-back r l = subst (Mem (run_in (tray_bytes rs) r)) (read_back fits) (mem-runs_of (tray_bytes rs) r l)

  -- they are as long as their counts say
  whole_back : length (tray_bytes rs) ≡ start_of (tray_bytes rs) (run_count (tray_bytes rs))
  unfolding start_of
  whole_back =
      let written : total (runs_of (tray_bytes rs)) ≡ total rs = ap total (read_back fits) in
      omega (arith, length-tray_bytes rs, total-runs_of (tray_bytes rs), run_count-tray_bytes rs)

  pub framed-back : Framed (tray_bytes rs)
  unfolding tray_bytes
  framed-back =
      record {
        some-run = rw (run_count-tray_bytes rs) fits.some-run;
        most-runs = rw (run_count-tray_bytes rs) fits.most-runs;
        zero-1 = refl;
        zero-2 = refl;
        zero-3 = refl;
        counts = λ r l. rw length-run_of at (fits.counts (run_in (tray_bytes rs) r) (mem-back r l));
        whole = whole_back;
      }

  pub sound_back : Good SoundRecord (λ e. e.key) rs → Sound (tray_bytes rs)
  sound_back good = good-sound framed-back (subst (Good SoundRecord (λ e. e.key)) (sym (read_back fits)) good)

  pub bytes_back : Bytes (tray_bytes rs)
  unfolding tray_bytes
  bytes_back =
      let few : length rs ≤ 63 = fits.most-runs in
      bytes-header (length rs) (counts_bytes rs ++ runs_bytes rs) (omega arith)
      (bytes-append (counts_bytes rs) (runs_bytes rs) (bytes-counts_bytes rs) (bytes-runs_bytes rs fits.records))

-- a record read from bytes
fits-record_from : (s : List ℕ) (at : ℕ) → Bytes s → FitsRecord (record_from s at)
unfolding record_from
fits-record_from s at b = record { key = be-bound 8 s at b; kind = b (at + 8); value = be-bound 16 s (at + 9) b }

pub fits-runs : {t : List ℕ} → Framed t → Bytes t → Fits (runs_of t)
fits-runs {t} f b =
    record {
      some-run = rw length-runs_of f.some-run;
      most-runs = rw length-runs_of f.most-runs;
      counts = all-runs_of (λ r. length r ≤ 4096) t (λ r l. rw length-run_of (f.counts r l));
      records = all-runs_of (λ r. All FitsRecord r) t
          (λ r l. all-run_of FitsRecord (count_of t r) (run_bytes t r) (λ p k. fits-record_from (run_bytes t r) (25 * p) (bytes_run t r b)));
    }

pub tray_bytes-one : {rs qs : List (List Record)} → Fits rs → Fits qs → tray_bytes rs ≡ tray_bytes qs → rs ≡ qs
tray_bytes-one f g e = sym (read_back f) ∙ ap runs_of e ∙ read_back g

pub runs_of-one : {t u : List ℕ} → Framed t → Bytes t → Framed u → Bytes u → runs_of t ≡ runs_of u → t ≡ u
runs_of-one f b g c e = sym (framed-write-back f b) ∙ ap tray_bytes e ∙ framed-write-back g c
