-- What the code of get needs of the definitions.
--     value_if, value-there, value-other     what a record found answers
--     InTray, seek-named, seek-there     a record found is one of the tray's
--     got-value, got-none, got-lost      what get came to
use Rattle.std.specs.Prelude.{◌≡◌, cond, ◌&&◌, List, get_or, eqb, leb, ltb, Ok, Err, Some, None}
use Rattle.std.proofs.Math.Path.{sym, ap}
use Rattle.std.proofs.Common.{◌∙◌, subst, arith, ltb-true, eq-eqb, ne_eqb}
use Prim.Native.Nat.{ℕ, ◌+◌, ◌-◌, ◌<◌}
use Rattle.theory.specs.Tests.{cases, and_left, and_right, never}
use Rattle.tray.specs.Frame.{run_count, count_of, run_bytes}
use Rattle.tray.specs.Run.{record_at}
use Rattle.refusal.specs.declared.Refusal.TheVariants.{Lost}
use Rattle.number.specs.Big.{bytes_of}
use Rattle.index.specs.Layout.{segment_count}
use Rattle.index.specs.Scan.{run_in}
use Rattle.walk.specs.declared.cursor.Sighting.{Sighting}
use Rattle.walk.specs.declared.cursor.Lost.{Lost as LostAt}
use Rattle.walk.specs.Start.{start}
use Rattle.walk.specs.Walk.{Spot, Visit, stay, go, Walked, stayed, named, walk_segments}
use Rattle.walk.specs.Reads.{Found, unmarked, record_by, found_by, seek_visit, seek, value, absent, got_from, get}
use Rattle.walk.specs.Code.{sought_of}
use Rattle.walk.specs.Code.Stayed.{Stands, segments-stayed}
use Rattle.answers.specs.Get.{Value, got_told, get_framed}

-- the value of the record at a place, where its key is the one asked for
unfoldable pub value_if : List ℕ → ℕ → ℕ → ℕ → Value
value_if t run place key = let e = record_at (run_bytes t run) place in got_told (cond (eqb e.key key) (value e.value) absent)

pub value-there : (t : List ℕ) (run place key : ℕ) {k : ℕ} {bytes : List ℕ} → k ≡ (record_at (run_bytes t run) place).key → k ≡ key
    → bytes ≡ bytes_of 16 (record_at (run_bytes t run) place).value → Ok (Some bytes) ≡ value_if t run place key
unfolding value_if got_told
value-there t run place key e y b =
    ap (λ (bs : List ℕ). Ok (Some bs)) b
    ∙ sym (rw (eq-eqb (record_at (run_bytes t run) place).key key (sym e ∙ y)))

pub value-other : (t : List ℕ) (run place key : ℕ) {k : ℕ} → k ≡ (record_at (run_bytes t run) place).key → (k ≡ key → ⊥) → Ok None ≡ value_if t run place key
unfolding value_if got_told
value-other t run place key e n = sym (rw (ne_eqb (record_at (run_bytes t run) place).key key (λ z. n (e ∙ z))))

-- a record found is one of the tray's
pub record InTray (t : List ℕ) (f : Found) : Type 0 where
  pub run-below : f.run < run_count t
  pub place-below : f.place < count_of t f.run

stay-named : (t x : List ℕ) (key n v : ℕ) (c : Spot) (st : ℕ) (f : Found) → Stands t x n v c → seek_visit t key v c st ≡ stay f → InTray t f
unfolding seek_visit found_by named
stay-named t x key n v c st f stands e =
    let there = stands.there in
    cases (unmarked v && leb key (record_by t v c).key)
    (λ y. subst (InTray t) (same (rw y at e))
    (record {
      run-below = ltb-true (run_in v) (run_count t) (and_left _ _ there);
      place-below = ltb-true (get_or c.places (run_in v) 0) (count_of t (run_in v)) (and_right (ltb (run_in v) (run_count t)) _ there);
    }))
    (λ n. never (other (rw n at e)))
  where
    same : {a b : Found} → ◌≡◌ {A = Visit ℕ Found} (stay a) (stay b) → a ≡ b
    same z = cc

    other : {a : ℕ} {b : Found} → ◌≡◌ {A = Visit ℕ Found} (go a) (stay b) → ◌≡◌ {A = ℕ} 0 1
    other z = cc

pub seek-named : (t x : List ℕ) (key k g : ℕ) {f : Found} → walk_segments t x (seek_visit t key) k g 0 ≡ stayed f → InTray t f
seek-named t x key k g {f} e = segments-stayed t x (seek_visit t key) (InTray t) (g + k) (stay-named t x key (g + k)) k g 0 f (omega arith) e

pub seek-there : (t x : List ℕ) (key : ℕ) {f : Found} → seek t x key ≡ stayed f → InTray t f
unfolding seek
seek-there t x key e = seek-named t x key (segment_count x - start (run_count t) x key) (start (run_count t) x key) e

-- what get came to
module _ (t x : List ℕ) (key : ℕ) where
  pub found-there : (f : Sighting) → sought_of (Ok (Some f)) ≡ seek t x key → (f.run.0 < run_count t) × (f.place.0 < count_of t f.run.0)
  unfolding sought_of
  found-there f e = let there = seek-there t x key (sym e) in (there.run-below, there.place-below)

  pub got-value : (f : Sighting) {r : Value} → sought_of (Ok (Some f)) ≡ seek t x key → r ≡ value_if t f.run.0 f.place.0 key → r ≡ get_framed t x key
  unfolding sought_of get_framed get got_from value_if
  got-value f e j = j ∙ ap (λ (a : Walked ℕ Found). got_told (got_from t key a)) e

  pub got-none : sought_of (Ok None) ≡ seek t x key → Ok None ≡ get_framed t x key
  unfolding sought_of get_framed get got_from got_told
  got-none e = ap (λ (a : Walked ℕ Found). got_told (got_from t key a)) e

  pub got-lost : (l : LostAt) → sought_of (Err l) ≡ seek t x key → Err (Lost l.segment l.selector) ≡ get_framed t x key
  unfolding sought_of get_framed get got_from got_told
  got-lost l e = ap (λ (a : Walked ℕ Found). got_told (got_from t key a)) e
