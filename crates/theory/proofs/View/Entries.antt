-- Laws of entries: what stands in a tray, and where.
-- Beside the worked cases only this file and `View/Laws.antt` look inside `spread` and `entries_from`.
--     entry-eq, at_one                two entries of one place are one
--     InRun, spread-mem               the entries of one run
--     AtFrom, entries-mem, from_at    the entries of a tray whose first run has any number
--     entries_at, at-entries          the entries are what stands in the tray
--     run_at-lt, run_at-place, run_at-past     a run by its number: where it holds something, where it stands, past the last
--     at-run, at_low, at_mem, mem-at  an entry's run, and the records of a run
--     runs-rise, at-rise, at-rise-le  a run's keys rise, from place to place
use Rattle.std.specs.Prelude.{◌≡◌, ◌⊎◌, ltb}
use Rattle.std.proofs.Math.Path.{refl, sym, ap}
use Rattle.std.proofs.Common.{◌∙◌, ltb-true, ltb-false}
use Rattle.std.proofs.Math.Logic.{inl, inr, ⊎_elim}
use Prim.Native.Nat.{ℕ, zero, suc, ◌+◌, ◌<◌, ◌≤◌}
use Rattle.std.proofs.Math.Nat.{zero-add, add-zero}
use native.Mathlib.Omega.{arith}
use Rattle.std.proofs.Math.Option.{some, some-injective}
use mathlib.Core.List.Memᴰ
use mathlib.Core.List.{List, [], ◌∷◌}
use Rattle.std.proofs.Math.ListN.{length, get_elem?, get_or-eq_default}
use Rattle.theory.specs.Tests.{cases}
use Rattle.theory.specs.Lists.{none-some, place-mem, mem-place, place-get_or}
use Rattle.theory.specs.Rising.{Mem, Rises, none}
use Rattle.theory.proofs.Rising.Laws.{rises-places}
use Rattle.theory.specs.Merge.{Good}
use Rattle.theory.specs.View.{Entry, spread, entries_from, entries, run_at, At}

module _ {A : Type 0} where
  -- e is a record of run i, the list being that run from place j on
  abbrev pub InRun : ℕ → ℕ → List A → Entry A → Type 0
  InRun i j xs e = (n : ℕ) × (e.run ≡ i) × (e.place ≡ j + n) × (get_elem? xs n ≡ some e.item)

  -- e stands in the tray, its first run being number i
  abbrev pub AtFrom : ℕ → List (List A) → Entry A → Type 0
  AtFrom i t e = (n : ℕ) × (e.run ≡ i + n) × (get_elem? (run_at t n) e.place ≡ some e.item)

  pub entry-eq : {x y : Entry A} → x.run ≡ y.run → x.place ≡ y.place → x.item ≡ y.item → x ≡ y
  entry-eq p q r = λ i. record { run = p i; place = q i; item = r i }

  pub spread-mem : (i j : ℕ) (xs : List A) {e : Entry A} → Mem e (spread i j xs) → InRun i j xs e
  unfolding spread
  spread-mem i j [] m = absurd (Memᴰ.not-nil m)
  spread-mem i j (a ∷ xs) {e} m = ⊎_elim here (λ n. there (spread-mem i (suc j) xs n)) (Memᴰ.cases_cons m)
    where
      here : e ≡ record { run = i; place = j; item = a } → InRun i j (a ∷ xs) e
      here p = (zero, ap (λ x. x.run) p, ap (λ x. x.place) p ∙ sym (add-zero j), ap (λ x. some x.item) (sym p))

      there : InRun i (suc j) xs e → InRun i j (a ∷ xs) e
      there w = (suc w.0, w.1, omega arith, w.3)

  mem-spread : (i j : ℕ) (xs : List A) (n : ℕ) (e : Entry A) → get_elem? xs n ≡ some e.item
      → e.run ≡ i → e.place ≡ j + n → Mem e (spread i j xs)
  unfolding spread
  mem-spread i j [] n e h p q = none-some h
  mem-spread i j (a ∷ xs) zero e h p q = Memᴰ.head (entry-eq p (q ∙ add-zero j) (sym (some-injective a e.item h)))
  mem-spread i j (a ∷ xs) (suc n) e h p q = Memᴰ.tail (mem-spread i (suc j) xs n e h p (omega arith))

  pub entries-mem : (i : ℕ) (t : List (List A)) {e : Entry A} → Mem e (entries_from i t) → AtFrom i t e
  unfolding entries_from run_at
  entries-mem i [] m = absurd (Memᴰ.not-nil m)
  entries-mem i (r ∷ rs) {e} m = ⊎_elim here (λ n. there (entries-mem (suc i) rs n)) (Memᴰ.append_cases (spread i 0 r) m)
    where
      here : Mem e (spread i 0 r) → AtFrom i (r ∷ rs) e
      here m = let w = spread-mem i 0 r m in (zero, w.1 ∙ sym (add-zero i), ap (get_elem? r) (w.2 ∙ zero-add w.0) ∙ w.3)

      there : AtFrom (suc i) rs e → AtFrom i (r ∷ rs) e
      there w = (suc w.0, omega arith, w.2)

  mem-entries : (i : ℕ) (t : List (List A)) (n : ℕ) (e : Entry A) → get_elem? (run_at t n) e.place ≡ some e.item
      → e.run ≡ i + n → Mem e (entries_from i t)
  unfolding entries_from run_at
  mem-entries i [] n e h p = none-some h
  mem-entries i (r ∷ rs) zero e h p =
      Memᴰ.append_left (entries_from (suc i) rs) (mem-spread i 0 r e.place e h (p ∙ add-zero i) (sym (zero-add e.place)))
  mem-entries i (r ∷ rs) (suc n) e h p = Memᴰ.append_right (spread i 0 r) (mem-entries (suc i) rs n e h (omega arith))

  -- a run that holds something is one of the tray's
  pub run_at-lt : (t : List (List A)) (i j : ℕ) {a : A} → get_elem? (run_at t i) j ≡ some a → i < length t
  unfolding run_at
  run_at-lt [] i j e = none-some e
  run_at-lt (r ∷ rs) zero j e = omega arith
  run_at-lt (r ∷ rs) (suc i) j e = let l : i < length rs = run_at-lt rs i j e in omega arith

  -- the run that stands at a number
  pub run_at-place : (t : List (List A)) (i : ℕ) {r : List A} → get_elem? t i ≡ some r → run_at t i ≡ r
  unfolding run_at
  run_at-place t i e = place-get_or t i [] e

  -- past the last run there is no record
  pub run_at-past : (t : List (List A)) (i : ℕ) → length t ≤ i → run_at t i ≡ []
  unfolding run_at
  run_at-past t i l = get_or-eq_default t [] l

  -- a run number is that of a run, or past the last
  run_at-mem : (t : List (List A)) (i : ℕ) → (run_at t i ≡ []) ⊎ Mem (run_at t i) t
  unfolding run_at
  run_at-mem [] i = inl refl
  run_at-mem (r ∷ rs) zero = inr (Memᴰ.head refl)
  run_at-mem (r ∷ rs) (suc i) = ⊎_elim (λ e. inl e) (λ m. inr (Memᴰ.tail m)) (run_at-mem rs i)

  module _ (t : List (List A)) (e : Entry A) where
    pub from_at : AtFrom 0 t e → At t e
    from_at w = ap (λ i. get_elem? (run_at t i) e.place) (w.1 ∙ zero-add w.0) ∙ w.2

    pub entries_at : Mem e (entries t) → At t e
    entries_at m = from_at (entries-mem 0 t m)

    pub at-entries : At t e → Mem e (entries t)
    at-entries a = mem-entries 0 t e.run e a (sym (zero-add e.run))

    pub at-run : At t e → e.run < length t
    at-run a = run_at-lt t e.run e.place a

    pub at_low : length t ≤ 64 → At t e → e.run < 64
    at_low few a = omega (arith, at-run a)

    pub at_mem : At t e → Mem e.item (run_at t e.run)
    at_mem a = place-mem (run_at t e.run) e.place a

  pub at_one : (t : List (List A)) (x y : Entry A) → At t x → At t y → x.run ≡ y.run → x.place ≡ y.place → x ≡ y
  at_one t x y a b p q =
      let there : get_elem? (run_at t x.run) x.place ≡ get_elem? (run_at t y.run) y.place = cc in
      entry-eq p q (some-injective x.item y.item (sym a ∙ there ∙ b))

  -- a record of run i stands in the tray
  pub mem-at : (t : List (List A)) (i : ℕ) {a : A} → Mem a (run_at t i) → (e : Entry A) × At t e × (e.run ≡ i) × (e.item ≡ a)
  mem-at t i {a} m = let w = mem-place (run_at t i) m in (record { run = i; place = w.0; item = a }, w.1, refl, refl)

  module _ {Ok : A → Type 0} {key : A → ℕ} {t : List (List A)} (good : Good Ok key t) where
    pub runs-rise : (i : ℕ) → Rises key (run_at t i)
    runs-rise i = ⊎_elim (λ e. rw e none) (λ m. (good (run_at t i) m).rises) (run_at-mem t i)

    module _ (x y : Entry A) (a : At t x) (b : At t y) (p : x.run ≡ y.run) where
      -- of two records of a run the later has the higher key
      pub at-rise : x.place < y.place → key x.item < key y.item
      at-rise l =
          rises-places key (runs-rise x.run) x.place y.place a (ap (λ i. get_elem? (run_at t i) y.place) p ∙ b) l

      pub at-rise-le : x.place ≤ y.place → key x.item ≤ key y.item
      at-rise-le l =
          cases (ltb x.place y.place) (λ s. let k = at-rise (ltb-true _ _ s) in omega arith)
          (λ n. let q : x.place ≡ y.place = omega (arith, ltb-false x.place y.place n) in
          let k = ap (λ z. key z.item) (at_one t x y a b p q) in omega arith)
