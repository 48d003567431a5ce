-- Laws of the frame.
--     upto                                           what holds below n and at n holds below suc n
--     counts_fit-all, all-counts_fit, counts_fit-not    the test of the counts, and the counts
--     framed-fits, fits-framed                       the frame as a test, and as the rules have it
--     records_before-zero, records_before-next, records_before-up, records_before-le     records are counted upward
--     start_of-zero, start_of-next, start_of-le, start_of-within     where runs start
--     length_run                                     how long a run is
use Rattle.std.specs.Prelude.{◌≡◌, refl, ℕ, zero, suc, ◌+◌, ◌-◌, ◌*◌, ◌≤◌, ◌<◌, true, false, List, length, get_or, leb, eqb}
use Rattle.std.proofs.Common.{sym, subst, ⊎_elim, arith, le_refl, eq-or-lt_of_le, le_of_suc-le-suc, add-zero, add-suc, length-take, length-drop, leb-true, le-leb, eqb-true, eq-eqb}
use Rattle.theory.specs.Tests.{cases, and-true, and_left, and_right}
use Rattle.tray.specs.Frame.{run_count, count_of, records_before, start_of, run_bytes, Framed, header_fits, counts_fit, framed}

-- what holds below n and at n holds below suc n
pub upto : {P : ℕ → Type 0} {n : ℕ} → ((r : ℕ) → r < n → P r) → P n → (r : ℕ) → r < suc n → P r
upto {P} {n} below at r l = ⊎_elim (λ e. subst P (sym e) at) (λ k. below r k) (eq-or-lt_of_le (le_of_suc-le-suc l))

pub counts_fit-all : (t : List ℕ) (n : ℕ) → counts_fit t n ≡ true → (r : ℕ) → r < n → count_of t r ≤ 4096
unfolding counts_fit
counts_fit-all t zero h = λ r l. absurd (omega arith)
counts_fit-all t (suc n) h = upto (counts_fit-all t n (and_left _ _ h)) (leb-true _ _ (and_right (counts_fit t n) _ h))

pub all-counts_fit : (t : List ℕ) (n : ℕ) → ((r : ℕ) → r < n → count_of t r ≤ 4096) → counts_fit t n ≡ true
unfolding counts_fit
all-counts_fit t zero h = refl
all-counts_fit t (suc n) h =
    and-true (all-counts_fit t n (λ r l. h r (omega arith))) (le-leb _ _ (h n (omega arith)))

-- a count that does not fit is among the counts
pub counts_fit-not : (t : List ℕ) (n r : ℕ) → r < n → 4096 < count_of t r → counts_fit t n ≡ false
counts_fit-not t n r l h = cases (counts_fit t n) (λ e. let k : count_of t r ≤ 4096 = counts_fit-all t n e r l in absurd (omega arith)) (λ e. e)

pub framed-fits : (t : List ℕ) → framed t ≡ true → Framed t
unfolding framed header_fits
framed-fits t h =
    let header = and_left _ _ h in
    let body = and_right (header_fits t) _ h in
    let h1 = and_right (leb (4 + 2 * run_count t) (length t)) _ header in
    let h2 = and_right (leb 1 (run_count t)) _ h1 in
    let h3 = and_right (leb (run_count t) 63) _ h2 in
    let h4 = and_right (eqb (get_or t 1 0) 0) _ h3 in
    record {
      some-run = leb-true _ _ (and_left _ _ h1);
      most-runs = leb-true _ _ (and_left _ _ h2);
      zero-1 = eqb-true _ _ (and_left _ _ h3);
      zero-2 = eqb-true _ _ (and_left _ _ h4);
      zero-3 = eqb-true _ _ (and_right (eqb (get_or t 2 0) 0) _ h4);
      counts = counts_fit-all t (run_count t) (and_left _ _ body);
      whole = eqb-true _ _ (and_right (counts_fit t (run_count t)) _ body);
    }

-- a run starts after the header and the counts
start_of-least : (t : List ℕ) (r : ℕ) → 4 + 2 * run_count t ≤ start_of t r
unfolding start_of
start_of-least t r = omega arith

pub fits-framed : (t : List ℕ) → Framed t → framed t ≡ true
unfolding framed header_fits
fits-framed t f =
    let least : 4 + 2 * run_count t ≤ start_of t (run_count t) = start_of-least t (run_count t) in
    let whole : length t ≡ start_of t (run_count t) = f.whole in
    let long : 4 + 2 * run_count t ≤ length t = omega arith in
    and-true
    (and-true (le-leb _ _ long)
    (and-true (le-leb _ _ f.some-run)
    (and-true (le-leb _ _ f.most-runs) (and-true (eq-eqb _ _ f.zero-1) (and-true (eq-eqb _ _ f.zero-2) (eq-eqb _ _ f.zero-3))))))
    (and-true (all-counts_fit t (run_count t) f.counts) (eq-eqb _ _ whole))

pub start_of-zero : (t : List ℕ) → start_of t 0 ≡ 4 + 2 * run_count t
unfolding start_of records_before
start_of-zero t = omega arith

pub start_of-next : (t : List ℕ) (r : ℕ) → start_of t (suc r) ≡ start_of t r + 25 * count_of t r
unfolding start_of records_before
start_of-next t r = omega arith

pub records_before-next : (t : List ℕ) (r : ℕ) → records_before t (suc r) ≡ records_before t r + count_of t r
unfolding records_before
records_before-next t r = refl

pub records_before-zero : (t : List ℕ) → records_before t 0 ≡ 0
unfolding records_before
records_before-zero t = refl

-- later runs start later
pub records_before-up : (t : List ℕ) (r n : ℕ) → records_before t r ≤ records_before t (r + n)
unfolding records_before
records_before-up t r zero = rw add-zero (le_refl _)
records_before-up t r (suc n) = rw add-suc (let h : records_before t r ≤ records_before t (r + n) = records_before-up t r n in omega arith)

pub records_before-le : (t : List ℕ) (r n : ℕ) → r ≤ n → records_before t r ≤ records_before t n
records_before-le t r n l =
    let h : records_before t r ≤ records_before t (r + (n - r)) = records_before-up t r (n - r) in
    let e : r + (n - r) ≡ n = omega arith in
    rw e at h

pub start_of-le : (t : List ℕ) (r n : ℕ) → r ≤ n → start_of t r ≤ start_of t n
unfolding start_of
start_of-le t r n l = let h : records_before t r ≤ records_before t n = records_before-le t r n l in omega arith

-- in a frame that fits a run ends inside the tray
pub start_of-within : (t : List ℕ) → Framed t → (r : ℕ) → r ≤ run_count t → start_of t r ≤ length t
start_of-within t f r l =
    let h : start_of t r ≤ start_of t (run_count t) = start_of-le t r (run_count t) l in
    let e : length t ≡ start_of t (run_count t) = f.whole in
    omega arith

-- a run of n records has 25 n bytes
pub length_run : (t : List ℕ) → Framed t → (r : ℕ) → r < run_count t → length (run_bytes t r) ≡ 25 * count_of t r
unfolding run_bytes
length_run t f r l =
    let a : start_of t (suc r) ≡ start_of t r + 25 * count_of t r = start_of-next t r in
    let b : start_of t (suc r) ≤ length t = start_of-within t f (suc r) l in
    simp (length-take, length-drop) (omega arith)
