-- What the code of the frame needs of the definitions: each law is a way out of a function, or a turn of its loop.
--     header-short, header-none, header-many, header-1, header-2, header-3     the header, test by test
--     header_is                                what a header that fits says
--     Counted, read-counts-none, read-counts-more      the counts and starts found so far
--     over, no-header, not-long                a frame that does not fit
--     as-long, frame_of                        one that does, and what it says
--     Cut, cut                                 a run as the code cuts it out of the tray
use Rattle.std.specs.Prelude.{◌≡◌, Bool, ◌&&◌, List, drop, set, leb, eqb}
use Rattle.std.proofs.Math.Path.{refl, sym, ap, ap₂, subst}
use Rattle.std.proofs.Common.{◌∙◌, add-one}
use Prim.Native.Nat.{ℕ, suc, ◌+◌, ◌-◌, ◌*◌, ◌≤◌, ◌<◌, suc-le-suc}
use native.Mathlib.Omega.{arith}
use Rattle.std.proofs.Math.Bool.{true, false}
use Rattle.std.proofs.Math.ListN.{length, get_or, take, length-set}
use Rattle.std.proofs.Math.Seq.{get_or-set_same, get_or-set_other}
use borrow.Author.Tests.{leb-true, le-leb, lt-leb, eqb-true, eqb-false, eq-eqb, ne_eqb}
use Rattle.theory.specs.Tests.{cases, and-true, and_left, and_right}
use Rattle.tray.specs.Frame.{run_count, count_of, start_of, header_fits, counts_fit, framed, FrameOf, Starts, run_bytes}
use Rattle.tray.specs.Frame.Code.{Header}
use Rattle.tray.specs.Frame.Laws.{framed-fits, length_run, start_of-le, start_of-within, counts_fit-not, start_of-zero, start_of-next, upto}

-- equality may be tested either way round
eqb-turned : (a b : ℕ) → eqb a b ≡ eqb b a
eqb-turned a b = cases (eqb b a) (λ y. eq-eqb a b (sym (eqb-true b a y)) ∙ sym y) (λ n. ne_eqb a b (λ e. eqb-false b a n (sym e)) ∙ sym n)

module _ (t : List ℕ) where
  pub header-short : length t < 4 + 2 * get_or t 0 0 → false ≡ header_fits t
  unfolding header_fits run_count
  header-short h = rw (lt-leb (4 + 2 * get_or t 0 0) (length t) h)

  module _ (long : 4 + 2 * get_or t 0 0 ≤ length t) where
    pub header-none : get_or t 0 0 < 1 → false ≡ header_fits t
    unfolding header_fits run_count
    header-none a = rw (le-leb (4 + 2 * get_or t 0 0) (length t) long, lt-leb 1 (get_or t 0 0) a)

    module _ (some : 1 ≤ get_or t 0 0) where
      pub header-many : 63 < get_or t 0 0 → false ≡ header_fits t
      unfolding header_fits run_count
      header-many a = rw (le-leb (4 + 2 * get_or t 0 0) (length t) long, le-leb 1 (get_or t 0 0) some, lt-leb (get_or t 0 0) 63 a)

      module _ (most : get_or t 0 0 ≤ 63) where
        rest-is : header_fits t ≡ (eqb (get_or t 1 0) 0 && (eqb (get_or t 2 0) 0 && eqb (get_or t 3 0) 0))
        unfolding header_fits run_count
        rest-is = rw (le-leb (4 + 2 * get_or t 0 0) (length t) long, le-leb 1 (get_or t 0 0) some, le-leb (get_or t 0 0) 63 most)

        pub header-1 : (get_or t 1 0 ≡ 0 → ⊥) → false ≡ header_fits t
        header-1 a = sym (rest-is ∙ rw (ne_eqb (get_or t 1 0) 0 a))

        module _ (zero-1 : get_or t 1 0 ≡ 0) where
          pub header-2 : (get_or t 2 0 ≡ 0 → ⊥) → false ≡ header_fits t
          header-2 a = sym (rest-is ∙ rw (eq-eqb (get_or t 1 0) 0 zero-1, ne_eqb (get_or t 2 0) 0 a))

          pub header-3 : get_or t 2 0 ≡ 0 → eqb (get_or t 3 0) 0 ≡ header_fits t
          header-3 zero-2 = sym (rest-is ∙ rw (eq-eqb (get_or t 1 0) 0 zero-1, eq-eqb (get_or t 2 0) 0 zero-2))

  pub header_is : header_fits t ≡ true → Header t
  unfolding header_fits run_count
  header_is h =
      let a = and_right (leb (4 + 2 * get_or t 0 0) (length t)) _ h in
      let b = and_right (leb 1 (get_or t 0 0)) _ a in
      record { fits = h; long = leb-true _ _ (and_left _ _ h); most = leb-true _ _ (and_left _ _ b) }

  -- the first r counts fit, and they and the starts up to run r are found
  pub record Counted (counts starts : List ℕ) (at r : ℕ) : Type 0 where
    pub within : r ≤ get_or t 0 0
    pub fit : counts_fit t r ≡ true
    pub stands : at ≡ start_of t r
    pub bounded : at ≤ 130 + 102400 * r
    pub counts-are : (i : ℕ) → i < r → get_or counts i 0 ≡ count_of t i
    pub starts-are : (i : ℕ) → i < suc r → get_or starts i 0 ≡ start_of t i
    pub room : length starts ≡ 64
    pub room-counts : length counts ≡ 63

  pub read-counts-none : {counts : List ℕ} (starts : List ℕ) {at : ℕ} → get_or t 0 0 ≤ 63 → at ≡ 4 + 2 * get_or t 0 0 → length starts ≡ 64 → length counts ≡ 63
      → Counted counts (set starts 0 at) at 0
  unfolding counts_fit run_count
  read-counts-none {counts} starts {at} most h l k =
      let e : at ≡ start_of t 0 = h ∙ sym (start_of-zero t) in
      record {
        within = omega arith;
        fit = refl;
        stands = e;
        bounded = omega arith;
        counts-are = λ i n. absurd (omega arith);
        starts-are = upto (λ i n. absurd (omega arith)) (get_or-set_same starts 0 at 0 (omega arith) ∙ e);
        room = simp length-set l;
        room-counts = k;
      }

  pub read-counts-more : {counts starts : List ℕ} {at r n i m : ℕ} → Counted counts starts at r → r < get_or t 0 0 → get_or t 0 0 ≤ 63
      → n ≡ count_of t r → n ≤ 4096 → i ≡ r → m ≡ n → Counted (set counts i n) (set starts (i + 1) (at + 25 * m)) (at + 25 * m) (r + 1)
  unfolding counts_fit
  read-counts-more {counts} {starts} {at} {r} {n} {i} {m} c l most h fits e z =
      let at-is : at ≡ start_of t r = c.stands in
      let low : at ≤ 130 + 102400 * r = c.bounded in
      let long : length starts ≡ 64 = c.room in
      let long-counts : length counts ≡ 63 = c.room-counts in
      let count_fits : count_of t r ≤ 4096 = omega arith in
      let next : start_of t (suc r) ≡ start_of t r + 25 * count_of t r = start_of-next t r in
      let found : at + 25 * m ≡ start_of t (suc r) = omega arith in
      let here : suc r ≡ i + 1 = omega arith in
      let one : r ≡ i = sym e in
      subst (Counted (set counts i n) (set starts (i + 1) (at + 25 * m)) (at + 25 * m)) (sym (add-one r))
      (record {
        within = l;
        fit = and-true c.fit (le-leb _ _ count_fits);
        stands = found;
        bounded = omega arith;
        counts-are = upto (λ j k. get_or-set_other counts i j n 0 (λ q. omega arith) ∙ c.counts-are j k)
            (ap (λ (j : ℕ). get_or (set counts i n) j 0) one ∙ get_or-set_same counts i n 0 (omega arith) ∙ h);
        starts-are = upto (λ j k. get_or-set_other starts (i + 1) j (at + 25 * m) 0 (λ q. omega arith) ∙ c.starts-are j k)
            (ap (λ (j : ℕ). get_or (set starts (i + 1) (at + 25 * m)) j 0) here ∙ get_or-set_same starts (i + 1) (at + 25 * m) 0 (omega arith) ∙ found);
        room = simp length-set long;
        room-counts = simp length-set long-counts;
      })

  -- a count above 4,096 breaks the frame,
  pub over : {r n : ℕ} → r < get_or t 0 0 → n ≡ count_of t r → 4096 < n → framed t ≡ false
  unfolding framed run_count
  over {r} {n} l h big =
      let high : 4096 < count_of t r = omega arith in
      out (header_fits t) _ (counts_fit-not t (get_or t 0 0) r l high)
    where
      out : (a : Bool) {b : Bool} (c : Bool) → b ≡ false → (a && (b && c)) ≡ false
      out true c p = rw p
      out false c p = refl

  -- and so does a header that does not fit
  pub no-header : header_fits t ≡ false → framed t ≡ false
  unfolding framed
  no-header h = rw h

  -- all counts found: the length decides
  module _ {counts starts : List ℕ} {at r h : ℕ} (fits : header_fits t ≡ true) (c : Counted counts starts at r) (e : h ≡ get_or t 0 0) (l : h ≤ r) where
    within-all : r ≤ get_or t 0 0
    within-all = c.within

    all : r ≡ get_or t 0 0
    all = let w : r ≤ get_or t 0 0 = within-all in omega arith

    by-length : framed t ≡ eqb at (length t)
    unfolding framed run_count
    by-length =
        let ends : at ≡ start_of t (get_or t 0 0) = c.stands ∙ ap (start_of t) all in
        let fit : counts_fit t (get_or t 0 0) ≡ true = ap (counts_fit t) (sym all) ∙ c.fit in
        rw (fits, fit) (ap (eqb (length t)) (sym ends) ∙ eqb-turned (length t) at)

    pub not-long : (at ≡ length t → ⊥) → framed t ≡ false
    not-long n = by-length ∙ ne_eqb at (length t) n

    module _ (a : at ≡ length t) where
      pub as-long : framed t ≡ true
      as-long = by-length ∙ eq-eqb at (length t) a

      pub frame_of : FrameOf t h counts starts
      unfolding run_count
      frame_of =
          let frame = framed-fits t as-long in
          let most : run_count t ≤ 63 = frame.most-runs in
          record {
            runs = e;
            few = omega arith;
            room = c.room-counts;
            counts = λ i k. c.counts-are i (subst (λ (n : ℕ). i < n) (sym all) k);
            at = record { frame = frame; few = most; room = c.room; starts-are = λ i k. c.starts-are i (subst (λ (n : ℕ). i < suc n) (sym all) (suc-le-suc k)) };
          }

  -- run r as the code cuts it out of the tray
  pub record Cut (r a e : ℕ) : Type 0 where
    pub few : count_of t r ≤ 4096
    pub start : a ≤ e
    pub end : e ≤ length t
    pub whole : length (take (e - a) (drop a t)) ≡ 25 * count_of t r
    pub bytes : take (e - a) (drop a t) ≡ run_bytes t r

  pub cut : {starts : List ℕ} {r i : ℕ} → Starts t starts → r < run_count t → i ≡ r → Cut r (get_or starts i 0) (get_or starts (i + 1) 0)
  unfolding run_bytes
  cut {starts} {r} {i} o l e =
      let s : get_or starts i 0 ≡ start_of t r = ap (λ (k : ℕ). get_or starts k 0) e ∙ o.starts-are r (omega arith) in
      let next : i + 1 ≡ suc r = omega arith in
      let u : get_or starts (i + 1) 0 ≡ start_of t (suc r) = ap (λ (k : ℕ). get_or starts k 0) next ∙ o.starts-are (suc r) l in
      let up : start_of t r ≤ start_of t (suc r) = start_of-le t r (suc r) (omega arith) in
      let in-tray : start_of t (suc r) ≤ length t = start_of-within t o.frame (suc r) l in
      let bytes : take (get_or starts (i + 1) 0 - get_or starts i 0) (drop (get_or starts i 0) t) ≡ run_bytes t r =
      ap₂ (λ (x y : ℕ). take (y - x) (drop x t)) s u in
      record {
        few = o.frame.counts r l;
        start = omega arith;
        end = omega arith;
        whole = ap length bytes ∙ length_run t o.frame r l;
        bytes = bytes;
      }
