-- The run that comes next, in the tray's words.
--     next_key-has, next_key-low     the next key of a run with something left
--     first-of                     the first of the blocks is the first of the runs
--     comes-keyed, comes-left        the run that is chosen comes next
--     least-key                    the key that leads is the least one left
--     ended-all                    no run is left out
use Rattle.std.specs.Prelude.{◌≡◌, ℕ, ◌+◌, ◌*◌, ◌/◌, ◌≤◌, ◌<◌, false, List, ltb}
use Rattle.std.proofs.Math.Path.{sym}
use Rattle.std.proofs.Common.{◌∙◌, subst, arith}
use Rattle.std.proofs.Math.ListN.{get_or}
use borrow.Author.Tests.{lt-ltb, le-ltb, ltb-true, ltb-false}
use Rattle.theory.specs.Tests.{cases, order}
use Rattle.tray.specs.Frame.{run_count, count_of}
use Rattle.index.specs.Scan.{next_in}
use Rattle.merge_lead.specs.declared.Heads.{Heads}
use Rattle.tray.specs.declared.Tray.{Tray}
use Rattle.merge_lead.specs.Heads.{highest, key_or, next_key, Ended}
use Rattle.merge_lead.specs.Heads.Leads.{First, Topped, Leading, Ahead, one, all, Heading, LeftAt, NextRun, LeastKey}

pub next_key-has : (t places : List ℕ) (r : ℕ) → get_or places r 0 < count_of t r → next_key t places r ≡ (next_in t places r).key
unfolding next_key key_or next_in
next_key-has t places r l = rw (lt-ltb (get_or places r 0) (count_of t r) l)

-- a key below the highest number is a record's
pub next_key-low : (t places : List ℕ) (r : ℕ) → next_key t places r < highest → get_or places r 0 < count_of t r
unfolding next_key key_or
next_key-low t places r l = cases (ltb (get_or places r 0) (count_of t r)) (λ y. ltb-true _ _ y) (λ n. absurd (past n))
  where
    past : ltb (get_or places r 0) (count_of t r) ≡ false → ⊥
    past n = let u : next_key t places r ≡ highest = rw n in omega arith

-- the first of n blocks is the first of their runs
topped-first : {keys tops firsts : List ℕ} {n k r : ℕ} → Leading keys tops firsts 8 → n ≤ 8 → Topped tops firsts 0 n k r → First keys 0 (8 * n) k r
topped-first {keys} {tops} {firsts} {n} {k} {r} w few s =
    let b : ℕ = s.block in
    let inside : b < n = s.first.below in
    let here = w.are b (omega arith) in
    let own : First keys (8 * b) (8 * b + 8) k r = subst (First keys (8 * b) (8 * b + 8) k) s.run (subst (λ (x : ℕ). First keys (8 * b) (8 * b + 8) x (get_or firsts b 0)) s.first.here here) in
    record {
      from = omega arith;
      below = omega (arith, own.below);
      here = own.here;
      low = λ i p q. low i q;
      before = λ i p q. order (i / 8) b (λ l. before i q l) (λ e. own.before i (omega arith) q) (λ l. absurd (omega (arith, own.below)));
    }
  where
    low : (i : ℕ) → i < 8 * n → k ≤ get_or keys i 0
    low i q =
        let c : ℕ = i / 8 in
        let x = (w.are c (omega arith)).low i (omega arith) (omega arith) in
        omega (arith, s.first.low c (omega arith) (omega arith))

    before : (i : ℕ) → i < r → i / 8 < s.block → k < get_or keys i 0
    before i q l =
        let inside : s.block < n = s.first.below in
        let x = (w.are (i / 8) (omega arith)).low i (omega arith) (omega arith) in
        omega (arith, s.first.before (i / 8) (omega arith) l)

-- the first of enough runs
record Front (keys : List ℕ) (h k r : ℕ) : Type 0 where
  end : ℕ
  most : end ≤ 64
  enough : h ≤ end
  first : First keys 0 end k r

front : {keys tops firsts : List ℕ} {h k r : ℕ} → Leading keys tops firsts 8 → Ahead tops firsts h k r → Front keys h k r
front w (one l s) = record { end = 8; most = omega arith; enough = l; first = topped-first w (omega arith) s }
front w (all l s) = record { end = 64; most = omega arith; enough = omega arith; first = topped-first w (omega arith) s }

-- the key that is kept of a run at its end
end-key : (t places : List ℕ) (r : ℕ) → count_of t r ≤ get_or places r 0 → next_key t places r ≡ highest
unfolding next_key key_or
end-key t places r l = rw (le-ltb (get_or places r 0) (count_of t r) l)

-- the first h runs tell, since the others are at their ends
module _ {tray : Tray} {places : List ℕ} {heads : Heads} {h k run : ℕ} (g : Heading tray places heads) (e : Ended tray.bytes.now places h)
    (a : Ahead heads.tops heads.firsts h k run) where
  f : Front heads.keys h k run
  f = front g.leading a

  key-at : (i : ℕ) → i < run_count tray.bytes.now → get_or heads.keys i 0 ≡ next_key tray.bytes.now places i
  key-at i l = g.caching.keys-are i l

  -- from h on the highest number is kept,
  past-key : (i : ℕ) → h ≤ i → i < 64 → get_or heads.keys i 0 ≡ highest
  past-key i l m =
      cases (ltb i (run_count tray.bytes.now))
      (λ y. let u = ltb-true _ _ y in key-at i u ∙ end-key tray.bytes.now places i (e.ended i l u))
      (λ n. g.caching.padded.past i (ltb-false _ _ n) m)

  module _ (high : k ≤ highest) where
    -- so the first one is the least of all runs,
    low-at : (i : ℕ) → i < run_count tray.bytes.now → k ≤ next_key tray.bytes.now places i
    unfolding f
    low-at i l =
        cases (ltb i h)
        (λ y. omega (arith, key-at i l, f.first.low i (omega arith) (omega (arith, f.enough, ltb-true _ _ y))))
        (λ n. omega (arith, end-key tray.bytes.now places i (e.ended i (ltb-false _ _ n) l)))

    -- and below the highest number it is one of the first h
    run-low : k < highest → run < h
    unfolding f
    run-low l = cases (ltb run h) (λ y. ltb-true _ _ y) (λ n. absurd (past (ltb-false _ _ n)))
      where
        past : h ≤ run → ⊥
        past m = omega (arith, f.first.here, f.first.below, f.most, past-key run m (omega (arith, f.first.below, f.most)))

    pub comes-keyed : k < highest → NextRun tray.bytes.now tray.runs places run k
    unfolding f
    comes-keyed l =
        let in-range : run < run_count tray.bytes.now = omega (arith, run-low l, e.most) in
        let here : next_key tray.bytes.now places run ≡ k = sym (key-at run in-range) ∙ f.first.here in
        let has : get_or places run 0 < count_of tray.bytes.now run = next_key-low tray.bytes.now places run (omega arith) in
        record {
          run = omega (arith, tray.frame.runs);
          has = has;
          is = λ q. sym (next_key-has tray.bytes.now places run has) ∙ here;
          low = λ i p q. omega (arith, low-at i (omega (arith, tray.frame.runs)), next_key-has tray.bytes.now places i q);
          before = λ i p q. omega (arith, key-at i (omega arith), f.first.before i (omega arith) p, next_key-has tray.bytes.now places i q);
        }

    pub comes-left : {r : ℕ} → highest ≤ k → LeftAt tray.counts places h r → NextRun tray.bytes.now tray.runs places r k
    comes-left {r} m w =
        let in-range : r < run_count tray.bytes.now = omega (arith, w.run, e.most) in
        let count : get_or tray.counts r 0 ≡ count_of tray.bytes.now r = tray.frame.counts r in-range in
        record {
          run = omega (arith, tray.frame.runs);
          has = omega (arith, w.left);
          is = λ q. absurd (omega arith);
          low = λ i p q. omega (arith, low-at i (omega (arith, tray.frame.runs)), next_key-has tray.bytes.now places i q);
          before = λ i p q. absurd (omega (arith, w.before i p, tray.frame.counts i (omega arith)));
        }

    pub least-key : LeastKey tray.bytes.now tray.runs places k
    unfolding f
    least-key =
        record {
          low = λ i l. low-at i (omega (arith, tray.frame.runs));
          got = λ l. let m : run < run_count tray.bytes.now = omega (arith, run-low l, e.most) in (run, omega (arith, tray.frame.runs), sym (key-at run m) ∙ f.first.here);
        }

-- all runs are looked at
pub ended-all : (tray : Tray) (places : List ℕ) → Ended tray.bytes.now places tray.runs
ended-all tray places = record { most = omega (arith, tray.frame.runs); ended = λ r l m. absurd (omega (arith, tray.frame.runs)) }
