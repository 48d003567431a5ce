-- What the code of the leads needs: each law is a way out of a function, or a turn of its loop.
--     leading-none, leading-set                      the blocks, one by one
--     nexts-none, -more, -all, after_is, -past       the keys after the next ones, run by run
--     place-low, raised, tray-reading, moved         one record taken
use Rattle.std.specs.Prelude.{◌≡◌, ℕ, ◌+◌, ◌*◌, ◌/◌, ◌≤◌, ◌<◌, List, length, get_or, set, eqb}
use Rattle.std.proofs.Common.{sym, ap, ◌∙◌, subst, add-one, arith, length-set, get_or-set_same, get_or-set_other, le-ltb, eqb-true}
use Rattle.std.proofs.lemmas.Bool.{eqb-false}
use Rattle.theory.specs.Tests.{cases, order}
use Rattle.tray.specs.Frame.{run_count, count_of, run_bytes}
use Rattle.tray.specs.Frame.Laws.{upto}
use Rattle.index.specs.Scan.{raise}
use Rattle.index.specs.Scan.Code.{Reading}
use Rattle.merge_lead.specs.declared.Heads.{Heads}
use Rattle.tray.specs.declared.Tray.{Tray}
use Rattle.merge_lead.specs.Heads.{highest, key_or, next_key, Caching}
use Rattle.merge_lead.specs.Heads.Leads.{First, Kept, Leading, Nexts, Heading}

-- a block kept
module _ {keys tops firsts tops' firsts' : List ℕ} {b : ℕ} (k : Kept keys b tops firsts tops' firsts') (room-tops : length tops ≡ 8) (room-firsts : length firsts ≡ 8) where
  long-tops : length tops' ≡ 8
  long-tops = ap length k.tops_are ∙ simp length-set room-tops

  long-firsts : length firsts' ≡ 8
  long-firsts = ap length k.firsts-are ∙ simp length-set room-firsts

  -- the block itself, and any other
  kept_same : b < 8 → First keys (8 * b) (8 * b + 8) (get_or tops' b 0) (get_or firsts' b 0)
  kept_same l =
      let p : get_or tops' b 0 ≡ k.key = ap (λ (s : List ℕ). get_or s b 0) k.tops_are ∙ get_or-set_same tops b k.key 0 (omega arith) in
      let q : get_or firsts' b 0 ≡ k.run = ap (λ (s : List ℕ). get_or s b 0) k.firsts-are ∙ get_or-set_same firsts b k.run 0 (omega arith) in
      subst (λ (x : ℕ). First keys (8 * b) (8 * b + 8) x (get_or firsts' b 0)) (sym p) (subst (First keys (8 * b) (8 * b + 8) k.key) (sym q) k.first)

  kept-other : (c : ℕ) → (c ≡ b → ⊥) → First keys (8 * c) (8 * c + 8) (get_or tops c 0) (get_or firsts c 0)
      → First keys (8 * c) (8 * c + 8) (get_or tops' c 0) (get_or firsts' c 0)
  kept-other c n f =
      let p : get_or tops' c 0 ≡ get_or tops c 0 = ap (λ (s : List ℕ). get_or s c 0) k.tops_are ∙ get_or-set_other tops b c k.key 0 n in
      let q : get_or firsts' c 0 ≡ get_or firsts c 0 = ap (λ (s : List ℕ). get_or s c 0) k.firsts-are ∙ get_or-set_other firsts b c k.run 0 n in
      subst (λ (x : ℕ). First keys (8 * c) (8 * c + 8) x (get_or firsts' c 0)) (sym p) (subst (First keys (8 * c) (8 * c + 8) (get_or tops c 0)) (sym q) f)

pub leading-none : {keys tops firsts : List ℕ} → length keys ≡ 64 → length tops ≡ 8 → length firsts ≡ 8 → Leading keys tops firsts 0
leading-none a b c = record { room = a; room-tops = b; room-firsts = c; are = λ i l. absurd (omega arith) }

-- a number outside a stretch doesn't matter to it
first-set : {keys : List ℕ} {a e k r i : ℕ} (x : ℕ) → First keys a e k r → ((j : ℕ) → a ≤ j → j < e → j ≡ i → ⊥) → First (set keys i x) a e k r
first-set {keys} {a} {e} {k} {r} {i} x f n =
    record {
      from = f.from;
      below = f.below;
      here = get_or-set_other keys i r x 0 (n r f.from f.below) ∙ f.here;
      low = λ j p q. rw (get_or-set_other keys i j x 0 (n j p q)) (f.low j p q);
      before = λ j p q. rw (get_or-set_other keys i j x 0 (n j p (omega (arith, f.below)))) (f.before j p q);
    }

-- a key changed, and its block kept anew
pub leading-set : {keys tops firsts tops' firsts' : List ℕ} {r i b : ℕ} (x : ℕ) → Leading keys tops firsts 8 → i ≡ r → r < 64 → b ≡ r / 8
    → Kept (set keys i x) b tops firsts tops' firsts' → Leading (set keys i x) tops' firsts' 8
leading-set {keys} {tops} {firsts} {tops'} {firsts'} {r} {i} {b} x w e l d k =
    record {
      room = simp length-set w.room;
      room-tops = long-tops k w.room-tops w.room-firsts;
      room-firsts = long-firsts k w.room-tops w.room-firsts;
      are = λ c m. order c b (λ h. other c m (λ q. omega arith)) (λ q. same c (sym q)) (λ h. other c m (λ q. omega arith));
    }
  where
    same : (c : ℕ) → b ≡ c → First (set keys i x) (8 * c) (8 * c + 8) (get_or tops' c 0) (get_or firsts' c 0)
    same c q = subst (λ (c : ℕ). First (set keys i x) (8 * c) (8 * c + 8) (get_or tops' c 0) (get_or firsts' c 0)) q (kept_same k w.room-tops w.room-firsts (omega arith))

    other : (c : ℕ) → c < 8 → (c ≡ b → ⊥) → First (set keys i x) (8 * c) (8 * c + 8) (get_or tops' c 0) (get_or firsts' c 0)
    other c m n = kept-other k w.room-tops w.room-firsts c n (first-set x (w.are c m) (λ j p q s. n (omega arith)))

-- the keys after the next ones
pub nexts-none : (t places : List ℕ) {nexts : List ℕ} → length nexts ≡ 64 → Nexts t places nexts 0
nexts-none t places e = record { room = e; are = λ r l. absurd (omega arith) }

pub nexts-more : {t places nexts : List ℕ} {r i k : ℕ} → Nexts t places nexts r → r < 64 → i ≡ r
    → k ≡ key_or (run_bytes t r) (count_of t r) (get_or places r 0 + 1) → Nexts t places (set nexts i k) (r + 1)
nexts-more {t} {places} {nexts} {r} {i} {k} w l e is =
    let room : length nexts ≡ 64 = w.room in
    let here : get_or (set nexts i k) r 0 ≡ key_or (run_bytes t r) (count_of t r) (get_or places r 0 + 1) =
    ap (λ (j : ℕ). get_or (set nexts i k) j 0) (sym e) ∙ get_or-set_same nexts i k 0 (omega arith) ∙ is in
    subst (Nexts t places (set nexts i k)) (sym (add-one r))
    (record {
      room = simp length-set room;
      are = upto (λ j m. get_or-set_other nexts i j k 0 (λ q. omega arith) ∙ w.are j m) here;
    })

pub nexts-all : {t places nexts : List ℕ} {r h : ℕ} → Nexts t places nexts r → h ≡ run_count t → h ≤ r → Nexts t places nexts (run_count t)
nexts-all w e l = record { room = w.room; are = λ i m. w.are i (omega arith) }

-- a key after a place, as it is read from the run's own bytes
pub after_is : {t counts starts places run : List ℕ} {r i n p q : ℕ} → Reading t counts starts places → r < run_count t → i ≡ r
    → run ≡ run_bytes t r → n ≡ get_or counts i 0 → p ≡ q → key_or run n p ≡ key_or (run_bytes t r) (count_of t r) q
after_is {t} {counts} {r = r} {i} {n} {p} g l e b m q =
    let c : get_or counts i 0 ≡ count_of t r = ap (λ (k : ℕ). get_or counts k 0) e ∙ g.counts-are r l in
    ap (λ (s : List ℕ). key_or s n p) b ∙ ap (λ (k : ℕ). key_or (run_bytes t r) k p) (m ∙ c) ∙ ap (key_or (run_bytes t r) (count_of t r)) q

pub after-past : (run : List ℕ) {n p : ℕ} → n ≤ p → highest ≡ key_or run n (p + 1)
unfolding key_or
after-past run {n} {p} l = rw (le-ltb (p + 1) n (omega arith))

-- a run that has a next record
pub place-low : {t counts starts places : List ℕ} {r i : ℕ} → Reading t counts starts places → r < run_count t → i ≡ r
    → get_or places r 0 < count_of t r → get_or places i 0 < get_or counts i 0
place-low {counts = counts} {places = places} {r} {i} g l e h =
    let p : get_or places i 0 ≡ get_or places r 0 = ap (λ (j : ℕ). get_or places j 0) e in
    let n : get_or counts i 0 ≡ get_or counts r 0 = ap (λ (j : ℕ). get_or counts j 0) e in
    let z = g.counts-are r l in
    omega arith

pub raised : (places : List ℕ) {i r : ℕ} → i ≡ r → set places i (get_or places i 0 + 1) ≡ raise places r
unfolding raise
raised places e = ap (λ (j : ℕ). set places j (get_or places j 0 + 1)) e

-- what the frame says of the runs
pub tray-reading : (tray : Tray) {places : List ℕ} → length places ≡ 63 → Reading tray.bytes.now tray.counts tray.starts places
tray-reading tray e =
    let f = tray.frame in
    record { at = f.at; few = f.at.few; room-counts = f.room; room-places = e; counts-are = f.counts }

-- one record of run r taken: what is kept of the runs moves along
pub moved : {tray : Tray} {places : List ℕ} {heads heads' : Heads} {r i b p k : ℕ} → Heading tray places heads
    → r < run_count tray.bytes.now → i ≡ r → b ≡ r / 8 → p ≡ get_or places i 0 + 1
    → k ≡ key_or (run_bytes tray.bytes.now r) (count_of tray.bytes.now r) (p + 1)
    → heads'.keys ≡ set heads.keys i (get_or heads.nexts i 0) → heads'.nexts ≡ set heads.nexts i k
    → Kept (set heads.keys i (get_or heads.nexts i 0)) b heads.tops heads.firsts heads'.tops heads'.firsts
    → Heading tray (set places i p) heads'
unfolding next_key
moved {tray} {places} {heads} {heads'} {r = r} {i} {b} {p} {k} w l e d pe ke same-keys same-nexts kept =
    let t = tray.bytes.now in
    let keys = heads.keys in
    let nexts = heads.nexts in
    let few : run_count t ≤ 63 = w.caching.reading.few in
    let places-long : length places ≡ 63 = w.caching.reading.room-places in
    let keys-long : length keys ≡ 64 = w.caching.padded.room in
    let nexts-long : length nexts ≡ 64 = w.nexts-are.room in
    let place-r : get_or (set places i p) r 0 ≡ p = ap (λ (j : ℕ). get_or (set places i p) j 0) (sym e) ∙ get_or-set_same places i p 0 (omega arith) in
    let place_is : get_or places i 0 ≡ get_or places r 0 = ap (λ (j : ℕ). get_or places j 0) e in
    let key-r : get_or (set keys i (get_or nexts i 0)) r 0 ≡ get_or nexts r 0 =
    ap (λ (j : ℕ). get_or (set keys i (get_or nexts i 0)) j 0) (sym e) ∙ get_or-set_same keys i (get_or nexts i 0) 0 (omega arith) ∙ ap (λ (j : ℕ). get_or nexts j 0) e in
    let next-r : get_or (set nexts i k) r 0 ≡ k = ap (λ (j : ℕ). get_or (set nexts i k) j 0) (sym e) ∙ get_or-set_same nexts i k 0 (omega arith) in
    let place_other : (j : ℕ) → (j ≡ r → ⊥) → get_or (set places i p) j 0 ≡ get_or places j 0 = λ j n. get_or-set_other places i j p 0 (λ q. n (q ∙ e)) in
    record {
      caching = subst (λ (s : List ℕ). Caching t tray.counts tray.starts (set places i p) s) (sym same-keys) (record {
        reading = record {
          at = w.caching.reading.at;
          few = few;
          room-counts = w.caching.reading.room-counts;
          room-places = simp length-set places-long;
          counts-are = w.caching.reading.counts-are;
        };
        padded = record {
          few = few;
          room = simp length-set keys-long;
          past = λ j m n. get_or-set_other keys i j (get_or nexts i 0) 0 (λ q. omega arith) ∙ w.caching.padded.past j m n;
        };
        keys-are = λ j m. cases (eqb j r)
            (λ y. let q : j ≡ r = eqb-true _ _ y in
            subst (λ (j : ℕ). get_or (set keys i (get_or nexts i 0)) j 0 ≡ key_or (run_bytes t j) (count_of t j) (get_or (set places i p) j 0)) (sym q)
            (key-r ∙ w.nexts-are.are r l ∙ ap (key_or (run_bytes t r) (count_of t r)) (omega arith)))
            (λ f. let n : j ≡ r → ⊥ = eqb-false _ _ f in
            get_or-set_other keys i j (get_or nexts i 0) 0 (λ q. n (q ∙ e)) ∙ w.caching.keys-are j m ∙ ap (key_or (run_bytes t j) (count_of t j)) (sym (place_other j n)));
      });
      nexts-are = subst (λ (s : List ℕ). Nexts t (set places i p) s (run_count t)) (sym same-nexts) (record {
        room = simp length-set nexts-long;
        are = λ j m. cases (eqb j r)
            (λ y. let q : j ≡ r = eqb-true _ _ y in
            subst (λ (j : ℕ). get_or (set nexts i k) j 0 ≡ key_or (run_bytes t j) (count_of t j) (get_or (set places i p) j 0 + 1)) (sym q)
            (next-r ∙ ke ∙ ap (key_or (run_bytes t r) (count_of t r)) (omega arith)))
            (λ f. let n : j ≡ r → ⊥ = eqb-false _ _ f in
            get_or-set_other nexts i j k 0 (λ q. n (q ∙ e)) ∙ w.nexts-are.are j m ∙ ap (λ (x : ℕ). key_or (run_bytes t j) (count_of t j) (x + 1)) (sym (place_other j n)));
      });
      leading = subst (λ (s : List ℕ). Leading s heads'.tops heads'.firsts 8) (sym same-keys) (leading-set (get_or nexts i 0) w.leading e (omega arith) d kept);
    }
