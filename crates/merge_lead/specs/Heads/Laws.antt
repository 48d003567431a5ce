-- What the code of the heads needs: each law is a way out of a function, or a turn of its loop.
--     key_has, key-past                           the key at a place
--     next-is                                     the next key of a run, from the run's own bytes
--     Found, found_none, found-more, found_all    the next keys, run by run
--     padded-none                                 before the first key
use Rattle.std.specs.Prelude.{◌≡◌, ℕ, ◌+◌, ◌≤◌, ◌<◌, List, length, get_or, set, replicate}
use Rattle.std.proofs.Common.{sym, ap, ◌∙◌, subst, add-one, arith, length-set, get_or-set_same, get_or-set_other, lt-ltb, le-ltb}
use Rattle.std.proofs.lemmas.List.{length-replicate, get_or-replicate}
use Rattle.tray.specs.Frame.{run_count, count_of, run_bytes}
use Rattle.tray.specs.Frame.Laws.{upto}
use Rattle.tray.specs.Run.{record_at}
use Rattle.index.specs.Scan.Code.{Reading}
use Rattle.merge_lead.specs.Heads.{highest, key_or, next_key, Padded, Caching}

pub key_has : (run : List ℕ) {n p k : ℕ} → p < n → k ≡ (record_at run p).key → k ≡ key_or run n p
unfolding key_or
key_has run {n} {p} l e = rw (lt-ltb p n l) e

pub key-past : (run : List ℕ) {n p : ℕ} → n ≤ p → highest ≡ key_or run n p
unfolding key_or
key-past run {n} {p} l = rw (le-ltb p n l)

-- the next key of a run, as it is read from the run's own bytes
pub next-is : {t counts starts places run : List ℕ} {r i n p : ℕ} → Reading t counts starts places → r < run_count t → i ≡ r
    → run ≡ run_bytes t r → n ≡ get_or counts i 0 → p ≡ get_or places r 0 → key_or run n p ≡ next_key t places r
unfolding next_key
next-is {t} {counts} {places = places} {run} {r} {i} {n} {p} g l e b m q =
    let c : get_or counts i 0 ≡ count_of t r = ap (λ (k : ℕ). get_or counts k 0) e ∙ g.counts-are r l in
    ap (λ (s : List ℕ). key_or s n p) b ∙ ap (λ (k : ℕ). key_or (run_bytes t r) k p) (m ∙ c) ∙ ap (key_or (run_bytes t r) (count_of t r)) q

-- the keys of the first r runs are found
pub record Found (t places keys : List ℕ) (r : ℕ) : Type 0 where
  pub within : r ≤ run_count t
  pub padded : Padded keys r
  pub keys-are : (i : ℕ) → i < r → get_or keys i 0 ≡ next_key t places i

pub found_none : {t places keys : List ℕ} → Padded keys 0 → Found t places keys 0
found_none p = record { within = omega arith; padded = p; keys-are = λ i l. absurd (omega arith) }

pub found-more : {t places keys : List ℕ} {r i k : ℕ} → run_count t ≤ 63 → Found t places keys r → r < run_count t → i ≡ r → k ≡ next_key t places r
    → Found t places (set keys i k) (r + 1)
found-more {t} {places} {keys} {r} {i} {k} most f l e is =
    let room : length keys ≡ 64 = f.padded.room in
    let here : get_or (set keys i k) r 0 ≡ next_key t places r = ap (λ (j : ℕ). get_or (set keys i k) j 0) (sym e) ∙ get_or-set_same keys i k 0 (omega arith) ∙ is in
    subst (Found t places (set keys i k)) (sym (add-one r))
    (record {
      within = l;
      padded = record {
        few = omega arith;
        room = simp length-set room;
        past = λ j m n. get_or-set_other keys i j k 0 (λ q. omega arith) ∙ f.padded.past j (omega arith) n;
      };
      keys-are = upto (λ j m. get_or-set_other keys i j k 0 (λ q. omega arith) ∙ f.keys-are j m) here;
    })

pub found_all : {t counts starts places keys : List ℕ} {r h : ℕ} → Reading t counts starts places → Found t places keys r → h ≡ run_count t → h ≤ r
    → Caching t counts starts places keys
found_all {t} {places = places} {keys} {r} {h} g f e l =
    let in-range : r ≤ run_count t = f.within in
    let all : r ≡ run_count t = omega arith in
    record { reading = g; padded = subst (Padded keys) all f.padded; keys-are = λ i m. f.keys-are i (omega arith) }

-- no key is kept yet
pub padded-none : Padded (replicate 64 highest) 0
padded-none = record { few = omega arith; room = length-replicate 64 highest; past = λ i l k. get_or-replicate 64 i highest 0 k }
