-- What the code of page needs of the definitions.
--     put-listed                               key and value written 8 bytes at a time
--     visit-write, visit-full, visit-marked    what page does at a selector
--     page-writes, page-skips                  and how it goes on
use Rattle.std.specs.Prelude.{◌≡◌, ℕ, ◌+◌, ◌*◌, ◌%◌, ◌^◌, ◌≤◌, ◌<◌, length, get_or}
use Rattle.std.proofs.Math.Path.{sym, ap₂}
use Rattle.std.proofs.Common.{ap, ◌∙◌, length-append}
use native.Mathlib.Omega.{arith}
use mathlib.Core.List.{List, ◌++◌, append_assoc}
use borrow.Author.Tests.{lt-ltb, le-ltb, le-leb, lt-leb}
use Rattle.number.specs.Big.{be, bytes_of, put}
use Rattle.number.proofs.Big.Laws.{be-add, bytes_of-add, length-bytes_of}
use Rattle.number.proofs.Big.Writes.{put-put}
use Rattle.tray.specs.declared.Place.{Place}
use Rattle.tray.specs.Frame.{run_count, run_bytes}
use Rattle.tray.specs.Run.{record_from, record_at}
use Rattle.walk.specs.Walk.{stay, go}
use Rattle.walk.specs.Reads.{listed_bytes, write, unmarked, record_by, page_visit}
use Rattle.walk.specs.Code.{placed, Walking}
use Rattle.walk.specs.Code.Turns.{place_is}
use Rattle.list.specs.Steps.{spot_at, here-go}
use Rattle.walk.specs.Walk.{Spot, Walked, selector_at}
use Rattle.walk.specs.Reads.{Written}
use Rattle.walk.specs.Code.Turns.{Here}
use Rattle.std.proofs.Common.{subst}
use Rattle.std.specs.Prelude.{set}
use Rattle.list.specs.Page.{so_far}

-- a value's bytes in two halves
value-halves : (s : List ℕ) (at : ℕ) → be 8 s (at + 8) < 256 ^ 8 → bytes_of 8 (be 8 s at) ++ bytes_of 8 (be 8 s (at + 8)) ≡ bytes_of 16 (be 16 s at)
value-halves s at l = sym (bytes_of-add 8 8 (be 8 s at) (be 8 s (at + 8)) l) ∙ ap (bytes_of 16) (sym (be-add 8 8 s at))

-- three writes, one right after another, of 8 bytes each
put_three : (s : List ℕ) (at a b d : ℕ) → at ≤ length s
    → put (put (put s at (bytes_of 8 a)) (at + 8) (bytes_of 8 b)) (at + 16) (bytes_of 8 d) ≡ put s at (bytes_of 8 a ++ (bytes_of 8 b ++ bytes_of 8 d))
put_three s at a b d l =
    let one : put (put s at (bytes_of 8 a)) (at + 8) (bytes_of 8 b) ≡ put s at (bytes_of 8 a ++ bytes_of 8 b) =
    ap (λ (k : ℕ). put (put s at (bytes_of 8 a)) (at + k) (bytes_of 8 b)) (sym (length-bytes_of 8 a)) ∙ put-put s at (bytes_of 8 a) (bytes_of 8 b) l in
    let long : length (bytes_of 8 a ++ bytes_of 8 b) ≡ 16 = length-append (bytes_of 8 a) (bytes_of 8 b) ∙ ap₂ (λ (j k : ℕ). j + k) (length-bytes_of 8 a) (length-bytes_of 8 b) in
    ap (λ (o : List ℕ). put o (at + 16) (bytes_of 8 d)) one
    ∙ ap (λ (k : ℕ). put (put s at (bytes_of 8 a ++ bytes_of 8 b)) (at + k) (bytes_of 8 d)) (sym long)
    ∙ put-put s at (bytes_of 8 a ++ bytes_of 8 b) (bytes_of 8 d) l
    ∙ ap (put s at) (append_assoc (bytes_of 8 a) (bytes_of 8 b) (bytes_of 8 d))

-- key and value written 8 bytes at a time
pub put-listed : (run s : List ℕ) (p at : ℕ) {from key high low : ℕ} {s₁ s₂ s₃ : List ℕ} → at ≤ length s → low < 18446744073709551616
    → from ≡ 25 * p → key ≡ be 8 run from → high ≡ be 8 run (from + 9) → low ≡ be 8 run (from + 17)
    → s₁ ≡ put s at (bytes_of 8 key) → s₂ ≡ put s₁ (at + 8) (bytes_of 8 high) → s₃ ≡ put s₂ (at + 16) (bytes_of 8 low)
    → s₃ ≡ put s at (listed_bytes (record_at run p))
unfolding listed_bytes record_from
put-listed run s p at {from} {key} {high} {low} {s₁} {s₂} l fits f k h v one two three =
    three
    ∙ ap (λ (o : List ℕ). put o (at + 16) (bytes_of 8 low)) (two ∙ ap (λ (o : List ℕ). put o (at + 8) (bytes_of 8 high)) one)
    ∙ put_three s at key high low l
    ∙ ap₂ (λ (a b : List ℕ). put s at (a ++ b)) (ap (bytes_of 8) (k ∙ ap (be 8 run) f)) value
  where
    value : bytes_of 8 high ++ bytes_of 8 low ≡ bytes_of 16 (be 16 run (25 * p + 9))
    value =
        let there : from + 9 ≡ 25 * p + 9 = omega arith in
        let behind : from + 17 ≡ 25 * p + 9 + 8 = omega arith in
        let l₂ : be 8 run (25 * p + 9 + 8) ≡ low = sym (v ∙ ap (be 8 run) behind) in
        let small : be 8 run (25 * p + 9 + 8) < 256 ^ 8 = omega arith in
        ap₂ (λ (a b : ℕ). bytes_of 8 a ++ bytes_of 8 b) (h ∙ ap (be 8 run) there) (sym l₂) ∙ value-halves run (25 * p + 9) small

module _ {t x : List ℕ} {h d n : ℕ} {counts : List ℕ} (w : Walking t x h d n counts) (v : ℕ) {i : ℕ} (places : List Place) (below : v % 64 < h) (e : i ≡ v % 64) (g s count : ℕ) (out : List ℕ) where
  -- an unmarked selector is its run
  record_is : v < 64 → record_by t v (spot_at g s places) ≡ record_at (run_bytes t v) (get_or places i (placed 0)).0
  unfolding record_by
  record_is l =
      let z : v % 64 ≡ v = omega arith in
      ap₂ (λ (r p : ℕ). record_at (run_bytes t r) p) z (sym (place_is w v places below e))

  -- an unmarked record is written where there is room,
  pub visit-write : {after : List ℕ} → v < 64 → 24 * count + 24 ≤ length out
      → after ≡ put out (24 * count) (listed_bytes (record_at (run_bytes t v) (get_or places i (placed 0)).0))
      → page_visit t v (spot_at g s places) (so_far count out) ≡ go (so_far (count + 1) after)
  unfolding page_visit unmarked write
  visit-write {after} l room a =
      rw (lt-ltb v 64 l, le-leb (24 * count + 24) (length out) room)
      (ap (λ (o : List ℕ). go (so_far (count + 1) o)) (ap (λ r. put out (24 * count) (listed_bytes r)) (record_is l) ∙ sym a))

  -- and stays where there is none;
  pub visit-full : v < 64 → length out < 24 * count + 24
      → page_visit t v (spot_at g s places) (so_far count out) ≡ stay (so_far count out, spot_at g s places)
  unfolding page_visit unmarked
  visit-full l full = rw (lt-ltb v 64 l, lt-leb (24 * count + 24) (length out) full)

  -- a marked one is passed
  pub visit-marked : 64 ≤ v → page_visit t v (spot_at g s places) (so_far count out) ≡ go (so_far count out)
  unfolding page_visit unmarked
  visit-marked l = rw (le-ltb v 64 l)

-- so the page goes on past the record at selector s
module _ {t x : List ℕ} {h d n : ℕ} {counts : List ℕ} (w : Walking t x h d n counts) {whole : Walked Written (Written × Spot)} {g s : ℕ} {places : List Place} {count : ℕ} {out : List ℕ}
    (i : Here t x (page_visit t) d n whole g s places (so_far count out)) {v : ℕ} (l : s < d) (read : v ≡ selector_at (run_count t) x g s) (real : v ≡ 63 → ⊥) {k : ℕ} (below : v % 64 < h)
    (e : k ≡ v % 64) (there : (get_or places k (placed 0)).0 < get_or counts k 0) where
  abbrev behind : List Place
  behind = set places k (placed ((get_or places k (placed 0)).0 + 1))

  -- written,
  pub page-writes : v < 64 → 24 * count + 24 ≤ length out → {count' : ℕ} {after : List ℕ} → count' ≡ count + 1
      → after ≡ put out (24 * count) (listed_bytes (record_at (run_bytes t v) (get_or places k (placed 0)).0)) → Here t x (page_visit t) d n whole g (s + 1) behind (so_far count' after)
  page-writes a room {after = after} c f =
      subst (λ (m : ℕ). Here t x (page_visit t) d n whole g (s + 1) behind (so_far m after)) (sym c)
      (here-go w i l read real below e there (visit-write w v places below e g s count out a room f))

  -- or marked
  pub page-skips : 64 ≤ v → {count' : ℕ} {after : List ℕ} → count' ≡ count → after ≡ out → Here t x (page_visit t) d n whole g (s + 1) behind (so_far count' after)
  page-skips a c f =
      subst (Here t x (page_visit t) d n whole g (s + 1) behind) (sym (ap₂ so_far c f))
      (here-go w i l read real below e there (visit-marked w v places below e g s count out a))
