-- What the code of a run's check needs of the definitions: each law is a way out of a function, or a turn of its loop.
--     zero-value-high, zero-value-low        sixteen zero bytes, told by their halves
--     kind-live, kind-gone, kind-other   a record's kind, told by its byte
--     Last, last_none, last_more         the key before a place
--     key-fine, key-bad                  a key, told by the last one
--     key-is, last-next, run-kind, -key, -next, -live    a turn of the loop over a run
--     value-is                           a value, written by its halves
use Rattle.std.specs.Prelude.{◌≡◌, Bool, ◌||◌, List, ◌++◌, length, ltb, Err}
use Rattle.std.proofs.Math.Path.{refl, ap}
use Rattle.std.proofs.Common.{sym, ap₂, ◌∙◌, append-nil, drop_of_length-le, length-append}
use Prim.Native.Nat.{ℕ, zero, suc, ◌+◌, ◌-◌, ◌*◌, ◌≤◌, ◌<◌}
use native.Mathlib.Omega.{arith}
use Rattle.std.proofs.Math.Bool.{true, false, not}
use Rattle.std.proofs.Math.ListN.{get_or}
use Rattle.std.proofs.Math.Dec.{eqb}
use borrow.Author.Tests.{le-leb, lt-leb, ltb-true, ltb-false, le-ltb, lt-ltb, eqb-true, eqb-false, eq-eqb, ne_eqb, not-true, not-false}
use Rattle.number.specs.Big.{be, bytes_of, put}
use Rattle.number.proofs.Big.Laws.{be-add, bytes_of-add, length-bytes_of}
use Rattle.number.proofs.Big.Writes.{put-put}
use Rattle.theory.specs.Tests.{cases, clash, or_left, or_right}
use Rattle.tray.specs.declared.Fault.TheVariants.{WrongKind, WrongKey}
use Rattle.tray.specs.Run.{record_from, record_at, kind_wrong, key_wrong, place, judge_from}
use Rattle.tray.specs.Run.Laws.{judge-kind, judge-key, judge-next}

-- sixteen bytes as two numbers of eight
halves : (s : List ℕ) (p : ℕ) → be 16 s p ≡ be 8 s p * 18446744073709551616 + be 8 s (p + 8)
halves s p = be-add 8 8 s p

-- all of some bytes written over
put_all : (out ys : List ℕ) → length out ≤ length ys → put out 0 ys ≡ ys
unfolding put
put_all out ys l = ap (λ (zs : List ℕ). ys ++ zs) (drop_of_length-le out {i = 0 + length ys} (omega (arith, l))) ∙ append-nil ys

-- a value is written by its halves
pub value-is : (s : List ℕ) (p : ℕ) (out : List ℕ) {at high low : ℕ} {first second : List ℕ} → length out ≡ 16 → at ≡ 25 * p + 9 → high ≡ be 8 s at → low ≡ be 8 s (at + 8)
    → low < 18446744073709551616 → first ≡ put out 0 (bytes_of 8 high) → second ≡ put first 8 (bytes_of 8 low) → second ≡ bytes_of 16 (record_at s p).value
unfolding record_from
value-is s p out {at} {high} {low} {first} {second} l e h k fits f g =
    let both : bytes_of 16 (high * 18446744073709551616 + low) ≡ bytes_of 8 high ++ bytes_of 8 low = bytes_of-add 8 8 high low fits in
    let whole : high * 18446744073709551616 + low ≡ be 16 s at = ap₂ (λ (a b : ℕ). a * 18446744073709551616 + b) h k ∙ sym (halves s at) in
    let a = length-bytes_of 8 high in
    let b = length-bytes_of 8 low in
    let long : length (bytes_of 8 high ++ bytes_of 8 low) ≡ length (bytes_of 8 high) + length (bytes_of 8 low) = length-append (bytes_of 8 high) (bytes_of 8 low) in
    let eight : 8 ≡ 0 + length (bytes_of 8 high) = omega arith in
    g
    ∙ ap₂ (λ (zs : List ℕ) (n : ℕ). put zs n (bytes_of 8 low)) f eight
    ∙ put-put out 0 (bytes_of 8 high) (bytes_of 8 low) (omega arith)
    ∙ put_all out (bytes_of 8 high ++ bytes_of 8 low) (omega arith)
    ∙ sym both
    ∙ ap (bytes_of 16) (whole ∙ ap (be 16 s) e)

module _ (s : List ℕ) (p : ℕ) where
  pub zero-value-high : (be 8 s p ≡ 0 → ⊥) → false ≡ eqb (be 16 s p) 0
  zero-value-high h = let e = halves s p in sym (ne_eqb (be 16 s p) 0 (λ z. h (omega arith)))

  pub zero-value-low : be 8 s p ≡ 0 → eqb (be 8 s (p + 8)) 0 ≡ eqb (be 16 s p) 0
  zero-value-low h = let e = halves s p in let z : be 8 s (p + 8) ≡ be 16 s p = omega arith in ap (λ n. eqb n 0) z

  pub kind-live : get_or s (p + 8) 0 ≡ 0 → true ≡ not (kind_wrong (record_from s p))
  unfolding kind_wrong record_from
  kind-live h = rw h

  pub kind-gone : {b : Bool} → get_or s (p + 8) 0 ≡ 1 → b ≡ eqb (be 16 s (p + 9)) 0 → b ≡ not (kind_wrong (record_from s p))
  unfolding kind_wrong record_from
  kind-gone h e = rw h (e ∙ zero_or (be 16 s (p + 9)))
    where
      zero_or : (v : ℕ) → eqb v 0 ≡ not (ltb 0 v)
      zero_or v = cases (eqb v 0) (λ t. let z : v ≡ 0 = eqb-true v 0 t in t ∙ ap not (sym (le-ltb 0 v (omega arith)))) (λ f. f ∙ ap not (sym (lt-ltb 0 v (above (eqb-false v 0 f)))))
        where
          above : (v ≡ 0 → ⊥) → 0 < v
          above n = omega arith

  pub kind-other : (get_or s (p + 8) 0 ≡ 0 → ⊥) → (get_or s (p + 8) 0 ≡ 1 → ⊥) → false ≡ not (kind_wrong (record_from s p))
  unfolding kind_wrong record_from
  kind-other h k = let l : 1 < get_or s (p + 8) 0 = omega arith in rw (lt-ltb 1 (get_or s (p + 8) 0) l)

module _ (run : List ℕ) where
  -- the key before place p, if p is not the first
  abbrev pub Last : ℕ → ℕ → Type 0
  Last p last = (q : ℕ) → p ≡ suc q → last ≡ (record_at run q).key

  pub last_none : (last : ℕ) → Last 0 last
  last_none last q e = absurd (omega arith)

  pub last_more : (p : ℕ) {key : ℕ} → key ≡ (record_at run p).key → Last (p + 1) key
  last_more p {key} h q e = let z : p ≡ q = omega arith in h ∙ ap (λ i. (record_at run i).key) z

  pub key-fine : (p : ℕ) {last key : ℕ} → key ≡ (record_at run p).key → Last p last → (ltb last key || eqb p 0) ≡ true → key_wrong run p ≡ false
  unfolding key_wrong
  key-fine zero h l t = refl
  key-fine (suc q) {last} {key} h l t =
      let e : last ≡ (record_at run q).key = l q refl in
      let k : last < key = ltb-true last key (plain (ltb last key) t) in
      lt-leb (record_at run (suc q)).key (record_at run q).key (omega arith)
    where
      plain : (b : Bool) → (b || eqb (suc q) 0) ≡ true → b ≡ true
      plain true e = refl
      plain false e = clash e (ne_eqb (suc q) 0 (λ z. omega arith))

  pub key-bad : (p : ℕ) {last key : ℕ} → key ≡ (record_at run p).key → Last p last → (ltb last key || eqb p 0) ≡ false → key_wrong run p ≡ true
  unfolding key_wrong
  key-bad zero {last} {key} h l t = clash (eq-eqb 0 0 refl) (or_right (ltb last key) _ t)
  key-bad (suc q) {last} {key} h l t =
      let e : last ≡ (record_at run q).key = l q refl in
      let k : key ≤ last = ltb-false last key (or_left _ _ t) in
      le-leb (record_at run (suc q)).key (record_at run q).key (omega arith)

  -- the loop stands at place p, which starts at byte `at`
  module _ (p : ℕ) {at : ℕ} (stands : at ≡ 25 * p) where
    -- the key that was read is the place's
    pub key-is : {key : ℕ} → key ≡ be 8 run at → key ≡ (record_at run p).key
    unfolding record_from
    key-is read = read ∙ ap (be 8 run) stands

    pub last-next : {key : ℕ} → key ≡ be 8 run at → Last (p + 1) key
    last-next read = last_more p (key-is read)

    -- kr and yr are what the two tests answered
    module _ {n : ℕ} {kr : Bool} (l : p < n) (told : kr ≡ not (kind_wrong (record_from run at))) where
      kind-is : kr ≡ not (kind_wrong (record_at run p))
      kind-is = told ∙ ap (λ (a : ℕ). not (kind_wrong (record_from run a))) stands

      pub run-kind : kr ≡ false → judge_from (n - p) run p ≡ Err (WrongKind (place p))
      run-kind e = judge-kind run n p l (not-false _ (sym kind-is ∙ e))

      module _ {last key : ℕ} {yr : Bool} (right : kr ≡ true) (read : key ≡ be 8 run at) (before : Last p last) (told-key : yr ≡ (ltb last key || eqb p 0)) where
        pub run-key : yr ≡ false → judge_from (n - p) run p ≡ Err (WrongKey (place p))
        run-key e = judge-key run n p l (not-true _ (sym kind-is ∙ right)) (key-bad p (key-is read) before (sym told-key ∙ e))

        pub run-next : yr ≡ true → judge_from (n - p) run p ≡ judge_from (n - (p + 1)) run (p + 1)
        run-next e = judge-next run n p l (not-true _ (sym kind-is ∙ right)) (key-fine p (key-is read) before (sym told-key ∙ e))

    -- a live record above the last one
    pub run-live : {n last key : ℕ} → p < n → get_or run (at + 8) 0 ≡ 0 → key ≡ be 8 run at → Last p last → last < key
        → judge_from (n - p) run p ≡ judge_from (n - (p + 1)) run (p + 1)
    run-live {last = last} {key} l live read before above = run-next l (kind-live run at live) refl read before refl (rw (lt-ltb last key above) refl)
