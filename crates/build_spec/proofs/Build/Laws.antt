-- Laws of `cuts`: what the segments of a tray are, before any byte of them is written.
--     Ready                        a tray that an index with segments of d can be built for
--     below_64                     few enough runs for one number to order the view by
--     group-length                 a key has at most one version in each run
--     cuts-joined                  the segments put together are the view
--     cuts-full, cuts_fit          no segment is empty, and none has more than d records
--     cuts-apart                   no key goes on from a segment to the next
--     cuts-stand                   a record of a segment stands in the tray
--     count-before                 in a front of the view stand at most all records of a run
--     length-view                  the view has all records
--     cuts-bound, cuts-most        how many segments there are
use Rattle.std.specs.Prelude.{◌≡◌, refl, ℕ, suc, ◌+◌, ◌*◌, ◌/◌, ◌≤◌, ◌<◌, List, [], ◌∷◌, ◌++◌, length, eqb}
use Rattle.std.proofs.Common.{sym, ap, ◌∙◌, zero-le, zero-add, arith, length-append, eqb-true}
use mathlib.Core.List.Memᴰ
use Rattle.std.proofs.lemmas.Bool.{eqb-false}
use Rattle.theory.specs.Records.{Record}
use Rattle.theory.specs.Rising.{Mem, All, Rises, none, more, Permuted, same, under, exchange, then}
use Rattle.theory.proofs.Rising.Laws.{rises-left, rises-right}
use Rattle.theory.specs.Tests.{cases}
use Rattle.theory.specs.View.{spread, entries_from, run_at, At, rank, view}
use Rattle.theory.proofs.View.Entries.{at-run}
use Rattle.theory.proofs.View.Laws.{view-at, view-rises, view-is}
use Rattle.theory.specs.Places.{passed, count, Takes, take_none, take_more}
use Rattle.theory.proofs.Places.Passed.{bump-same, bump-other, passed-count}
use Rattle.theory.proofs.Places.Rest.{rest-zero, head-lt}
use Rattle.theory.proofs.Places.Laws.{stretch-back}
use Rattle.theory.specs.Pack.{joined, groups}
use Rattle.theory.proofs.Pack.Groups.{joined-mem, groups-joined, groups-full, groups-one}
use Rattle.theory.proofs.Pack.Laws.{Cut, pack-joined, pack-fits, pack-full, pack-cut, pack-bound, pack-most}
use Rattle.tray.specs.Meaning.{total}
use Rattle.index.specs.Rules.{Item, key_of}
use Rattle.build_spec.specs.Build.{item_key, cuts}
use Rattle.build_spec.specs.Build.Laws.{Ready}

module _ {A : Type 0} (f : A → ℕ) where
  -- numbers from low on and below high are at most as many as there are between the two
  pub rises-room : {xs : List A} (low high : ℕ) → Rises f xs → All (λ a. low ≤ f a) xs → All (λ a. f a < high) xs
      → low ≤ high → low + length xs ≤ high
  rises-room low high none above below l = omega arith
  rises-room low high (more {a} {xs} h r) above below l =
      let first : low ≤ f a = above a (Memᴰ.head refl) in
      let end : f a < high = below a (Memᴰ.head refl) in
      let others : suc (f a) + length xs ≤ high = rises-room (suc (f a)) high r h (λ b m. below b (Memᴰ.tail m)) end in
      omega arith

  -- a part of a rising list rises
  rises-part : {g : List A} {gs : List (List A)} → Mem g gs → Rises f (joined gs) → Rises f g
  unfolding joined
  rises-part (Memᴰ.head {xs = gs} e) r = rw e (rises-left f _ (joined gs) r)
  rises-part (Memᴰ.tail {x = s} {xs = gs} m) r = rises-part m (rises-right f s (joined gs) r)

-- the segments put together are the view
pub cuts-joined : (d : ℕ) (t : List (List Record)) → joined (cuts d t) ≡ view key_of t
unfolding cuts
cuts-joined d t = pack-joined d (groups item_key (view key_of t)) ∙ groups-joined item_key (view key_of t)

-- no segment is empty
pub cuts-full : (d : ℕ) (t : List (List Record)) → All (λ s. 0 < length s) (cuts d t)
unfolding cuts
cuts-full d t = pack-full d (groups item_key (view key_of t)) (groups-full item_key (view key_of t))

-- no key goes on from a segment to the next
pub cuts-apart : (d : ℕ) (t : List (List Record)) (us : List (List Item)) {s s' : List Item} (vs : List (List Item))
    → cuts d t ≡ us ++ (s ∷ s' ∷ vs) → Cut item_key s s'
unfolding cuts
cuts-apart d t us vs e s₁ s₂ a b = pack-cut d item_key (view key_of t) us vs s₁ a e

-- half of S rounded down, times d + 1, is at most the records
pub cuts-bound : (d : ℕ) (t : List (List Record)) → length (cuts d t) / 2 * (d + 1) ≤ length (view key_of t)
unfolding cuts
cuts-bound d t = rw groups-joined at (pack-bound d (groups item_key (view key_of t)))

-- so there are at most so many
pub cuts-most : (d : ℕ) (t : List (List Record)) → length (cuts d t) ≤ 2 * (length (view key_of t) / (d + 1)) + 1
unfolding cuts
cuts-most d t = rw groups-joined at (pack-most d (groups item_key (view key_of t)))

-- a record of a segment stands in the tray
pub cuts-stand : (d : ℕ) (t : List (List Record)) {e : Item} → Mem e (joined (cuts d t)) → At t e
cuts-stand d t {e} m = view-at key_of t e (rw cuts-joined at m)

-- another order has as many members
length-permuted : {A : Type 0} {xs ys : List A} → Permuted xs ys → length xs ≡ length ys
length-permuted same = refl
length-permuted (under p) = ap suc (length-permuted p)
length-permuted exchange = refl
length-permuted (then p q) = length-permuted p ∙ length-permuted q

-- a run spread out has as many entries as records,
length-spread : (i j : ℕ) (r : List Record) → length (spread i j r) ≡ length r
unfolding spread
length-spread i j [] = refl
length-spread i j (e ∷ r) = ap suc (length-spread i (suc j) r)

-- and so have all runs
length-entries : (i : ℕ) (t : List (List Record)) → length (entries_from i t) ≡ total t
unfolding entries_from total
length-entries i [] = refl
length-entries i (r ∷ t) = simp (length-append, length-spread, length-entries (suc i) t)

-- entries that are read from their runs one by one are no more than the run has
takes-short : {t : List (List Record)} {p : ℕ → ℕ} {s : List Item} → Takes t p s → (r : ℕ)
    → p r ≤ length (run_at t r) → passed p s r ≤ length (run_at t r)
unfolding passed
takes-short take_none r l = l
takes-short {t} {p} (take_more {e = e} {es} h k) r l =
    takes-short k r (cases (eqb e.run r)
    (λ y. let z : e.run ≡ r = eqb-true _ _ y in
    let q : p r < length (run_at t r) = rw z at (head-lt t p e h) in omega (arith, bump-same p e.run r z))
    (λ n. omega (arith, bump-other p e.run r (eqb-false _ _ n))))

module _ {d : ℕ} {t : List (List Record)} (ready : Ready d t) where
  -- few enough for one number to order the view by
  pub below_64 : length t ≤ 64
  below_64 = omega (arith, ready.few)

  -- a key has at most one version in each run: the ranks of a group rise within those of its key
  pub group-length : (g : List Item) → Mem g (groups item_key (view key_of t)) → length g ≤ length t
  group-length [] m = zero-le
  group-length (e ∷ es) m =
      let part = rises-part (rank key_of) m (rw groups-joined (view-rises ready.good below_64)) in
      let low = item_key e * 64 in
      let room = rises-room (rank key_of) low (low + length t) part (λ a n. (within a n).0) (λ a n. (within a n).1) (omega arith) in
      omega arith
    where
      within : (a : Item) → Mem a (e ∷ es) → (item_key e * 64 ≤ rank key_of a) × (rank key_of a < item_key e * 64 + length t)
      within a n =
          let key : item_key a ≡ item_key e = groups-one item_key (view key_of t) (e ∷ es) m a n e (Memᴰ.head refl) in
          let run : a.run < length t = at-run t a (view-at key_of t a (rw groups-joined at (joined-mem n m))) in
          omega arith

  -- so no segment has more than d records
  pub cuts_fit : All (λ s. length s ≤ d) (cuts d t)
  unfolding cuts
  cuts_fit = pack-fits d (groups item_key (view key_of t)) (λ g m. omega (arith, group-length g m, ready.least))

  -- in a front of the view stand at most all records of a run
  pub count-before : (r : ℕ) (b w : List Item) → view key_of t ≡ b ++ w → count r b ≤ length (run_at t r)
  count-before r b w is =
      let k = stretch-back ready.good below_64 (λ _. 0) b w (rest-zero key_of t ∙ is) in
      rw (passed-count, zero-add) at (takes-short k.0 r zero-le)

  -- the view has all records
  pub length-view : length (view key_of t) ≡ total t
  length-view = sym (length-permuted (view-is ready.good below_64).all) ∙ length-entries 0 t
