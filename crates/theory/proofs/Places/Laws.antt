-- A stretch of entries that is read from the runs one by one, in order, is the next part of the view, and the other way round:
-- the ground of the index check, of the walk and of the merge of all runs. `stretch` is the law that the rest stands on.
--     Read, takes-read, read-takes, takes-append     what is read: the entries between the places before and after
--     stretch                                  what is read in order is the next part of the view
--     stretch-back, first_head                 the next part of the view is read from the runs one by one
--     place-count                              an entry's place is the number of entries of its run before it
use Rattle.std.specs.Prelude.{◌≡◌, refl, ◌⊎◌, length, eqb, leb}
use Rattle.std.proofs.Math.Path.{sym, ap}
use Rattle.std.proofs.Common.{◌∙◌, inl, inr, zero-add, arith}
use Rattle.std.proofs.Math.Logic.{⊎_elim}
use Prim.Native.Nat.{ℕ, ◌<◌, ◌≤◌}
use mathlib.Core.List.Memᴰ
use mathlib.Core.List.{List, [], ◌∷◌, ◌++◌, append_cancel_left}
use borrow.Author.Tests.{eqb-true, eqb-false, leb-true, leb-false}
use Rattle.theory.specs.Tests.{cases}
use Rattle.theory.specs.Lists.{all_nil}
use Rattle.theory.specs.Rising.{Mem, All, Rises, none, more}
use Rattle.theory.proofs.Rising.Laws.{rises-append, rises-across, same-members}
use Rattle.theory.specs.Merge.{Good}
use Rattle.theory.specs.View.{Entry, At, rank, view}
use Rattle.theory.proofs.View.Entries.{at_one}
use Rattle.theory.specs.Places.{bump, rest, passed, count, Head, Takes, take_none, take_more}
use Rattle.theory.proofs.Places.Passed.{bump-same, bump-other, bump-le, passed-count, passed-le}
use Rattle.theory.proofs.Places.Rest.{rest-zero, mem-rest, rest-mem, rest-rises, head_first}

module _ {A : Type 0} (t : List (List A)) where
  -- e stands in the tray, at or past places p and before places q
  pub record Read (p q : ℕ → ℕ) (e : Entry A) : Type 0 where
    pub stands : At t e
    pub from : p e.run ≤ e.place
    pub below : e.place < q e.run

  pub takes-read : {p : ℕ → ℕ} {s : List (Entry A)} → Takes t p s → (e : Entry A) → Mem e s → Read p (passed p s) e
  unfolding passed
  takes-read take_none e m = absurd (Memᴰ.not-nil m)
  takes-read {p} (take_more {e = c} {es} h k) e m = ⊎_elim here (λ n. there (takes-read k e n)) (Memᴰ.cases_cons m)
    where
      after : ℕ → ℕ
      after = passed (bump p c.run) es

      here : e ≡ c → Read p after e
      here q =
          let one = bump-same p c.run c.run refl in
          rw q (record { stands = h.stands; from = omega arith; below = omega (arith, passed-le (bump p c.run) es c.run) })

      there : Read (bump p c.run) after e → Read p after e
      there w = record { stands = w.stands; from = omega (arith, bump-le p c.run e.run); below = w.below }

  pub read-takes : {p : ℕ → ℕ} {s : List (Entry A)} → Takes t p s → (e : Entry A) → Read p (passed p s) e → Mem e s
  unfolding passed
  read-takes take_none e w = absurd (omega (arith, w.from, w.below))
  read-takes {p} (take_more {e = c} {es} h k) e w =
      cases (leb (bump p c.run e.run) e.place)
      (λ y. Memᴰ.tail (read-takes k e (record { stands = w.stands; from = leb-true _ _ y; below = w.below })))
      (λ n. Memᴰ.head (this (leb-false _ _ n)))
    where
      this : e.place < bump p c.run e.run → e ≡ c
      this v =
          cases (eqb c.run e.run)
          (λ y. let q : c.run ≡ e.run = eqb-true _ _ y in
          at_one t e c w.stands h.stands (sym q) (omega (arith, w.from, bump-same p c.run e.run q, ap p q, h.next)))
          (λ n. absurd (omega (arith, w.from, bump-other p c.run e.run (eqb-false _ _ n))))

  pub takes-append : {p : ℕ → ℕ} {s u : List (Entry A)} → Takes t p s → Takes t (passed p s) u → Takes t p (s ++ u)
  unfolding passed
  takes-append take_none v = v
  takes-append (take_more h k) v = take_more h (takes-append k v)

module _ {A : Type 0} {Ok : A → Type 0} {key : A → ℕ} {t : List (List A)} (good : Good Ok key t) (few : length t ≤ 64) where
  pub stretch : {p : ℕ → ℕ} {s : List (Entry A)} → Takes t p s → Rises (rank key) s
      → ((x e : Entry A) → Mem x s → Head t (passed p s) e → rank key x < rank key e)
      → rest key t p ≡ s ++ rest key t (passed p s)
  stretch {p} {s} takes up below =
      same-members (rank key) (rest-rises good few p) (rises-append (rank key) up (rest-rises good few after) across) to from
    where
      after : ℕ → ℕ
      after = passed p s

      across : All (λ x. All (λ e. rank key x < rank key e) (rest key t after)) s
      across x m e n = let h = head_first good few after e n in omega (arith, below x h.0 m h.1)

      to : All (λ e. Mem e (s ++ rest key t after)) (rest key t p)
      to e m =
          let w = rest-mem key t p e m in
          cases (leb (after e.run) e.place) (λ y. Memᴰ.append_right s (mem-rest key t after e w.0 (leb-true _ _ y)))
          (λ n. Memᴰ.append_left _ (read-takes t takes e (record { stands = w.0; from = w.1; below = leb-false _ _ n })))

      from : All (λ e. Mem e (rest key t p)) (s ++ rest key t after)
      from e m =
          ⊎_elim (λ n. let w = takes-read t takes e n in mem-rest key t p e w.stands w.from)
          (λ n. let w = rest-mem key t after e n in mem-rest key t p e w.0 (omega (arith, passed-le p s e.run)))
          (Memᴰ.append_cases s m)

  module _ (p : ℕ → ℕ) (e : Entry A) (w : List (Entry A)) (is : rest key t p ≡ e ∷ w) where
    -- nothing of what is left stands before its first entry
    first : (x : Entry A) → At t x → p x.run ≤ x.place → (x ≡ e) ⊎ (rank key e < rank key x)
    first x a l =
        ⊎_elim (λ q. inl q)
        (λ n. inr (rises-across (rank key) (e ∷ []) w (rw is at (rest-rises good few p)) e (Memᴰ.head refl) x n))
        (Memᴰ.cases_cons (rw is at (mem-rest key t p x a l)))

    -- so that is the next record of its run
    pub first_head : Head t p e
    first_head =
        let h = head_first good few p e (rw is (Memᴰ.head refl)) in
        ⊎_elim (λ q. rw q at h.1) (λ l. absurd (omega arith)) (first h.0 h.1.stands (omega arith))

    -- and past it the others are left
    first_rest : w ≡ rest key t (bump p e.run)
    unfolding passed
    first_rest =
        let parts = stretch {p = p} {s = e ∷ []} (take_more first_head take_none) (more (all_nil _) none) below in
        append_cancel_left (e ∷ []) w (rest key t (bump p e.run)) (sym is ∙ parts)
      where
        again : Head t (bump p e.run) e → ⊥
        again h = omega (arith, h.next, first_head.next, bump-same p e.run e.run refl)

        below : (x y : Entry A) → Mem x (e ∷ []) → Head t (bump p e.run) y → rank key x < rank key y
        below x y m h =
            ⊎_elim (λ q. absurd (again (rw q at h))) (λ l. rw (Memᴰ.eq_of_singleton m) l)
            (first y h.stands (omega (arith, bump-le p e.run y.run)))

  pub stretch-back : (p : ℕ → ℕ) (s w : List (Entry A)) → rest key t p ≡ s ++ w → Takes t p s × (w ≡ rest key t (passed p s))
  unfolding passed
  stretch-back p [] w is = (take_none, sym is)
  stretch-back p (e ∷ s) w is =
      let k = stretch-back (bump p e.run) s w (sym (first_rest p e (s ++ w) is)) in
      (take_more (first_head p e (s ++ w) is) k.0, k.1)

  pub place-count : (b : List (Entry A)) (e : Entry A) (w : List (Entry A))
      → view key t ≡ b ++ (e ∷ w) → e.place ≡ count e.run b
  place-count b e w is =
      let k = stretch-back (λ _. 0) b (e ∷ w) (rest-zero key t ∙ is) in
      (first_head (passed (λ _. 0) b) e w (sym k.1)).next ∙ passed-count (λ _. 0) b e.run ∙ zero-add (count e.run b)
