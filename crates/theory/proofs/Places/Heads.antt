-- Laws of the next records of all runs. Beside the worked cases only this file looks inside `head_of` and `heads_from`.
--     heads-head, head-heads       they are the heads
--     heads-rise, heads-length     one a run at most, in run order
--     heads-take                   heads in run order can be read one after another
use Rattle.std.specs.Prelude.{◌≡◌, refl, length}
use Rattle.std.proofs.Math.Path.{sym, ap}
use Rattle.std.proofs.Common.{◌∙◌, zero-add}
use Rattle.std.proofs.Math.Logic.{⊎_elim}
use Prim.Native.Nat.{ℕ, zero, suc, ◌+◌, ◌<◌, ◌≤◌, zero-le}
use Rattle.std.proofs.Math.Nat.{add-zero}
use native.Mathlib.Omega.{arith}
use Rattle.std.proofs.Math.Option.{Option, none, some, some-injective}
use mathlib.Core.List.Memᴰ
use mathlib.Core.List.{List, [], ◌∷◌}
use Rattle.std.proofs.Math.ListN.{get_elem?, length-append}
use Rattle.theory.specs.Lists.{all_nil, none-some}
use Rattle.theory.specs.Rising.{Mem, All, Rises, none, more}
use Rattle.theory.proofs.Rising.Laws.{rises-append}
use Rattle.theory.specs.View.{Entry, run_at}
use Rattle.theory.proofs.View.Entries.{entry-eq, AtFrom, from_at}
use Rattle.theory.specs.Places.{bump, Head, Takes, take_none, take_more, head_of, heads_from}
use Rattle.theory.proofs.Places.Passed.{bump-other}

module _ {A : Type 0} where
  module _ (i j : ℕ) where
    head_of-mem : (o : Option A) {e : Entry A} → Mem e (head_of i j o) → (e.run ≡ i) × (e.place ≡ j) × (o ≡ some e.item)
    unfolding head_of
    head_of-mem none m = absurd (Memᴰ.not-nil m)
    head_of-mem (some a) m =
        let q = Memᴰ.eq_of_singleton m in (ap (λ x. x.run) q, ap (λ x. x.place) q, ap (λ x. some x.item) (sym q))

    mem-head_of : (o : Option A) (e : Entry A) → e.run ≡ i → e.place ≡ j → o ≡ some e.item → Mem e (head_of i j o)
    unfolding head_of
    mem-head_of none e p q h = none-some h
    mem-head_of (some a) e p q h = Memᴰ.head (entry-eq p q (sym (some-injective a e.item h)))

    head_of-rises : (f : Entry A → ℕ) (o : Option A) → Rises f (head_of i j o)
    unfolding head_of
    head_of-rises f none = none
    head_of-rises f (some a) = more (all_nil _) none

    head_of-length : (o : Option A) → length (head_of i j o) ≤ 1
    unfolding head_of
    head_of-length none = omega arith
    head_of-length (some a) = omega arith

  module _ (p : ℕ → ℕ) where
    -- the next record of run i
    abbrev head_at : ℕ → List A → List (Entry A)
    head_at i r = head_of i (p i) (get_elem? r (p i))

    heads-mem : (i : ℕ) (t : List (List A)) {e : Entry A} → Mem e (heads_from i t p) → AtFrom i t e × (e.place ≡ p e.run)
    unfolding heads_from run_at
    heads-mem i [] m = absurd (Memᴰ.not-nil m)
    heads-mem i (r ∷ rs) {e} m = ⊎_elim here (λ k. there (heads-mem (suc i) rs k)) (Memᴰ.append_cases (head_at i r) m)
      where
        here : Mem e (head_at i r) → AtFrom i (r ∷ rs) e × (e.place ≡ p e.run)
        here k =
            let w = head_of-mem i (p i) (get_elem? r (p i)) k in
            ((zero, w.0 ∙ sym (add-zero i), ap (get_elem? r) w.1 ∙ w.2), w.1 ∙ ap p (sym w.0))

        there : AtFrom (suc i) rs e × (e.place ≡ p e.run) → AtFrom i (r ∷ rs) e × (e.place ≡ p e.run)
        there w = ((suc w.0.0, omega arith, w.0.2), w.1)

    mem-heads : (i : ℕ) (t : List (List A)) (n : ℕ) (e : Entry A) → get_elem? (run_at t n) e.place ≡ some e.item
        → e.run ≡ i + n → e.place ≡ p e.run → Mem e (heads_from i t p)
    unfolding heads_from run_at
    mem-heads i [] n e h q l = none-some h
    mem-heads i (r ∷ rs) zero e h q l =
        let here : e.run ≡ i = q ∙ add-zero i in let next : e.place ≡ p i = l ∙ ap p here in
        Memᴰ.append_left (heads_from (suc i) rs p)
        (mem-head_of i (p i) (get_elem? r (p i)) e here next (ap (get_elem? r) (sym next) ∙ h))
    mem-heads i (r ∷ rs) (suc n) e h q l = Memᴰ.append_right (head_at i r) (mem-heads (suc i) rs n e h (omega arith) l)

    pub heads-rise : (i : ℕ) (t : List (List A)) → Rises (λ e. e.run) (heads_from i t p)
    unfolding heads_from
    heads-rise i [] = none
    heads-rise i (r ∷ rs) =
        rises-append (λ e. e.run) (head_of-rises i (p i) (λ e. e.run) (get_elem? r (p i))) (heads-rise (suc i) rs)
        (λ a m b n. let v = head_of-mem i (p i) (get_elem? r (p i)) m in let w = heads-mem (suc i) rs n in omega arith)

    pub heads-length : (i : ℕ) (t : List (List A)) → length (heads_from i t p) ≤ length t
    unfolding heads_from
    heads-length i [] = zero-le
    heads-length i (r ∷ rs) =
        let one = head_of-length i (p i) (get_elem? r (p i)) in
        omega (arith, length-append (head_at i r) (heads_from (suc i) rs p), heads-length (suc i) rs)

    module _ (t : List (List A)) (e : Entry A) where
      pub heads-head : Mem e (heads_from 0 t p) → Head t p e
      heads-head m = let w = heads-mem 0 t m in record { stands = from_at t e w.0; next = w.1 }

      pub head-heads : Head t p e → Mem e (heads_from 0 t p)
      head-heads h = mem-heads 0 t e.run e h.stands (sym (zero-add e.run)) h.next

  -- heads in run order can be read one after another
  pub heads-take : (t : List (List A)) (p : ℕ → ℕ) {s : List (Entry A)} → Rises (λ e. e.run) s → All (Head t p) s → Takes t p s
  heads-take t p none heads = take_none
  heads-take t p (more {a} {xs} h r) heads = take_more (heads a (Memᴰ.head refl)) (heads-take t (bump p a.run) r later)
    where
      later : All (Head t (bump p a.run)) xs
      later b m =
          let w = heads b (Memᴰ.tail m) in let l : a.run < b.run = h b m in
          record { stands = w.stands; next = w.next ∙ sym (bump-other p a.run b.run (omega arith)) }
