-- Laws of what is left of the view at some places, and of the next records there.
-- Beside the worked cases only this file looks inside `rest`.
--     rest-zero, rest-same, mem-rest, rest-mem    what is left: the entries at or past the places
--     rest-rises, head_first                      it rises, and of each run the next record comes first
--     head-lt, lt-head, head_of                   a run has a next record exactly where something of it is left
--     rest_end, used-end, end-used                nothing is left exactly where every run has been read
use Rattle.std.specs.Prelude.{◌≡◌, refl, ℕ, ◌<◌, ◌≤◌, List, [], length, ltb}
use Rattle.std.proofs.Common.{ap, arith}
use Rattle.std.proofs.Math.Path.{fun_ext}
use mathlib.Core.List.Memᴰ
use borrow.Author.Tests.{le-leb, leb-true, ltb-true, ltb-false}
use Rattle.theory.specs.Tests.{cases}
use Rattle.theory.specs.Lists.{no-members, place-lt, lt-place}
use Rattle.theory.specs.Rising.{Mem, Rises}
use Rattle.theory.proofs.Rising.Kept.{mem-keep, keep-mem, rises-keep, keep_all}
use Rattle.theory.specs.Merge.{Good}
use Rattle.theory.specs.View.{Entry, run_at, At, rank, view}
use Rattle.theory.proofs.View.Entries.{at-rise-le}
use Rattle.theory.proofs.View.Laws.{view-at, at-view, view-rises}
use Rattle.theory.specs.Places.{rest, Head}

module _ {A : Type 0} where
  module _ (t : List (List A)) (p : ℕ → ℕ) where
    pub head-lt : (e : Entry A) → Head t p e → p e.run < length (run_at t e.run)
    head-lt e h = omega (arith, place-lt (run_at t e.run) e.place h.stands)

    pub lt-head : (i : ℕ) → p i < length (run_at t i) → (e : Entry A) × Head t p e × (e.run ≡ i)
    lt-head i l =
        let w = lt-place (run_at t i) (p i) l in
        (record { run = i; place = p i; item = w.0 }, record { stands = w.1; next = refl }, refl)

    -- a run with something left has a next record
    pub head_of : (e : Entry A) → At t e → p e.run ≤ e.place
        → (h : Entry A) × Head t p h × (h.run ≡ e.run) × (h.place ≤ e.place)
    head_of e a l =
        let h = lt-head e.run (omega (arith, place-lt (run_at t e.run) e.place a)) in
        let same : p h.0.run ≡ p e.run = ap p h.2 in (h.0, h.1, h.2, omega (arith, h.1.next))

  module _ (key : A → ℕ) (t : List (List A)) where
    pub rest-zero : rest key t (λ _. 0) ≡ view key t
    unfolding rest
    rest-zero = keep_all _ (view key t) (λ e m. le-leb 0 e.place (omega arith))

    pub rest-same : (p q : ℕ → ℕ) → ((i : ℕ) → p i ≡ q i) → rest key t p ≡ rest key t q
    rest-same p q h = ap (rest key t) (fun_ext h)

    module _ (p : ℕ → ℕ) where
      pub mem-rest : (e : Entry A) → At t e → p e.run ≤ e.place → Mem e (rest key t p)
      unfolding rest
      mem-rest e a l = mem-keep _ (view key t) (at-view key t e a) (le-leb _ _ l)

      pub rest-mem : (e : Entry A) → Mem e (rest key t p) → At t e × (p e.run ≤ e.place)
      unfolding rest
      rest-mem e m = let w = keep-mem _ (view key t) m in (view-at key t e w.0, leb-true _ _ w.1)

      pub rest_end : ((e : Entry A) → Head t p e → ⊥) → rest key t p ≡ []
      rest_end h =
          no-members (rest key t p) (λ e m. let w = rest-mem e m in let x = head_of t p e w.0 w.1 in h x.0 x.1)

      pub used-end : ((i : ℕ) → length (run_at t i) ≤ p i) → rest key t p ≡ []
      used-end used = rest_end (λ e h. omega (arith, used e.run, head-lt t p e h))

      pub end-used : rest key t p ≡ [] → (i : ℕ) → length (run_at t i) ≤ p i
      end-used is i =
          cases (ltb (p i) (length (run_at t i))) (λ y. absurd (left (lt-head t p i (ltb-true _ _ y)))) (λ n. ltb-false _ _ n)
        where
          left : (e : Entry A) × Head t p e × (e.run ≡ i) → ⊥
          left w = Memᴰ.not-nil (rw is at (mem-rest w.0 w.1.stands (omega arith)))

  module _ {Ok : A → Type 0} {key : A → ℕ} {t : List (List A)} (good : Good Ok key t) (few : length t ≤ 64) (p : ℕ → ℕ) where
    pub rest-rises : Rises (rank key) (rest key t p)
    unfolding rest
    rest-rises = rises-keep _ (rank key) (view-rises good few)

    -- of what is left of a run its next record comes first
    pub head_first : (e : Entry A) → Mem e (rest key t p) → (h : Entry A) × Head t p h × (rank key h ≤ rank key e)
    head_first e m =
        let w = rest-mem key t p e m in let h = head_of t p e w.0 w.1 in
        let l : key h.0.item ≤ key e.item = at-rise-le good h.0 e h.1.stands w.0 h.2 h.3 in
        (h.0, h.1, omega arith)
