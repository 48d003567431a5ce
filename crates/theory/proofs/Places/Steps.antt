-- The step of a merge of all runs: where k is the least key left, its versions among the next records are the view's next part.
-- Beside the worked cases only this file looks inside `versions`.
--     versions-head, head-versions, versions-key    the versions of a key: the next records that have it
--     versions-runs, versions-rise, versions-length, versions-takes    one a run at most, in run order
--     step, step-above     they come next in the view, and after them only higher keys
use Rattle.std.specs.Prelude.{◌≡◌, ℕ, ◌<◌, ◌≤◌, List, ◌++◌, length, ltb}
use Rattle.std.proofs.Common.{ap, arith}
use Rattle.std.proofs.Math.Dec.{eqb}
use borrow.Author.Tests.{eq-eqb, eqb-true, ltb-true, ltb-false}
use Rattle.theory.specs.Tests.{cases}
use Rattle.theory.specs.Rising.{Mem, Rises}
use Rattle.theory.proofs.Rising.Laws.{rises_by}
use Rattle.theory.proofs.Rising.Kept.{mem-keep, keep-mem, rises-keep, keep-length}
use Rattle.theory.specs.Merge.{Good}
use Rattle.theory.specs.View.{Entry, At, rank}
use Rattle.theory.proofs.View.Entries.{at_low, at-rise, at-rise-le}
use Rattle.theory.specs.Places.{rest, passed, Head, Takes, heads_from, versions}
use Rattle.theory.proofs.Places.Passed.{passed-le}
use Rattle.theory.proofs.Places.Rest.{rest-mem, head_of}
use Rattle.theory.proofs.Places.Laws.{takes-read, stretch}
use Rattle.theory.proofs.Places.Heads.{heads-head, head-heads, heads-rise, heads-length, heads-take}

module _ {A : Type 0} where
  module _ (key : A → ℕ) (t : List (List A)) (p : ℕ → ℕ) (k : ℕ) where
    pub versions-head : (e : Entry A) → Mem e (versions key t p k) → Head t p e × (key e.item ≡ k)
    unfolding versions
    versions-head e m = let v = keep-mem _ (heads_from 0 t p) m in (heads-head p t e v.0, eqb-true _ _ v.1)

    pub head-versions : (e : Entry A) → Head t p e → key e.item ≡ k → Mem e (versions key t p k)
    unfolding versions
    head-versions e h q = mem-keep _ (heads_from 0 t p) (head-heads p t e h) (eq-eqb _ _ q)

    pub versions-key : (e : Entry A) → Mem e (versions key t p k) → key e.item ≡ k
    versions-key e m = (versions-head e m).1

    pub versions-runs : Rises (λ e. e.run) (versions key t p k)
    unfolding versions
    versions-runs = rises-keep _ (λ e. e.run) (heads-rise p 0 t)

    pub versions-rise : Rises (rank key) (versions key t p k)
    versions-rise =
        rises_by (λ e. e.run) (rank key) versions-runs (λ a b m n l. omega (arith, versions-key a m, versions-key b n))

    pub versions-length : length (versions key t p k) ≤ length t
    unfolding versions
    versions-length = omega (arith, keep-length (λ e. eqb (key e.item) k) (heads_from 0 t p), heads-length p 0 t)

    pub versions-takes : Takes t p (versions key t p k)
    versions-takes = heads-take t p versions-runs (λ e m. (versions-head e m).0)

  module _ {Ok : A → Type 0} {key : A → ℕ} {t : List (List A)} (good : Good Ok key t) (few : length t ≤ 64)
      {p : ℕ → ℕ} {k : ℕ} (least : (e : Entry A) → Head t p e → k ≤ key e.item) where
    -- what lies past the versions of the least key has a higher key
    above : (e : Entry A) → At t e → passed p (versions key t p k) e.run ≤ e.place → k < key e.item
    above e a l = cases (ltb k (key e.item)) (λ y. ltb-true _ _ y) (λ n. absurd (not_yet (ltb-false _ _ n)))
      where
        -- else its run's next record has the key, so it is read, and e comes after it
        not_yet : key e.item ≤ k → ⊥
        not_yet u =
            let h = head_of t p e a (omega (arith, passed-le p (versions key t p k) e.run)) in let x = h.0 in
            let v = least x h.1 in
            let w = at-rise-le good x e h.1.stands a h.2 h.3 in
            let m = takes-read t (versions-takes key t p k) x (head-versions key t p k x h.1 (omega arith)) in
            let same = ap (passed p (versions key t p k)) h.2 in
            let later = at-rise good x e h.1.stands a h.2 (omega (arith, m.below)) in
            omega arith

    pub step : rest key t p ≡ versions key t p k ++ rest key t (passed p (versions key t p k))
    step = stretch good few (versions-takes key t p k) (versions-rise key t p k) below
      where
        below : (x e : Entry A) → Mem x (versions key t p k) → Head t (passed p (versions key t p k)) e → rank key x < rank key e
        below x e m h =
            let v = versions-head key t p k x m in let low : x.run < 64 = at_low t x few v.0.stands in
            let l : k < key e.item = above e h.stands (omega arith) in omega arith

    pub step-above : (e : Entry A) → Mem e (rest key t (passed p (versions key t p k))) → k < key e.item
    step-above e m = let w = rest-mem key t (passed p (versions key t p k)) e m in above e w.0 w.1
