-- What the start of the merge needs: each law is a way out of a function, or a turn of its loop.
--     folding-merge, folding-noted     what the merge starts from
--     folding-before, folding-after     the other runs
use Rattle.std.specs.Prelude.{◌≡◌, refl, ℕ, zero, suc, ◌+◌, ◌≤◌, ◌<◌, List, length, get_or, replicate}
use Rattle.std.proofs.Common.{◌∙◌, ap, subst, subst₂, ⊎_elim, arith}
use Rattle.theory.specs.Records.{Record}
use Rattle.tray.specs.Frame.{run_count, count_of, start_of}
use Rattle.tray.specs.Frame.Laws.{start_of-le, start_of-within}
use Rattle.tray.specs.declared.Tray.{Tray}
use Rattle.tray.specs.Meaning.{runs_of}
use Rattle.fold_merge.specs.Folding.{merged_run, merge_left, Skips, Noted, Folding}
use Rattle.fold_merge.specs.Folding.Start.{Begins, merge-begins}

-- the runs before a and after b
begins : {t counts places₀ places₁ places : List ℕ} {a b h : ℕ} → ((r : ℕ) → get_or places₀ r 0 ≡ 0)
    → ((r : ℕ) → r < run_count t → get_or counts r 0 ≡ count_of t r) → h ≡ run_count t → a ≤ b
    → Skips counts places₀ 0 a places₁ → Skips counts places₁ (b + 1) h places → Begins t places a b
begins {t} {counts} {a = a} {b} {h} zeros are e l v w =
    record {
      inside = λ r p q. w.below r (omega arith) ∙ v.behind r p ∙ zeros r;
      outside = λ r k d. ⊎_elim
          (λ p. let z = w.below r (omega arith) ∙ v.read r (omega arith) p ∙ are r k in omega arith)
          (λ p. let z = w.read r (omega arith) (omega arith) ∙ are r k in omega arith) d;
    }

-- zeros
zeros : (n r : ℕ) → ◌≡◌ {A = ℕ} (get_or (replicate n 0) r 0) 0
zeros zero r = refl
zeros (suc n) zero = refl
zeros (suc n) (suc r) = zeros n r

module _ {tray : Tray} {a b : ℕ} (g : Folding tray a b) where
  pub folding-merge : {i j k : ℕ} {places₁ places : List ℕ} → i ≡ a → j ≡ b → k ≡ tray.runs
      → Skips tray.counts (replicate 63 0) 0 i places₁ → Skips tray.counts places₁ (j + 1) k places → merge_left tray.bytes.now places ≡ merged_run a b (runs_of tray.bytes.now)
  folding-merge {i} {j} {k} {places₁} {places} p q r v w =
      let before : Skips tray.counts (replicate 63 0) 0 a places₁ = subst (λ (n : ℕ). Skips tray.counts (replicate 63 0) 0 n places₁) p v in
      let behind : Skips tray.counts places₁ (b + 1) tray.runs places = subst₂ (λ (n m : ℕ). Skips tray.counts places₁ (n + 1) m places) q r w in
      merge-begins (begins (zeros 63) tray.frame.counts tray.frame.runs g.order before behind) g.order g.within

  pub folding-noted : {w : List Record} {kept : List ℕ} {n : ℕ} → w ≡ merged_run a b (runs_of tray.bytes.now) → Noted tray.bytes.now w kept n → Noted tray.bytes.now (merged_run a b (runs_of tray.bytes.now)) kept n
  folding-noted {w} {kept} {n} e k = subst (λ (v : List Record). Noted tray.bytes.now v kept n) e k

  -- where the parts of the tray before a and after b stand
  pub folding-before : {i : ℕ} → i ≡ a → (get_or tray.starts 0 0 ≤ get_or tray.starts i 0) × (get_or tray.starts i 0 ≤ length tray.bytes.now)
  folding-before {i} e =
      let t = tray.bytes.now in
      let frame = tray.frame.at.frame in
      let in-range : a ≤ run_count t = omega (arith, g.order, g.within) in
      let start : get_or tray.starts 0 0 ≡ start_of t 0 = tray.frame.at.starts-are 0 (omega arith) in
      let front : get_or tray.starts i 0 ≡ start_of t a = ap (λ (j : ℕ). get_or tray.starts j 0) e ∙ tray.frame.at.starts-are a in-range in
      (rw (start, front) (start_of-le t 0 a (omega arith)), rw front (start_of-within t frame a in-range))

  pub folding-after : {k : ℕ} → k ≡ b → get_or tray.starts (k + 1) 0 ≤ length tray.bytes.now
  folding-after {k} e =
      let next : k + 1 ≡ suc b = omega arith in
      rw (next, tray.frame.at.starts-are (suc b) g.within) (start_of-within tray.bytes.now tray.frame.at.frame (suc b) g.within)
