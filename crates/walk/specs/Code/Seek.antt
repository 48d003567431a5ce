-- What the code of seek needs of the definitions.
use Rattle.std.specs.Prelude.{◌≡◌, ℕ, ◌-◌, ◌%◌, ◌≤◌, ◌<◌, Bool, true, false, ◌&&◌, List, ltb}
use Rattle.std.proofs.Math.Path.{sym, ap, ap₂}
use Rattle.std.proofs.Common.{◌∙◌}
use native.Mathlib.Omega.{arith}
use Rattle.std.proofs.Math.ListN.{get_or}
use Rattle.std.proofs.Math.Dec.{leb}
use borrow.Author.Tests.{lt-ltb, le-ltb, ltb-true}
use Rattle.theory.specs.Tests.{cases, and_left}
use Rattle.tray.specs.declared.Place.{Place}
use Rattle.tray.specs.Frame.{run_count, count_of, run_bytes}
use Rattle.tray.specs.Run.{record_at}
use Rattle.walk.specs.Walk.{Spot, Walked, stayed, lost, stay, go, walk_segments}
use Rattle.walk.specs.Reads.{Found, unmarked, record_by, found_by, seek_visit}
use Rattle.walk.specs.Code.{placed, numbers, get_or-numbers, Walking, Segmenting}
use Rattle.walk.specs.Code.Turns.{Here, place_is, count-is}

-- the walk for a key stays at place p of the run that an unmarked selector is
unfoldable pub stays_at : List ℕ → ℕ → ℕ → ℕ → Bool
stays_at t key v p = unmarked v && leb key (record_at (run_bytes t v) p).key

-- found at selector s of segment g, by the place of run k
unfoldable pub sight_at : ℕ → ℕ → List Place → ℕ → ℕ → Walked ℕ Found
sight_at g s places v k =
    stayed (record { run = v; place = (get_or places k (placed 0)).0; spot = record { segment = g; selector = s; places = numbers places } })

abbrev pub sight_of : ℕ → ℕ → List Place → ℕ → Walked ℕ Found
sight_of g s places v = sight_at g s places v v

-- lost at selector s of segment g
abbrev pub lost_at : ℕ → ℕ → Walked ℕ Found
lost_at g s = lost g s 0

module _ (t : List ℕ) (key v p : ℕ) where
  pub stays-below : {k : ℕ} → v < 64 → k ≡ (record_at (run_bytes t v) p).key → leb key k ≡ stays_at t key v p
  unfolding stays_at unmarked
  stays-below {k} l e = ap (leb key) e ∙ sym (rw (lt-ltb v 64 l))

  pub stays-marked : 64 ≤ v → false ≡ stays_at t key v p
  unfolding stays_at unmarked
  stays-marked l = sym (rw (le-ltb v 64 l))

-- the loop over selectors: the walk from here answers for the walk from this segment on
abbrev pub Inner : List ℕ → List ℕ → ℕ → ℕ → ℕ → ℕ → List Place → ℕ → Type 0
Inner t x d n key g places s = Here t x (seek_visit t key) d n (walk_segments t x (seek_visit t key) (n - g) g 0) g s places 0

-- the loop over segments
abbrev pub Outer : List ℕ → List ℕ → ℕ → ℕ → ℕ → ℕ → Type 0
Outer t x n key g₀ g = Segmenting t x (seek_visit t key) n (walk_segments t x (seek_visit t key) (n - g₀) g₀ 0) g 0

module _ {t x : List ℕ} {h d n : ℕ} {counts : List ℕ} (w : Walking t x h d n counts) where
  module _ (v : ℕ) {i : ℕ} (places : List Place) (below : v % 64 < h) (e : i ≡ v % 64) where
    -- what `stays` asks
    pub stays-run : v < 64 → v < run_count t
    stays-run l = let runs = w.runs in omega arith

    pub stays-place : (get_or places i (placed 0)).0 < get_or counts i 0 → v < 64 → (get_or places i (placed 0)).0 < count_of t v
    stays-place l k =
        let b = count-is w v places below e in
        let z : v % 64 ≡ v = omega arith in
        let y : count_of t (v % 64) ≡ count_of t v = ap (count_of t) z in
        omega arith

    module _ (key : ℕ) {b : Bool} (g s : ℕ) (told : b ≡ stays_at t key v (get_or places i (placed 0)).0) where
      spot : Spot
      spot = record { segment = g; selector = s; places = numbers places }

      -- an unmarked selector is its run
      test-is : (unmarked v && leb key (record_by t v spot).key) ≡ b
      unfolding record_by stays_at unmarked spot
      test-is =
          cases (ltb v 64)
          (λ y.
          let l : v < 64 = ltb-true v 64 y in
          let z : v % 64 ≡ v = omega arith in
          rw y (sym (ap₂ (λ (r p : ℕ). leb key (record_at (run_bytes t r) p).key) (sym z) (place_is w v places below e)) ∙ sym (told ∙ rw y)))
          (λ n. rw n (sym (told ∙ rw n)))

      pub visit-go : b ≡ false → seek_visit t key v (record { segment = g; selector = s; places = numbers places }) 0 ≡ go 0
      unfolding seek_visit spot
      visit-go f = rw (test-is ∙ f)

      pub visit-stay : b ≡ true → seek_visit t key v (record { segment = g; selector = s; places = numbers places }) 0
          ≡ stay (found_by v (record { segment = g; selector = s; places = numbers places }))
      unfolding seek_visit spot
      visit-stay y = rw (test-is ∙ y)

      -- it stays at an unmarked selector, which is its run
      low : b ≡ true → v < 64
      unfolding stays_at unmarked
      low y = ltb-true v 64 (and_left (ltb v 64) _ (sym told ∙ y))

      pub stay-low : b ≡ true → v < 63
      stay-low y = let a = low y in let m = w.few in omega arith

      pub sight-is : b ≡ true → sight_of g s places v ≡ stayed (found_by v (record { segment = g; selector = s; places = numbers places }))
      unfolding sight_at found_by
      sight-is y =
          let a = low y in
          let z : v ≡ v % 64 = omega arith in
          let k : (get_or places v (placed 0)).0 ≡ get_or (numbers places) (v % 64) 0 =
          ap (λ (j : ℕ). (get_or places j (placed 0)).0) z ∙ sym (get_or-numbers places (v % 64)) in
          ap₂ (λ (r p : ℕ). stayed (record { run = r; place = p; spot = record { segment = g; selector = s; places = numbers places } })) z k
