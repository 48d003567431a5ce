-- What `finish` needs of the definitions: its two ways out.
--     finished-none, finished-some     an input that ends with a line feed, and one that ends within a line
--     finishes-none, finishes-line     nothing is carried, or the characters of a last line
use Rattle.std.specs.Prelude.{◌≡◌, refl, ℕ, take}
use Rattle.std.proofs.Math.Path.{sym, ap}
use Rattle.std.proofs.Common.{◌∙◌, take-take}
use native.Mathlib.Omega.{arith}
use mathlib.Core.List.{List, [], ◌∷◌}
use Rattle.std.proofs.Math.ListN.{length}
use Rattle.drawer_spec.specs.declared.Drawer.{Drawer}
use Rattle.drawer_spec.specs.declared.Carried.{Carried}
use Rattle.drawer_spec.specs.Filled.{filled, length-filled}
use Rattle.drawer_spec.specs.Turns.{output_size}
use Rattle.drawer_spec.specs.Feed.{Progress, ended, finished}
use Rattle.drawer_spec.specs.Feed.Code.{gather_size, none-gathered, Answers, Finishes}

finished-none : (p : Progress) → p.line ≡ [] → finished p ≡ p
unfolding finished
finished-none p e = rw e

finished-some : (p : Progress) → (p.line ≡ [] → ⊥) → finished p ≡ ended p
unfolding finished
finished-some p h = go p.line refl
  where
    go : (l : List ℕ) → p.line ≡ l → finished p ≡ ended p
    go [] e = absurd (h e)
    go (c ∷ cs) e = rw e

module _ (c : Carried) where
  pub finishes-none : c.line.used ≡ 0 → Finishes c c.drawer
  finishes-none e p s = rw (finished-none p (none-gathered c p e s.gathers)) s.keeps

  pub finishes-line : {line : List ℕ} {after : Drawer output_size} → (c.line.used ≡ 0 → ⊥) → line ≡ filled c.line → Answers line c.drawer after
      → Finishes c after
  finishes-line {line} some is a p s =
      let there : p.line ≡ [] → ⊥ = λ e. some (sym (length-filled c.line) ∙ ap length (s.gathers ∙ ap (take gather_size) e)) in
      let cut : take gather_size p.line ≡ take gather_size line =
      sym (ap (take gather_size) (is ∙ s.gathers) ∙ take-take gather_size gather_size p.line (omega arith)) in
      rw (finished-some p there) (a p s.keeps cut)
