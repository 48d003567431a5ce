-- Laws of `feed`: it may be done piece by piece, and a line may be taken up in any parts.
--     feed-append      a piece, and then another
--     more-more, more-none      characters of a line, in parts
--     feed-more        a stretch without a line feed is characters of the line
--     feed-line        with a line feed after it, it ends the line
use Rattle.std.specs.Prelude.{◌≡◌, refl, ℕ, suc, ◌<◌, List, [], ◌∷◌, ◌++◌, length, get_or}
use Rattle.std.proofs.Common.{sym, ap, ◌∙◌, arith, append_assoc, append-nil, ne_eqb}
use Rattle.drawer_spec.specs.Feed.{Progress, ended, more, fed, feed}

-- a piece, and then another
pub feed-append : (p : Progress) (xs ys : List ℕ) → feed p (xs ++ ys) ≡ feed (feed p xs) ys
unfolding feed
feed-append p [] ys = refl
feed-append p (c ∷ xs) ys = feed-append (fed p c) xs ys

-- no character more, and characters in parts
pub more-none : (p : Progress) → more p [] ≡ p
unfolding more
more-none p = ap (λ (l : List ℕ). record { tray = p.tray; index = p.index; number = p.number; line = l; said = p.said }) (append-nil p.line)

pub more-more : (p : Progress) (xs ys : List ℕ) → more (more p xs) ys ≡ more p (xs ++ ys)
unfolding more
more-more p xs ys =
    ap (λ (l : List ℕ). record { tray = p.tray; index = p.index; number = p.number; line = l; said = p.said }) (append_assoc p.line xs ys)

-- no character is a line feed
unfoldable pub Plain : List ℕ → Type 0
Plain cs = (i : ℕ) → i < length cs → get_or cs i 0 ≡ 10 → ⊥

-- a stretch without a line feed
pub feed-more : (p : Progress) (cs : List ℕ) → Plain cs → feed p cs ≡ more p cs
unfolding feed fed Plain
feed-more p [] h = sym (more-none p)
feed-more p (c ∷ cs) h =
    rw (ne_eqb c 10 (h 0 (omega arith))) (feed-more (more p (c ∷ [])) cs (λ i l. h (suc i) (omega arith)) ∙ more-more p (c ∷ []) cs)

-- and one after which the line ends
pub feed-line : (p : Progress) (cs rest : List ℕ) → Plain cs → feed p (cs ++ (10 ∷ rest)) ≡ feed (ended (more p cs)) rest
unfolding feed fed
feed-line p cs rest h = feed-append p cs (10 ∷ rest) ∙ ap (λ (q : Progress). feed q (10 ∷ rest)) (feed-more p cs h)
