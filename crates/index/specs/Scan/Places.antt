-- The places after some records of the view have been read, as the list that the scan carries: how many of them each run has.
--     places_of                           how many of them each run has, as a list of 63
--     places_of-none                      at the start
--     get_or-places_of, length-places_of     the place of a run
--     raise-places_of                     one record more
use Rattle.std.specs.Prelude.{◌≡◌, refl, ℕ, ◌+◌, ◌<◌, List, [], ◌∷◌, ◌++◌, length, get_or, replicate, eqb}
use Rattle.std.proofs.Common.{sym, ◌∙◌, arith, zero-add, length-set, ext_get_or, get_or-set_same, get_or-set_other, eqb-true, eq-eqb, ne_eqb}
use Rattle.std.proofs.lemmas.Bool.{eqb-false}
use Rattle.theory.specs.Tests.{cases}
use Rattle.theory.specs.Places.{count}
use Rattle.theory.proofs.Places.Passed.{count-append}
use Rattle.theory.specs.Listed.{listed}
use Rattle.theory.proofs.Listed.Laws.{length-listed}
use Rattle.index.specs.Layout.Laws.{get_or-listed}
use Rattle.index.specs.Rules.{Item}
use Rattle.index.specs.Scan.{raise}

-- how many records of each run are among b
unfoldable pub places_of : List Item → List ℕ
places_of b = listed 63 0 (λ r. count r b)

pub places_of-none : places_of [] ≡ replicate 63 0
unfolding places_of listed count
places_of-none = refl

pub get_or-places_of : (b : List Item) (r : ℕ) → r < 63 → get_or (places_of b) r 0 ≡ count r b
unfolding places_of
get_or-places_of b r l = rw (get_or-listed 63 0 (λ i. count i b) r 0 l, zero-add)

pub length-places_of : (b : List Item) → length (places_of b) ≡ 63
unfolding places_of
length-places_of b = length-listed 63 0 (λ r. count r b)

-- one record more counts for its run, and for no other
count_same : (b : List Item) (e : Item) (r : ℕ) → e.run ≡ r → count r (b ++ (e ∷ [])) ≡ count r b + 1
unfolding count
count_same b e r p = rw (count-append r b (e ∷ []), eq-eqb e.run r p)

count-other : (b : List Item) (e : Item) (r : ℕ) → (e.run ≡ r → ⊥) → count r (b ++ (e ∷ [])) ≡ count r b
unfolding count
count-other b e r d = rw (count-append r b (e ∷ []), ne_eqb e.run r d) (omega arith)

-- and so does a raised place
raise-same : (b : List Item) (r i : ℕ) → i < 63 → r ≡ i → get_or (raise (places_of b) r) i 0 ≡ count i b + 1
unfolding raise
raise-same b r i l p = rw (p, get_or-set_same (places_of b) i _ 0 (omega (arith, length-places_of b)), get_or-places_of b i l)

raise-other : (b : List Item) (r i : ℕ) → i < 63 → (r ≡ i → ⊥) → get_or (raise (places_of b) r) i 0 ≡ count i b
unfolding raise
raise-other b r i l d = rw (get_or-set_other (places_of b) r i _ 0 (λ q. d (sym q)), get_or-places_of b i l)

length-raise : (b : List Item) (r : ℕ) → length (raise (places_of b) r) ≡ 63
unfolding raise
length-raise b r = simp (length-set, length-places_of)

pub raise-places_of : (b : List Item) (e : Item) → raise (places_of b) e.run ≡ places_of (b ++ (e ∷ []))
raise-places_of b e =
    ext_get_or 0 _ (places_of (b ++ (e ∷ []))) (length-raise b e.run ∙ sym (length-places_of (b ++ (e ∷ []))))
    (λ i l. let u : i < 63 = omega (arith, length-raise b e.run) in at i u ∙ sym (get_or-places_of (b ++ (e ∷ [])) i u))
  where
    at : (i : ℕ) → i < 63 → get_or (raise (places_of b) e.run) i 0 ≡ count i (b ++ (e ∷ []))
    at i l =
        cases (eqb e.run i)
        (λ y. let p = eqb-true e.run i y in raise-same b e.run i l p ∙ sym (count_same b e i p))
        (λ n. let d = eqb-false e.run i n in raise-other b e.run i l d ∙ sym (count-other b e i d))
