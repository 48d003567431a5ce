-- Laws of where things lie in an index.
--     index-fits, fits-index                    the frame as a test, and as the rules have it
--     get_or-listed, take-listed, listed-some     the member at a place of a list, and its first members
--     offset_at                                 the offset of a run
--     selectors-listed                          a segment's selectors are the bytes from a place on
use Rattle.std.specs.Prelude.{◌≡◌, refl, ℕ, zero, suc, ◌+◌, ◌≤◌, ◌<◌, true, List, ◌∷◌, length, take, leb, ltb, eqb}
use Rattle.std.proofs.Common.{sym, ap, ◌∙◌, zero-add, add-zero, add-suc, suc-add, arith, leb-true, le-leb, ltb-true, ltb-false, eqb-true, eq-eqb}
use Rattle.std.proofs.Math.Option.{some, some-injective}
use Rattle.std.proofs.Math.ListN.{get_or, get_elem?}
use Rattle.theory.specs.Tests.{cases, never, and-true, and_left, and_right}
use Rattle.theory.specs.Listed.{listed}
use Rattle.theory.proofs.Listed.Laws.{get_elem?-listed, get_elem?-listed-past, listed_same}
use Rattle.index.specs.Layout.{size_of, head_size, offset_from, selector_from, segment_from, IndexFramed, index_framed}

pub index-fits : (h : ℕ) (x : List ℕ) → index_framed h x ≡ true → IndexFramed h x
unfolding index_framed
index-fits h x f =
    let f1 = and_right (leb 8 (length x)) _ f in
    let f2 = and_right (eqb (get_or x 0 0) h) _ f1 in
    let f3 = and_right (leb h (size_of x)) _ f2 in
    let f4 = and_right (leb (size_of x) 128) _ f3 in
    let f5 = and_right (eqb (get_or x 2 0) 0) _ f4 in
    record {
      header = leb-true _ _ (and_left _ _ f);
      runs = eqb-true _ _ (and_left _ _ f1);
      least = leb-true _ _ (and_left _ _ f2);
      most = leb-true _ _ (and_left _ _ f3);
      zero-2 = eqb-true _ _ (and_left _ _ f4);
      zero-3 = eqb-true _ _ (and_left _ _ f5);
      whole = eqb-true _ _ (and_right (eqb (get_or x 3 0) 0) _ f5);
    }

pub fits-index : (h : ℕ) (x : List ℕ) → IndexFramed h x → index_framed h x ≡ true
unfolding index_framed
fits-index h x f =
    and-true (le-leb _ _ f.header) (and-true (eq-eqb _ _ f.runs)
    (and-true (le-leb _ _ f.least) (and-true (le-leb _ _ f.most)
    (and-true (eq-eqb _ _ f.zero-2) (and-true (eq-eqb _ _ f.zero-3) (eq-eqb _ _ f.whole))))))

pub get_or-listed : {A : Type 0} (n i : ℕ) (f : ℕ → A) (j : ℕ) (a : A) → j < n → get_or (listed n i f) j a ≡ f (i + j)
unfolding listed
get_or-listed zero i f j a l = absurd (omega arith)
get_or-listed (suc n) i f zero a l = rw add-zero
get_or-listed (suc n) i f (suc j) a l = rw (get_or-listed n (suc i) f j a (omega arith), add-suc, suc-add)

-- the first k of them
pub take-listed : {A : Type 0} (k n i : ℕ) (f : ℕ → A) → k ≤ n → take k (listed n i f) ≡ listed k i f
unfolding listed
take-listed zero n i f l = refl
take-listed (suc k) zero i f l = absurd (omega arith)
take-listed {A} (suc k) (suc n) i f l = ap {B = List A} (λ s. f i ∷ s) (take-listed k n (suc i) f (omega arith))

-- whatever stands at a place
pub listed-some : {A : Type 0} {a : A} (n i : ℕ) (f : ℕ → A) (j : ℕ)
    → get_elem? (listed n i f) j ≡ some a → (j < n) × (a ≡ f (i + j))
listed-some {a = a} n i f j e =
    cases (ltb j n) (λ y. let l = ltb-true j n y in (l, some-injective a (f (i + j)) (sym e ∙ get_elem?-listed n i f j l)))
    (λ y. let z = sym e ∙ get_elem?-listed-past n i f j (ltb-false j n y) in never (cc))

module _ (h d : ℕ) (x : List ℕ) (at : ℕ) where
  pub offset_at : (r : ℕ) → r < h → get_or (segment_from h d x at).offsets r 0 ≡ offset_from x at r
  unfolding segment_from
  offset_at r l = rw (get_or-listed h 0 (offset_from x at) r 0 l, zero-add)

  pub selectors-listed : (segment_from h d x at).selectors ≡ listed d (at + head_size h) (λ i. get_or x i 0)
  unfolding segment_from
  selectors-listed = listed_same d 0 (at + head_size h) (selector_from h x at) (λ i. get_or x i 0) (λ j l. rw zero-add)
