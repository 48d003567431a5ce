-- Which cursors belong to an accepted index (docs/RULES.md, "Reading through an index"): exactly those that stand at a record of the view, at a
-- placeholder after a segment's records, or at the end.
--     same-places                        places that are the same, place by place, are equal
--     piece-belongs                      the cursor at a selector of a segment
--     stop-belongs, standing-belongs     where a cursor stands, it belongs
--     belongs-standing                   and where it belongs, it stands
use Rattle.std.specs.Prelude.{◌≡◌, ℕ, zero, suc, ◌+◌, ◌-◌, ◌≤◌, ◌<◌, ◌&&◌, length, get_or, replicate, eqb, ltb}
use Rattle.std.proofs.Math.Path.{refl, sym, ap, subst}
use Rattle.std.proofs.Common.{◌∙◌, zero-add, arith, length-append, take_at, take_all, ext_get_or}
use Rattle.std.proofs.Math.Logic.{⊎_elim}
use Rattle.std.proofs.Math.Bool.{true}
use mathlib.Core.List.Memᴰ
use mathlib.Core.List.{List, [], ◌∷◌, ◌++◌, append_assoc}
use Rattle.std.proofs.Math.ListN.{take}
use Rattle.std.proofs.lemmas.List.{length-replicate}
use Rattle.std.proofs.Math.Seq.{length-take-le}
use borrow.Author.Tests.{eqb-true, eq-eqb, ltb-true, ltb-false, lt-ltb}
use Rattle.theory.proofs.Listed.Laws.{length-listed}
use Rattle.theory.specs.Lists.{here}
use Rattle.theory.specs.Rising.{Mem, All}
use Rattle.theory.specs.Tests.{cases, and-true, and_left, and_right}
use Rattle.tray.specs.Frame.{run_count}
use Rattle.tray.specs.Frame.Laws.{upto}
use Rattle.index.specs.Layout.{size_of, segment_count}
use Rattle.index.specs.Rules.{Item}
use Rattle.index.specs.Scan.Code.{same_to}
use Rattle.index.specs.Scan.Laws.{or_cases, or_left, or_right}
use Rattle.index.specs.Scan.Places.{places_of}
use Rattle.walk.specs.Walk.{Spot}
use Rattle.walk.specs.Walk.Spots.{Reading, Stop, spot_at, spots_in, spots_from, spots, spots_in-append}
use Rattle.walk.specs.Walk.Tours.{each_all}
use Rattle.walk.specs.Walk.Pieces.{Piece, spelt-piece, piece-spots, each-spots}
use Rattle.walk.specs.Walk.Laws.{piece-fits, each_in}
use Rattle.walk.specs.Walk.Reached.{Reached, reach}
use Rattle.walk.specs.Reads.Selectors.{places_at-are, record-at}
use Rattle.walk.specs.Reads.Standing.{Standing, at-stop, at_gap, at-end}
use Rattle.walk.specs.Reads.{end_spot, places_at, same_places, belongs}

pub same-itself : (xs : List ℕ) (k : ℕ) → same_to xs xs k ≡ true
unfolding same_to
same-itself xs zero = refl
same-itself xs (suc k) = and-true (eq-eqb (get_or xs k 0) (get_or xs k 0) refl) (same-itself xs k)

same-all : (xs ys : List ℕ) (k : ℕ) → same_to xs ys k ≡ true → (r : ℕ) → r < k → get_or xs r 0 ≡ get_or ys r 0
unfolding same_to
same-all xs ys zero h = λ r l. absurd (omega arith)
same-all xs ys (suc k) h = upto (same-all xs ys k (and_right (eqb (get_or xs k 0) _) _ h)) (eqb-true _ _ (and_left _ _ h))

pub same-places : (xs ys : List ℕ) → length xs ≡ 63 → length ys ≡ 63 → same_places xs ys ≡ true → xs ≡ ys
unfolding same_places
same-places xs ys p q h = ext_get_or 0 xs ys (p ∙ sym q) (λ r l. same-all xs ys 63 h r (omega arith))

spot-eq : {c d : Spot} → c.segment ≡ d.segment → c.selector ≡ d.selector → c.places ≡ d.places → c ≡ d
spot-eq p q s = λ i. record { segment = p i; selector = q i; places = s i }

length-places_at : (h : ℕ) (x : List ℕ) (g s : ℕ) → length (places_at h x g s) ≡ 63
unfolding places_at
length-places_at h x g s = length-listed 63 0 _

module _ {t x : List ℕ} (r : Reading t x) where
  pub piece-belongs : {k g : ℕ} {b own left : List Item} → Piece t x k g b own left → (s : ℕ) → s < size_of x → (us : List Item) → take s own ≡ us
      → belongs (run_count t) x (spot_at g s (b ++ us)) ≡ true
  unfolding belongs same_places
  piece-belongs {g = g} {b = b} {own = own} piece s l us e =
      or_right (eqb g (segment_count x) && _) _
      (and-true (lt-ltb g (segment_count x) piece.inside) (and-true (lt-ltb s (size_of x) l)
      (subst (λ ps. same_to (places_of (b ++ us)) ps 63 ≡ true)
      (sym (places_at-are piece r.sound s (omega arith) ∙ ap (λ us. places_of (b ++ us)) e)) (same-itself (places_of (b ++ us)) 63))))

  pub stop-belongs : All (λ p. belongs (run_count t) x p.spot ≡ true) (spots t x)
  stop-belongs = each_all (each-spots r (λ k g b own left piece. each_in _ g b own (at k g b own left piece)))
    where
      at : (k g : ℕ) (b own left : List Item) → Piece t x k g b own left
          → (s : ℕ) (us : List Item) (e : Item) (es : List Item) → own ≡ us ++ (e ∷ es) → s ≡ length us
          → belongs (run_count t) x (spot_at g s (b ++ us)) ≡ true
      at k g b own left piece s us e es p q =
          let long : suc s ≤ length own = omega (arith, ap length p ∙ length-append us (e ∷ es)) in
          piece-belongs piece s (omega (arith, piece-fits piece)) us (ap (take s) p ∙ take_at us (e ∷ es) s (sym q))

  pub standing-belongs : {c : Spot} {ps : List Stop} → Standing t x c ps → belongs (run_count t) x c ≡ true
  unfolding belongs same_places end_spot
  standing-belongs (at-stop us {p} e) = stop-belongs p (subst (Mem p) (sym e) (Memᴰ.append_right us here))
  standing-belongs (at_gap {s = s} {own = own} us piece l u is e) = piece-belongs piece s u own (take_all s own l)
  standing-belongs at-end =
      or_left _ _ (and-true (eq-eqb (segment_count x) (segment_count x) refl) (and-true refl (same-itself (replicate 63 0) 63)))

  -- the cursor at selector s of a segment stands at a record, or after them all
  piece-standing : {k g : ℕ} {b own left : List Item} → Piece t x k g b own left → (us : List Stop)
      → spots t x ≡ us ++ (spots_in g 0 b own ++ spots_from t x k (g + 1) (b ++ own) left) → (s : ℕ) → s < size_of x
      → (ps : List Stop) × Standing t x (spot_at g s (b ++ take s own)) ps
  unfolding spots_in
  piece-standing {k} {g} {b} {own} {left} piece us parts s l =
      cases (ltb s (length own))
      (λ y. let lt = ltb-true s (length own) y in let w = record-at s own lt in let o = take s own in
      let at : spots_in g 0 b own ≡ spots_in g 0 b o ++ spots_in g s (b ++ o) (w.0 ∷ w.1) =
      ap (spots_in g 0 b) w.2 ∙ spots_in-append g 0 b o (w.0 ∷ w.1)
      ∙ ap (λ n. spots_in g 0 b o ++ spots_in g n (b ++ o) (w.0 ∷ w.1)) (zero-add (length o) ∙ length-take-le s own (omega arith)) in
      let later = spots_from t x k (g + 1) (b ++ own) left in (
        _,
        at-stop (us ++ spots_in g 0 b o) (parts ∙ ap (λ l. us ++ (l ++ later)) at
            ∙ ap (λ l. us ++ l) (append_assoc (spots_in g 0 b o) (spots_in g s (b ++ o) (w.0 ∷ w.1)) later)
            ∙ sym (append_assoc us (spots_in g 0 b o) (spots_in g s (b ++ o) (w.0 ∷ w.1) ++ later))),
      ))
      (λ n. let past = ltb-false s (length own) n in (
        spots_from t x k (g + 1) (b ++ own) left,
        subst (λ o. Standing t x (spot_at g s (b ++ o)) (spots_from t x k (g + 1) (b ++ own) left)) (sym (take_all s own past))
            (at_gap (us ++ spots_in g 0 b own) piece past l refl (parts ∙ sym (append_assoc us (spots_in g 0 b own) (spots_from t x k (g + 1) (b ++ own) left)))),
      ))

  -- so does a cursor with the places that it must have
  reached-standing : {k g : ℕ} (at : Reached t x (suc k) g) (s : ℕ) → s < size_of x → (c : Spot) → c.segment ≡ g → c.selector ≡ s
      → c.places ≡ places_at (run_count t) x g s → (ps : List Stop) × Standing t x c ps
  reached-standing {k} {g} at s l c p q places =
      let one = spelt-piece at.spelt in
      let found = piece-standing one.3 at.passed
      (at.parts ∙ ap (λ l. at.passed ++ l) (ap (spots_from t x (suc k) g at.before) one.2 ∙ piece-spots one.3)) s l in (
        found.0,
        subst (λ d. Standing t x d found.0)
            (sym (spot-eq p q (places ∙ places_at-are one.3 r.sound s (omega arith)))) found.1,
      )

  pub belongs-standing : (c : Spot) → length c.places ≡ 63 → belongs (run_count t) x c ≡ true → (ps : List Stop) × Standing t x c ps
  unfolding belongs end_spot
  belongs-standing c long h = ⊎_elim at-the-end inside (or_cases _ _ h)
    where
      at-the-end : (eqb c.segment (segment_count x) && (eqb c.selector 0 && same_places c.places (replicate 63 0))) ≡ true
          → (ps : List Stop) × Standing t x c ps
      at-the-end e =
          let f = and_right (eqb c.segment (segment_count x)) _ e in (
            [],
            subst (λ d. Standing t x d [])
                (sym (spot-eq (eqb-true _ _ (and_left _ _ e)) (eqb-true _ _ (and_left _ _ f))
                (same-places c.places (replicate 63 0) long (length-replicate {A = ℕ} 63 0) (and_right (eqb c.selector 0) _ f)))) at-end,
          )

      inside : (ltb c.segment (segment_count x)
          && (ltb c.selector (size_of x) && same_places c.places (places_at (run_count t) x c.segment c.selector))) ≡ true
          → (ps : List Stop) × Standing t x c ps
      inside e =
          let f = and_right (ltb c.segment (segment_count x)) _ e in
          let low : c.segment < segment_count x = ltb-true _ _ (and_left _ _ e) in
          reached-standing (reach r c.segment (suc (segment_count x - suc c.segment)) (omega arith))
          c.selector (ltb-true _ _ (and_left _ _ f)) c refl refl
          (same-places c.places (places_at (run_count t) x c.segment c.selector) long
          (length-places_at (run_count t) x c.segment c.selector) (and_right (ltb c.selector (size_of x)) _ f))
