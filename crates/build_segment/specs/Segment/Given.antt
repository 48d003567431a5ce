-- What going back comes to: the records of the last key are given back.
--     LastGroup, back_is     the records before the last key's, and the places there
use Rattle.std.specs.Prelude.{◌≡◌, true, false, set, eqb, ltb}
use Rattle.std.proofs.Math.Path.{refl, sym, ap, ap₂, subst}
use Rattle.std.proofs.Common.{◌∙◌, ⊎_elim, arith, get_or-set_same, set-set, lt-ltb, le-ltb, eqb-true}
use Prim.Native.Nat.{ℕ, zero, suc, ◌+◌, ◌-◌, ◌%◌, ◌≤◌, ◌<◌}
use Rattle.std.proofs.Math.Bool.{cond}
use mathlib.Core.List.Memᴰ
use mathlib.Core.List.{List, [], ◌∷◌, ◌++◌, append_assoc}
use Rattle.std.proofs.Math.ListN.{length, get_or, length-append, get_or-append}
use Rattle.std.proofs.lemmas.List.{set-get_or}
use Rattle.std.proofs.Math.Seq.{get_or-append_seam}
use Rattle.std.proofs.lemmas.Bool.{eqb-false}
use Rattle.theory.specs.Records.{live}
use Rattle.theory.specs.Rising.{Mem}
use Rattle.theory.specs.Tests.{cases}
use Rattle.index.specs.Rules.{Item}
use Rattle.index.specs.Rules.Laws.{marks-run}
use Rattle.index.specs.Scan.{marked, raise}
use Rattle.index.specs.Scan.Places.{places_of, length-places_of, raise-places_of}
use Rattle.build_spec.specs.Build.{item_key}
use Rattle.build_marks.specs.Code.{stop, lower, back}
use Rattle.build_marks.specs.Code.Spelled.{marks_on, last_key, marks_on-snoc, last_key-snoc, length-marks_on}

-- the last of a list
pub record Last (xs : List Item) : Type 0 where
  pub before : List Item
  pub end : Item
  pub parts : xs ≡ before ++ (end ∷ [])

pub last_of : (x : Item) (xs : List Item) → Last (x ∷ xs)
last_of x [] = record { before = []; end = x; parts = refl }
last_of x (y ∷ xs) = let l = last_of y xs in record { before = x ∷ l.before; end = l.end; parts = ap (λ u. x ∷ u) l.parts }

-- a record given back
lower-places_of : (b : List Item) (e : Item) → e.run < 63 → lower (places_of (b ++ (e ∷ []))) e.run ≡ places_of b
unfolding lower raise
lower-places_of b e l =
    let p = places_of b in
    let r = e.run in
    let more = get_or p r 0 + 1 in
    let here : get_or (set p r more) r 0 ≡ more = get_or-set_same p r more 0 (omega (arith, length-places_of b)) in
    let less : get_or (set p r more) r 0 - 1 ≡ get_or p r 0 = omega arith in
    ap (λ (ps : List ℕ). lower ps r) (sym (raise-places_of b e))
    ∙ ap (set (set p r more) r) less ∙ set-set p r more (get_or p r 0) ∙ set-get_or p r 0

-- the records of own from c on have the last key, and the ones before have not
pub record LastGroup (seg : List ℕ) (from k : ℕ) (b own : List Item) : Type 0 where
  pub front : List Item
  pub first : Item
  pub others : List Item
  pub parts : own ≡ front ++ (first ∷ others)
  pub same : (x : Item) → Mem x (first ∷ others) → item_key x ≡ last_key k own
  pub differs : last_key k front ≡ item_key first → ⊥
  pub given : back seg from (length own) (places_of (b ++ own)) ≡ stop (from + length front) (places_of (b ++ front))

-- a mark's bytes: below 128 where it is not old
not-old : (e : Item) {o : _} → o ≡ false → e.run < 63 → marked e.run e.item o < 128
unfolding marked
not-old e q l = rw q (cases (live e.item) (λ y. rw y (omega arith)) (λ n. rw n (omega arith)))

is-old : (e : Item) {o : _} → o ≡ true → 128 ≤ marked e.run e.item o
unfolding marked
is-old e q = rw q (omega arith)

-- the selectors stand in the output
abbrev pub Holds : List ℕ → ℕ → List ℕ → Type 0
Holds seg from vs = (i : ℕ) → i < length vs → get_or seg (from + i) 0 ≡ get_or vs i 0

module _ (seg : List ℕ) (from k : ℕ) (b : List Item) where
  holds-front : (xs ys : List ℕ) → Holds seg from (xs ++ ys) → Holds seg from xs
  holds-front xs ys h i l = h i (simp length-append (omega arith)) ∙ get_or-append xs ys 0 i l

  holds-last : (xs : List ℕ) (y : ℕ) → Holds seg from (xs ++ (y ∷ [])) → get_or seg (from + length xs) 0 ≡ y
  holds-last xs y h = h (length xs) (simp length-append (omega arith)) ∙ get_or-append_seam xs y [] 0

  module _ (us : List Item) (e : Item) (low : e.run < 63) (h : Holds seg from (marks_on k (us ++ (e ∷ [])))) where
    mark : ℕ
    mark = marked e.run e.item (eqb (last_key k us) (item_key e))

    byte : get_or seg (from + length us) 0 ≡ mark
    unfolding mark
    byte =
        ap (λ (n : ℕ). get_or seg (from + n) 0) (sym (length-marks_on k us))
        ∙ holds-last (marks_on k us) (marked e.run e.item (eqb (last_key k us) (item_key e))) (subst (Holds seg from) (marks_on-snoc k us e) h)

    run_is : get_or seg (from + length us) 0 % 64 ≡ e.run
    unfolding mark marked
    run_is = ap (λ (v : ℕ). v % 64) byte ∙ marks-run e.run (eqb (last_key k us) (item_key e)) (live e.item) (omega arith)

    all : List ℕ
    all = places_of (b ++ (us ++ (e ∷ [])))

    less : lower all (get_or seg (from + length us) 0 % 64) ≡ places_of (b ++ us)
    unfolding all
    less =
        ap (lower (places_of (b ++ (us ++ (e ∷ []))))) run_is
        ∙ ap (λ (u : List Item). lower (places_of u) e.run) (sym (append_assoc b us (e ∷ [])))
        ∙ lower-places_of (b ++ us) e low

    -- one step back
    step : back seg from (length (us ++ (e ∷ []))) all
        ≡ cond (ltb mark 128) (stop (from + length us) (places_of (b ++ us))) (back seg from (length us) (places_of (b ++ us)))
    unfolding back
    step =
        let long : length (us ++ (e ∷ [])) ≡ suc (length us) = simp length-append (omega arith) in
        ap (λ (n : ℕ). back seg from n all) long
        ∙ ap₂ (λ (v : ℕ) (ps : List ℕ). cond (ltb v 128) (stop (from + length us) ps) (back seg from (length us) ps)) byte less

    step-new : eqb (last_key k us) (item_key e) ≡ false → back seg from (length (us ++ (e ∷ []))) (places_of (b ++ (us ++ (e ∷ [])))) ≡ stop (from + length us) (places_of (b ++ us))
    unfolding all mark
    step-new q =
        step ∙ ap (λ (o : _). cond o (stop (from + length us) (places_of (b ++ us))) (back seg from (length us) (places_of (b ++ us)))) (lt-ltb _ 128 (not-old e q low))

    step-old : eqb (last_key k us) (item_key e) ≡ true
        → back seg from (length (us ++ (e ∷ []))) (places_of (b ++ (us ++ (e ∷ [])))) ≡ back seg from (length us) (places_of (b ++ us))
    unfolding all mark
    step-old q =
        step ∙ ap (λ (o : _). cond o (stop (from + length us) (places_of (b ++ us))) (back seg from (length us) (places_of (b ++ us)))) (le-ltb _ 128 (is-old e q))

  module _ (us : List Item) (e : Item) (low : e.run < 63) (h : Holds seg from (marks_on k (us ++ (e ∷ [])))) where
    -- a record that is not old is the first of its key
    fresh : eqb (last_key k us) (item_key e) ≡ false → LastGroup seg from k b (us ++ (e ∷ []))
    fresh q =
        record {
          front = us;
          first = e;
          others = [];
          parts = refl;
          same = λ x m. ap item_key (Memᴰ.eq_of_singleton m) ∙ sym (last_key-snoc k us e);
          differs = eqb-false _ _ q;
          given = step-new us e low h q;
        }

    -- before an old one stands one of its key
    further : eqb (last_key k us) (item_key e) ≡ true → LastGroup seg from k b us → LastGroup seg from k b (us ++ (e ∷ []))
    further q g =
        record {
          front = g.front;
          first = g.first;
          others = g.others ++ (e ∷ []);
          parts = ap (λ (u : List Item). u ++ (e ∷ [])) g.parts ∙ append_assoc g.front (g.first ∷ g.others) (e ∷ []);
          same = λ x m. ⊎_elim (λ i. g.same x i ∙ eqb-true _ _ q ∙ sym (last_key-snoc k us e)) (λ i. ap item_key (Memᴰ.eq_of_singleton i) ∙ sym (last_key-snoc k us e))
              (Memᴰ.append_cases (g.first ∷ g.others) m);
          differs = g.differs;
          given = step-old us e low h q ∙ g.given;
        }

  -- going back over n records and one more
  back-snoc : (n : ℕ) (us : List Item) (e : Item) → length us ≡ n → ((x : Item) → Mem x (us ++ (e ∷ [])) → x.run < 63)
      → ((x : Item) (xs : List Item) → us ++ (e ∷ []) ≡ x ∷ xs → k ≡ item_key x → ⊥) → Holds seg from (marks_on k (us ++ (e ∷ []))) → LastGroup seg from k b (us ++ (e ∷ []))
  unfolding last_key
  back-snoc zero [] e long low new h =
      let here : e.run < 63 = low e (Memᴰ.head refl) in
      cases (eqb k (item_key e)) (λ q. absurd (new e [] refl (eqb-true k (item_key e) q))) (fresh [] e here h)
  back-snoc zero (y ∷ ys) e long low new h = absurd (omega arith)
  back-snoc (suc n) [] e long low new h = absurd (omega arith)
  back-snoc (suc n) (y ∷ ys) e long low new h =
      let here : e.run < 63 = low e (Memᴰ.append_right (y ∷ ys) (Memᴰ.head refl)) in
      let l = last_of y ys in
      let p : l.before ++ (l.end ∷ []) ≡ y ∷ ys = sym l.parts in
      let short : length l.before ≡ n = omega (arith, simp length-append at (ap length p)) in
      let front : Holds seg from (marks_on k (y ∷ ys)) = holds-front (marks_on k (y ∷ ys)) _ (subst (Holds seg from) (marks_on-snoc k (y ∷ ys) e) h) in
      let before : LastGroup seg from k b (y ∷ ys) =
      subst (LastGroup seg from k b) p
      (back-snoc n l.before l.end short (λ x m. low x (Memᴰ.append_left (e ∷ []) (subst (Mem x) p m)))
      (λ x xs q. new x (xs ++ (e ∷ [])) (ap (λ (u : List Item). u ++ (e ∷ [])) (sym p ∙ q)))
      (subst (λ (u : List Item). Holds seg from (marks_on k u)) (sym p) front)) in
      cases (eqb (last_key k (y ∷ ys)) (item_key e)) (λ q. further (y ∷ ys) e here h q before) (fresh (y ∷ ys) e here h)

  pub back_is : (own : List Item) → 0 < length own → ((x : Item) → Mem x own → x.run < 63)
      → ((x : Item) (xs : List Item) → own ≡ x ∷ xs → k ≡ item_key x → ⊥) → Holds seg from (marks_on k own) → LastGroup seg from k b own
  back_is [] some low new h = absurd (omega arith)
  back_is (x ∷ xs) some low new h =
      let l = last_of x xs in
      let p : l.before ++ (l.end ∷ []) ≡ x ∷ xs = sym l.parts in
      subst (LastGroup seg from k b) p
      (back-snoc (length l.before) l.before l.end refl (λ y m. low y (subst (Mem y) p m)) (λ y ys q. new y ys (sym p ∙ q)) (subst (λ (u : List Item). Holds seg from (marks_on k u)) (sym p) h))
