-- Whether a cursor belongs, as the code computes it: places past the tray's runs by the highest, the others by a tally of the selectors.
--     none_for, none-turn, none_end                       some places in a row are 0
--     selectors_from, Tallied, tally-none .. tally-more    how many selectors name each run
--     wanted_at, wanted-run, wanted-is                    the places that a cursor must have
--     same-off, none-same, none-off                       all places at once
--     stands-told, stands-off                             whether it stands at a selector of a segment
--     belongs-there .. belongs-end                        whether the cursor belongs
use Rattle.std.specs.Prelude.{◌≡◌, Bool, true, false, ◌&&◌, ◌||◌, List, length, set, replicate, eqb, ltb}
use Rattle.std.proofs.Math.Path.{refl, sym, ap, ap₂}
use Rattle.std.proofs.Common.{◌∙◌, add-zero, add-suc, add-one, length-set, get_or-set_same, get_or-set_other}
use Prim.Native.Nat.{max, ℕ, zero, suc, ◌+◌, ◌-◌, ◌*◌, ◌%◌, ◌≤◌, ◌<◌}
use native.Mathlib.Omega.{arith}
use Rattle.std.proofs.Math.Nat.{zero-add}
use Rattle.std.proofs.Math.Bool.{cond}
use Rattle.std.proofs.Math.ListN.{get_or, get_or-replicate}
use borrow.Author.Tests.{eq-eqb, ne_eqb, lt-ltb, le-ltb, eqb-true, eqb-false, ltb-true}
use Rattle.theory.specs.Tests.{cases, never, order, and_left, and_right}
use Rattle.theory.specs.Listed.{listed}
use Rattle.theory.proofs.Listed.Laws.{listed_same}
use Rattle.index.specs.Layout.{head_size, size_of, segment_count, segment_at, offset_from}
use Rattle.index.specs.Layout.Code.{Laid}
use Rattle.index.specs.Layout.Laws.{get_or-listed}
use Rattle.index.specs.Scan.{run_in}
use Rattle.index.specs.Scan.Code.{same_to, same_next}
use Rattle.walk.specs.Walk.{Spot}
use Rattle.walk.specs.Reads.{selectors_of, places_at, same_places, belongs}

-- the k places from place r on are 0
unfoldable pub none_for : ℕ → List ℕ → ℕ → Bool
none_for zero ps r = true
none_for (suc k) ps r = eqb (get_or ps r 0) 0 && none_for k ps (r + 1)

-- the higher of two is 0 where both are
higher-none : (a b : ℕ) → eqb (max a b) 0 ≡ (eqb a 0 && eqb b 0)
higher-none a b =
    cases (eqb a 0)
    (λ y.
    let z : a ≡ 0 = eqb-true a 0 y in
    rw y (cases (eqb b 0)
    (λ w. let u : b ≡ 0 = eqb-true b 0 w in rw w (eq-eqb (max a b) 0 (omega arith)))
    (λ n. let u = eqb-false b 0 n in rw n (ne_eqb (max a b) 0 (λ k. u (omega arith))))))
    (λ n. let u = eqb-false a 0 n in rw n (ne_eqb (max a b) 0 (λ k. u (omega arith))))

and_assoc : (a b c : Bool) → ((a && b) && c) ≡ (a && (b && c))
and_assoc true b c = refl
and_assoc false b c = refl

-- the highest so far, and the places after it
pub none-turn : (ps : List ℕ) (top : ℕ) {r next m : ℕ} → next ≡ r + 1 → r < 63 → m ≡ max top (get_or ps r 0)
    → (eqb m 0 && none_for (63 - next) ps next) ≡ (eqb top 0 && none_for (63 - r) ps r)
unfolding none_for
none-turn ps top {r} {next} {m} n l e =
    let z : 63 - r ≡ suc (63 - (r + 1)) = omega arith in
    rw (n, z)
    (ap (λ (b : Bool). b && none_for (63 - (r + 1)) ps (r + 1)) (ap (λ (k : ℕ). eqb k 0) e ∙ higher-none top (get_or ps r 0))
    ∙ and_assoc (eqb top 0) (eqb (get_or ps r 0) 0) (none_for (63 - (r + 1)) ps (r + 1)))

pub none_end : (ps : List ℕ) {r : ℕ} (b : Bool) → 63 ≤ r → b ≡ (b && none_for (63 - r) ps r)
unfolding none_for
none_end ps {r} b l = let z : 63 - r ≡ 0 = omega arith in rw z (sym (and-on b))
  where
    and-on : (c : Bool) → (c && true) ≡ c
    and-on true = refl
    and-on false = refl

none-all : (k : ℕ) (ps : List ℕ) (r : ℕ) → none_for k ps r ≡ true → (i : ℕ) → r ≤ i → i < r + k → get_or ps i 0 ≡ 0
unfolding none_for
none-all zero ps r e i l m = absurd (omega arith)
none-all (suc k) ps r e i l m =
    order r i
    (λ b. none-all k ps (r + 1) (and_right (eqb (get_or ps r 0) 0) (none_for k ps (r + 1)) e) i (omega arith) (omega arith))
    (λ z. ap (λ (j : ℕ). get_or ps j 0) (sym z) ∙ eqb-true (get_or ps r 0) 0 (and_left (eqb (get_or ps r 0) 0) (none_for k ps (r + 1)) e))
    (λ a. absurd (omega arith))

-- how many of the first s bytes from `first` on name run r, marks aside
unfoldable pub selectors_from : List ℕ → ℕ → ℕ → ℕ → ℕ
selectors_from x first r zero = 0
selectors_from x first r (suc s) = selectors_from x first r s + cond (eqb (run_in (get_or x (first + s) 0)) r) 1 0

selectors-low : (x : List ℕ) (first r s : ℕ) → selectors_from x first r s ≤ s
unfolding selectors_from
selectors-low x first r zero = omega arith
selectors-low x first r (suc s) =
    let k = selectors-low x first r s in
    let n = selectors_from x first r s in
    at (eqb (run_in (get_or x (first + s) 0)) r) k
  where
    at : (b : Bool) → selectors_from x first r s ≤ s → selectors_from x first r s + cond b 1 0 ≤ suc s
    at true k = omega arith
    at false k = omega arith

selectors-step : (x : List ℕ) (first r s : ℕ) → selectors_from x first r (s + 1) ≡ selectors_from x first r s + cond (eqb (run_in (get_or x (first + s) 0)) r) 1 0
unfolding selectors_from
selectors-step x first r s = rw add-one

-- the tally of the first s
pub record Tallied (x : List ℕ) (first s : ℕ) (seen : List ℕ) : Type 0 where
  pub room : length seen ≡ 64
  pub counts : (r : ℕ) → r < 64 → get_or seen r 0 ≡ selectors_from x first r s

pub tally-none : (x : List ℕ) (first : ℕ) → Tallied x first 0 (replicate 64 0)
unfolding selectors_from
tally-none x first = record { room = refl; counts = λ r l. get_or-replicate 64 r 0 0 l }

module _ {x : List ℕ} {first s : ℕ} {seen : List ℕ} (c : Tallied x first s seen) where
  pub tally-low : (r : ℕ) → r < 64 → get_or seen r 0 ≤ s
  tally-low r l = let a = selectors-low x first r s in let b = c.counts r l in omega arith

  pub tally-more : {v r : ℕ} → v ≡ get_or x (first + s) 0 → r ≡ v % 64 → Tallied x first (s + 1) (set seen r (get_or seen r 0 + 1))
  tally-more {v} {r} e f =
      let low : r < 64 = omega arith in
      let room = c.room in
      let hit : run_in (get_or x (first + s) 0) ≡ r = ap (λ (k : ℕ). k % 64) (sym e) ∙ sym f in
      record {
        room = simp length-set room;
        counts = λ i l.
            cases (eqb r i)
            (λ y.
            let z : r ≡ i = eqb-true r i y in
            let one : eqb (run_in (get_or x (first + s) 0)) i ≡ true = eq-eqb _ i (hit ∙ z) in
            ap (λ (j : ℕ). get_or (set seen r (get_or seen r 0 + 1)) j 0) (sym z)
            ∙ get_or-set_same seen r (get_or seen r 0 + 1) 0 (omega arith)
            ∙ ap (λ (n : ℕ). n + 1) (ap (λ (j : ℕ). get_or seen j 0) z ∙ c.counts i l)
            ∙ sym (selectors-step x first i s ∙ rw one))
            (λ n.
            let none : eqb (run_in (get_or x (first + s) 0)) i ≡ false = ne_eqb _ i (λ z. eqb-false r i n (sym hit ∙ z)) in
            get_or-set_other seen r i (get_or seen r 0 + 1) 0 (λ z. eqb-false r i n (sym z))
            ∙ c.counts i l
            ∙ sym (selectors-step x first i s ∙ rw none (add-zero (selectors_from x first i s))));
      }

-- the places that a cursor must have, by a tally, for the segment that starts at a byte
unfoldable pub wanted_at : ℕ → List ℕ → ℕ → List ℕ → List ℕ
wanted_at h x at seen = listed 63 0 (λ r. cond (ltb r h) (offset_from x at r + get_or seen r 0) 0)

wanted-get : (h : ℕ) (x : List ℕ) (at : ℕ) (seen : List ℕ) (r : ℕ) → r < 63 → get_or (wanted_at h x at seen) r 0 ≡ cond (ltb r h) (offset_from x at r + get_or seen r 0) 0
unfolding wanted_at
wanted-get h x at seen r l = rw (get_or-listed 63 0 (λ i. cond (ltb i h) (offset_from x at i + get_or seen i 0) 0) r 0 l, zero-add)

pub wanted-run : (h : ℕ) (x : List ℕ) (at : ℕ) (seen : List ℕ) {r a b : ℕ} → h ≤ 63 → r < h → a ≡ offset_from x at r → b ≡ get_or seen r 0
    → a + b ≡ get_or (wanted_at h x at seen) r 0
wanted-run h x at seen {r} m l e f = sym (wanted-get h x at seen r (omega arith) ∙ rw (lt-ltb r h l) (sym (ap₂ (λ (a b : ℕ). a + b) e f)))

-- the places of runs that the tray has not are 0
wanted-past : (h : ℕ) (x : List ℕ) (at : ℕ) (seen : List ℕ) (r : ℕ) → h ≤ r → r < 63 → get_or (wanted_at h x at seen) r 0 ≡ 0
wanted-past h x at seen r m l = wanted-get h x at seen r l ∙ rw (le-ltb r h m)

-- they are those of docs/RULES.md, "Cursor"
module _ {h : ℕ} {x : List ℕ} {d n : ℕ} (p : Laid x h d n) (g : ℕ) {at first : ℕ} (a : at ≡ segment_at h d g) (f : first ≡ at + 8 + 2 * h) where
  tallies : (r k : ℕ) → selectors_from x first r k ≡ selectors_of h x g r k
  unfolding selectors_from selectors_of head_size
  tallies r zero = refl
  tallies r (suc k) =
      let z : first + k ≡ at + (8 + 2 * h) + k = omega arith in
      ap₂ (λ (m i : ℕ). m + cond (eqb (run_in (get_or x i 0)) r) 1 0) (tallies r k)
      (z ∙ ap (λ (i : ℕ). i + (8 + 2 * h) + k) (a ∙ ap (λ (j : ℕ). segment_at h j g) p.size))

  pub wanted-is : {s : ℕ} {seen : List ℕ} → h ≤ 63 → Tallied x first s seen → wanted_at h x at seen ≡ places_at h x g s
  unfolding wanted_at places_at
  wanted-is {s} {seen} m c =
      listed_same 63 0 0 _ _ (λ r l.
      rw zero-add
      (cases (ltb r h)
      (λ y.
      let b : r < h = ltb-true r h y in
      rw y
      (ap₂ (λ (u w : ℕ). u + w) (ap (λ (i : ℕ). offset_from x i r) (a ∙ ap (λ (j : ℕ). segment_at h j g) p.size))
      (c.counts r (omega arith) ∙ tallies r s)))
      (λ n. rw n)))

-- the first k numbers of two lists, where those from h on are the same,
same_rest : (xs ys : List ℕ) (h k : ℕ) → ((r : ℕ) → h ≤ r → r < h + k → get_or xs r 0 ≡ get_or ys r 0) → same_to xs ys (h + k) ≡ same_to xs ys h
same_rest xs ys h zero all = rw add-zero
same_rest xs ys h (suc k) all =
    same_next xs ys (omega arith) (omega arith) (all (h + k) (omega arith) (omega arith)) ∙ same_rest xs ys h k (λ r l m. all r l (omega arith))

-- and where one of them is not
pub same-off : (xs ys : List ℕ) (k i : ℕ) → i < k → (get_or xs i 0 ≡ get_or ys i 0 → ⊥) → same_to xs ys k ≡ false
unfolding same_to
same-off xs ys zero i l off = absurd (omega arith)
same-off xs ys (suc k) i l off =
    order i k
    (λ b. rw (same-off xs ys k i b off) (and-false (eqb (get_or xs k 0) (get_or ys k 0))))
    (λ z. rw (ne_eqb (get_or xs k 0) (get_or ys k 0) (λ e. off (ap (λ (j : ℕ). get_or xs j 0) z ∙ e ∙ ap (λ (j : ℕ). get_or ys j 0) (sym z)))))
    (λ a. absurd (omega arith))
  where
    and-false : (b : Bool) → (b && false) ≡ false
    and-false true = refl
    and-false false = refl

-- one of them is not
none-some : (k : ℕ) (ps : List ℕ) (r : ℕ) → none_for k ps r ≡ false → (i : ℕ) × (r ≤ i) × (i < r + k) × (get_or ps i 0 ≡ 0 → ⊥)
unfolding none_for
none-some zero ps r off = never (cc)
none-some (suc k) ps r off =
    cases (eqb (get_or ps r 0) 0)
    (λ y.
    let s = none-some k ps (r + 1) (rw y at off) in
    (s.0, omega (arith, s.1), omega (arith, s.2), s.3))
    (λ n. (r, omega arith, omega arith, eqb-false (get_or ps r 0) 0 n))

-- whether the places of a cursor are those of a list that is 0 from h on
module _ (ps qs : List ℕ) (h : ℕ) (few : h ≤ 63) (none : (r : ℕ) → h ≤ r → r < 63 → get_or qs r 0 ≡ 0) {b : Bool} (told : b ≡ none_for (63 - h) ps h) where
  all_of : h + (63 - h) ≡ 63
  all_of = omega arith

  pub none-same : b ≡ true → same_to ps qs h ≡ same_places ps qs
  unfolding same_places
  none-same y =
      sym
      (ap (same_to ps qs) (sym all_of)
      ∙ same_rest ps qs h (63 - h) (λ r l m. none-all (63 - h) ps h (sym told ∙ y) r l m ∙ sym (none r l (omega arith))))

  pub none-off : b ≡ false → false ≡ same_places ps qs
  unfolding same_places
  none-off n =
      let s = none-some (63 - h) ps h (sym told ∙ n) in
      let low : s.0 < 63 = omega (arith, s.2) in
      sym (same-off ps qs 63 s.0 low (λ e. s.3 (e ∙ none s.0 s.1 low)))

-- numbers that differ among the first h differ among more
same-far : (xs ys : List ℕ) (h k : ℕ) → same_to xs ys h ≡ false → same_to xs ys (h + k) ≡ false
unfolding same_to
same-far xs ys h zero e = rw add-zero e
same-far xs ys h (suc k) e = rw (add-suc, same-far xs ys h k e) (and-off (eqb (get_or xs (h + k) 0) (get_or ys (h + k) 0)))
  where
    and-off : (b : Bool) → (b && false) ≡ false
    and-off true = refl
    and-off false = refl

-- a cursor stands at a selector of a segment
module _ {h : ℕ} {x : List ℕ} {d m : ℕ} (p : Laid x h d m) (few : h ≤ 63) (ps : List ℕ) (g s : ℕ) {at first : ℕ} {seen : List ℕ} {b : Bool} (a : at ≡ segment_at h d g)
    (f : first ≡ at + 8 + 2 * h) (c : Tallied x first s seen) (told : b ≡ same_to ps (wanted_at h x at seen) h) where
  past : (r : ℕ) → h ≤ r → r < 63 → get_or (places_at h x g s) r 0 ≡ 0
  unfolding places_at
  past r l k =
      get_or-listed 63 0 (λ i. cond (ltb i h) (offset_from x (segment_at h (size_of x) g) i + selectors_of h x g i s) 0) r 0 k
      ∙ rw (zero-add, le-ltb r h l)

  held : b ≡ same_to ps (places_at h x g s) h
  held = told ∙ ap (λ (qs : List ℕ). same_to ps qs h) (wanted-is p g a f few c)

  -- where the tray's runs hold, the others decide,
  pub stands-told : {r : Bool} {e : ℕ} → b ≡ true → e ≡ h → r ≡ none_for (63 - e) ps e → r ≡ same_places ps (places_at h x g s)
  stands-told {r} y runs others =
      cases r
      (λ z. z ∙ sym (sym held ∙ y) ∙ none-same ps (places_at h x g s) h few past all z)
      (λ z. z ∙ none-off ps (places_at h x g s) h few past all z)
    where
      all : r ≡ none_for (63 - h) ps h
      all = others ∙ ap (λ (i : ℕ). none_for (63 - i) ps i) runs

  -- and else nothing does
  pub stands-off : b ≡ false → false ≡ same_places ps (places_at h x g s)
  unfolding same_places
  stands-off n =
      let z : h + (63 - h) ≡ 63 = omega arith in
      sym (ap (same_to ps (places_at h x g s)) (sym z) ∙ same-far ps (places_at h x g s) h (63 - h) (sym held ∙ n))

-- a cursor belongs
module _ {h : ℕ} {x : List ℕ} {d n : ℕ} (p : Laid x h d n) (c : Spot) where
  module _ (inside : c.segment < n) where
    count : n ≡ segment_count x
    count = p.count

    size : d ≡ size_of x
    size = p.size

    not_end : eqb c.segment (segment_count x) ≡ false
    not_end = let k = count in ne_eqb c.segment (segment_count x) (λ z. omega arith)

    in-index : ltb c.segment (segment_count x) ≡ true
    in-index = let k = count in lt-ltb c.segment (segment_count x) (omega arith)

    pub belongs-there : {b : Bool} → c.selector < d → b ≡ same_places c.places (places_at h x c.segment c.selector) → b ≡ belongs h x c
    unfolding belongs
    belongs-there l e = let k = size in e ∙ sym (rw (not_end, in-index, lt-ltb c.selector (size_of x) (omega arith)))

    pub belongs-past : d ≤ c.selector → false ≡ belongs h x c
    unfolding belongs
    belongs-past l = let k = size in sym (rw (not_end, in-index, le-ltb c.selector (size_of x) (omega arith)))

  off-index : n ≤ c.segment → ltb c.segment (segment_count x) ≡ false
  off-index l = let k = p.count in le-ltb c.segment (segment_count x) (omega arith)

  pub belongs-beyond : n < c.segment → false ≡ belongs h x c
  unfolding belongs
  belongs-beyond l = let k = p.count in sym (rw (off-index (omega arith), ne_eqb c.segment (segment_count x) (λ z. omega arith)))

  module _ (there : c.segment ≡ n) where
    at-end : eqb c.segment (segment_count x) ≡ true
    at-end = eq-eqb c.segment (segment_count x) (there ∙ p.count)

    off-end : ltb c.segment (segment_count x) ≡ false
    off-end = off-index (omega arith)

    pub belongs-inner : (c.selector ≡ 0 → ⊥) → false ≡ belongs h x c
    unfolding belongs
    belongs-inner off = sym (rw (off-end, at-end, ne_eqb c.selector 0 off))

    pub belongs-end : {b : Bool} → c.selector ≡ 0 → b ≡ none_for 63 c.places 0 → b ≡ belongs h x c
    unfolding belongs same_to
    belongs-end {b} z e =
        cases b
        (λ y. y ∙ none-same c.places (replicate 63 0) 0 (omega arith) zeros e y ∙ whole)
        (λ n. n ∙ none-off c.places (replicate 63 0) 0 (omega arith) zeros e n ∙ whole)
      where
        zeros : (r : ℕ) → 0 ≤ r → r < 63 → get_or {A = ℕ} (replicate 63 0) r 0 ≡ 0
        zeros r a l = get_or-replicate 63 r 0 0 l

        or_off : (b : Bool) → (b || false) ≡ b
        or_off true = refl
        or_off false = refl

        whole : same_places c.places (replicate 63 0) ≡ belongs h x c
        whole = sym (rw (off-end, at-end, eq-eqb c.selector 0 z) (or_off (same_places c.places (replicate 63 0))))
