-- Cursors in and out of their 66 numbers, as the code moves them.
--     PlacesIn, InSoFar, in-none, in-more, in_all        the places read from the numbers
--     narrow_cursor, cursor-in                            the cursor read: a selector above 255 is as good as 255
--     PutPlaces, OutSoFar, out_none, out-more, out-all   the places written among the numbers
--     cursor-out, put_all                                the cursor written
use Rattle.std.specs.Prelude.{◌≡◌, refl, ℕ, zero, suc, ◌+◌, ◌*◌, ◌/◌, ◌%◌, ◌≤◌, ◌<◌, List, [], ◌∷◌, map, length, get_or, set, drop, replicate}
use Rattle.std.proofs.Common.{sym, ap, ◌∙◌, arith, zero-add, suc-add, length-set, length-drop, ext_get_or, get_or-set_same, get_or-set_other}
use Rattle.std.proofs.lemmas.List.{length-map}
use Rattle.std.proofs.Math.ListN.{get_or-map}
use Rattle.theory.specs.Tests.{order}
use Rattle.tray.specs.declared.Place.{Place}
use Rattle.walk.specs.declared.cursor.Cursor.{Cursor}
use Rattle.walk.specs.Code.{placed, numbers, get_or-numbers, length-numbers}
use Rattle.answers.specs.Quick.{cursor_of}
use Rattle.theorems.specs.Cursors.{spot_in, cursor_in, cursor_numbers}
use Rattle.theorems.specs.Wide.{narrowed}

-- the first i places are read
pub record InSoFar (ns : List ℕ) (ps : List Place) (i : ℕ) : Type 0 where
  pub most : i ≤ 63
  pub long : length ps ≡ 63
  pub are : (j : ℕ) → j < i → (get_or ps j (placed 0)).0 ≡ get_or ns (j + 3) 0

-- all are
abbrev pub PlacesIn : List ℕ → List Place → Type 0
PlacesIn ns ps = InSoFar ns ps 63

pub in-none : (ns : List ℕ) → InSoFar ns (replicate 63 (placed 0)) 0
in-none ns = record { most = omega arith; long = refl; are = λ j l. absurd (omega arith) }

pub in-more : {ns : List ℕ} {ps : List Place} {i : ℕ} → InSoFar ns ps i → i < 63 → InSoFar ns (set ps i (placed (get_or ns (i + 3) 0))) (i + 1)
in-more {ns} {ps} {i} s l =
    let room : length ps ≡ 63 = s.long in
    record {
      most = omega arith;
      long = simp length-set room;
      are = λ j k.
          order i j
          (λ m. absurd (omega arith))
          (λ z. ap (λ (n : ℕ). (get_or (set ps i (placed (get_or ns (i + 3) 0))) n (placed 0)).0) (sym z)
          ∙ ap (λ (p : Place). p.0) (get_or-set_same ps i (placed (get_or ns (i + 3) 0)) (placed 0) (omega arith))
          ∙ ap (λ (n : ℕ). get_or ns (n + 3) 0) z)
          (λ m. ap (λ (p : Place). p.0) (get_or-set_other ps i j (placed (get_or ns (i + 3) 0)) (placed 0) (λ z. omega arith)) ∙ s.are j (omega arith));
    }

pub in_all : {ns : List ℕ} {ps : List Place} {i : ℕ} → InSoFar ns ps i → 63 ≤ i → PlacesIn ns ps
in_all {i = i} s l = let m : i ≤ 63 = s.most in record { most = omega arith; long = s.long; are = λ j k. s.are j (omega arith) }

-- a number after the first three
get_or-drop3 : (ns : List ℕ) (j : ℕ) → get_or (drop 3 ns) j 0 ≡ get_or ns (j + 3) 0
get_or-drop3 ns j = get_d_drop 3 ns j ∙ ap (λ (i : ℕ). get_or ns i 0) (omega arith)
  where
    get_d_drop : (k : ℕ) (l : List ℕ) (i : ℕ) → get_or (drop k l) i 0 ≡ get_or l (k + i) 0
    get_d_drop zero l i = ap (λ (m : ℕ). get_or l m 0) (sym (zero-add i))
    get_d_drop (suc k) [] i = refl
    get_d_drop (suc k) (x ∷ l) i = get_d_drop k l i ∙ ap (λ (m : ℕ). get_or (x ∷ l) m 0) (sym (suc-add k i))

-- a selector that the code can hold
unfoldable pub narrow_cursor : Cursor → Cursor
narrow_cursor c = record { segment = c.segment; selector = narrowed c.selector; places = c.places }

-- places that are read are those of the cursor,
pub places-in : {ns : List ℕ} {ps : List Place} → length ns ≡ 66 → PlacesIn ns ps → ps ≡ map (λ (n : ℕ). record { 0 = n }) (drop 3 ns)
places-in {ns} {ps} long s =
    ext_get_or (placed 0) ps (map (λ (n : ℕ). placed n) (drop 3 ns))
    (let a = s.long in let b = length-map (drop 3 ns) (λ (n : ℕ). placed n) in let c = length-drop 3 ns in omega arith)
    (λ i l.
    let a = s.long in
    ap placed (s.are i (omega arith) ∙ sym (get_or-drop3 ns i)) ∙ sym (get_or-map (λ (n : ℕ). placed n) (drop 3 ns) i 0))

-- and so the cursor is
pub cursor-in : {ns : List ℕ} {ps : List Place} {high low sel : ℕ} → length ns ≡ 66 → high ≡ get_or ns 0 0 → low ≡ get_or ns 1 0 → sel ≡ narrowed (get_or ns 2 0) → PlacesIn ns ps
    → ◌≡◌ {A = Cursor} (record { segment = record { 0 = high * 65536 + low }; selector = sel; places = ps }) (narrow_cursor (cursor_in ns))
unfolding narrow_cursor cursor_in cursor_of spot_in
cursor-in {ns} {ps} long h l e s =
    rw (h, l, e, places-in long s)

-- the first i places are written
pub record OutSoFar (ps : List Place) (ns : List ℕ) (i : ℕ) : Type 0 where
  pub most : i ≤ 63
  pub long : length ns ≡ 66
  pub are : (j : ℕ) → j < i → get_or ns (j + 3) 0 ≡ (get_or ps j (placed 0)).0

-- all are
abbrev pub PutPlaces : List Place → List ℕ → Type 0
PutPlaces ps ns = OutSoFar ps ns 63

pub out_none : (ps : List Place) {ns : List ℕ} → length ns ≡ 66 → OutSoFar ps ns 0
out_none ps l = record { most = omega arith; long = l; are = λ j k. absurd (omega arith) }

pub out-more : {ps : List Place} {ns : List ℕ} {i v : ℕ} → OutSoFar ps ns i → i < 63 → v ≡ (get_or ps i (placed 0)).0 → OutSoFar ps (set ns (i + 3) v) (i + 1)
out-more {ps} {ns} {i} {v} s l e =
    let room : length ns ≡ 66 = s.long in
    record {
      most = omega arith;
      long = simp length-set room;
      are = λ j k.
          order i j
          (λ m. absurd (omega arith))
          (λ z. ap (λ (n : ℕ). get_or (set ns (i + 3) v) (n + 3) 0) (sym z)
          ∙ get_or-set_same ns (i + 3) v 0 (omega arith)
          ∙ e
          ∙ ap (λ (n : ℕ). (get_or ps n (placed 0)).0) z)
          (λ m. get_or-set_other ns (i + 3) (j + 3) v 0 (λ z. omega arith) ∙ s.are j (omega arith));
    }

pub out-all : {ps : List Place} {ns : List ℕ} {i : ℕ} → OutSoFar ps ns i → 63 ≤ i → PutPlaces ps ns
out-all {i = i} s l = let m : i ≤ 63 = s.most in record { most = omega arith; long = s.long; are = λ j k. s.are j (omega arith) }

-- and with the first three numbers it is the cursor
pub cursor-out : (ps : List Place) (ns : List ℕ) {a b s : ℕ} → length ps ≡ 63 → PutPlaces ps ns → set (set (set ns 0 a) 1 b) 2 s ≡ a ∷ b ∷ s ∷ numbers ps
cursor-out ps [] long p = let l : ◌≡◌ {A = ℕ} 0 66 = p.long in absurd (omega arith)
cursor-out ps (x ∷ []) long p = let l : ◌≡◌ {A = ℕ} 1 66 = p.long in absurd (omega arith)
cursor-out ps (x ∷ y ∷ []) long p = let l : ◌≡◌ {A = ℕ} 2 66 = p.long in absurd (omega arith)
cursor-out ps (x ∷ y ∷ z ∷ rest) {a} {b} {s} long p =
    let whole : suc (suc (suc (length rest))) ≡ 66 = p.long in
    let k = length-numbers ps in
    ap (λ (l : List ℕ). a ∷ b ∷ s ∷ l)
    (ext_get_or 0 rest (numbers ps) (omega arith) (λ i l. sym (behind i) ∙ p.are i (omega arith) ∙ sym (get_or-numbers ps i)))
  where
    behind : (i : ℕ) → get_or (x ∷ y ∷ z ∷ rest) (i + 3) 0 ≡ get_or rest i 0
    behind i = let e : i + 3 ≡ suc (suc (suc i)) = omega arith in ap (λ (n : ℕ). get_or (x ∷ y ∷ z ∷ rest) n 0) e

pub put_all : (c : Cursor) (ns : List ℕ) {s : ℕ} → length c.places ≡ 63 → PutPlaces c.places ns → s ≡ c.selector
    → set (set (set ns 0 (c.segment.0 / 65536)) 1 (c.segment.0 % 65536)) 2 s ≡ cursor_numbers c
unfolding cursor_numbers
put_all c ns long p e = cursor-out c.places ns long p ∙ ap (λ (s : ℕ). c.segment.0 / 65536 ∷ c.segment.0 % 65536 ∷ s ∷ numbers c.places) e
