-- Laws of lists that rise. Those of what is kept of a list or put into one are in `Kept.antt` and `Inserted.antt`.
--     same-members                                two rising lists with the same members are equal
--     rises-append, rises-across, rises-left, rises-right    rising lists end to end
--     rises-before, rises-places                  what is lower than a member stands before it; of two places the later is higher
--     rises_by, rises-map                         rising by another number, and of what the members are taken to
--     NumberOf, rises-length                      a list with no number that the other has not is not longer
use Rattle.std.specs.Prelude.{◌≡◌, refl, ◌⊎◌, ℕ, zero, suc, ◌<◌, ◌≤◌, false, List, [], ◌∷◌, ◌++◌, map, length, eqb}
use Rattle.std.proofs.Common.{sym, ap, ◌∙◌, inl, inr, ⊎_elim, zero-le, suc-le-suc, arith, eqb-true}
use Rattle.std.proofs.Math.Option.{some, some-injective}
use mathlib.Core.List.Memᴰ
use Rattle.std.proofs.Math.ListN.{get_elem?}
use Rattle.std.proofs.lemmas.Bool.{eqb-false}
use Rattle.theory.specs.Tests.{cases}
use Rattle.theory.specs.Lists.{here, all_nil, all_cons, all_tail, none-some, place-mem}
use Rattle.theory.specs.Rising.{Mem, All, Rises, none, more}

module _ {A : Type 0} (f : A → ℕ) where
  -- two rising lists with the same members are equal
  pub same-members : {xs ys : List A} → Rises f xs → Rises f ys → All (λ a. Mem a ys) xs → All (λ a. Mem a xs) ys → xs ≡ ys
  same-members none none to from = refl
  same-members none (more {a = b} {xs = ys} h r) to from = absurd (Memᴰ.not-nil (from b here))
  same-members (more {a} {xs} h r) none to from = absurd (Memᴰ.not-nil (to a here))
  same-members (more {a} {xs} h r) (more {a = b} {xs = ys} k s) to from =
      let e : a ≡ b = first (Memᴰ.cases_cons (to a here)) (Memᴰ.cases_cons (from b here)) in
      let below : (c : A) → f a < f c → c ≡ b → ⊥ = λ c l q. (let z : f c ≡ f a = ap f (q ∙ sym e) in omega arith) in
      let above : (c : A) → f b < f c → c ≡ a → ⊥ = λ c l q. (let z : f c ≡ f b = ap f (q ∙ e) in omega arith) in
      let rest-is : xs ≡ ys = same-members r s
      (λ c m. ⊎_elim (λ q. absurd (below c (h c m) q)) (λ w. w) (Memᴰ.cases_cons (to c (Memᴰ.tail m))))
      (λ c m. ⊎_elim (λ q. absurd (above c (k c m) q)) (λ w. w) (Memᴰ.cases_cons (from c (Memᴰ.tail m)))) in
      cc
    where
      first : (a ≡ b) ⊎ Mem a ys → (b ≡ a) ⊎ Mem b xs → a ≡ b
      first (inl e) q = e
      first (inr m) (inl e) = sym e
      first (inr m) (inr n) = let p : f b < f a = k a m in let q : f a < f b = h b n in absurd (omega arith)

  -- rising lists end to end, where every member of the first is below every member of the second
  pub rises-append : {xs ys : List A} → Rises f xs → Rises f ys → All (λ a. All (λ b. f a < f b) ys) xs → Rises f (xs ++ ys)
  rises-append none s across = s
  rises-append (more {a} {xs} h r) s across =
      more (λ c m. ⊎_elim (λ n. h c n) (λ n. across a here c n) (Memᴰ.append_cases xs m))
      (rises-append r s (all_tail across))

  -- and back
  pub rises-across : (xs ys : List A) → Rises f (xs ++ ys) → All (λ a. All (λ b. f a < f b) ys) xs
  rises-across [] ys r = all_nil _
  rises-across (c ∷ xs) ys (more h r) = all_cons (λ b n. h b (Memᴰ.append_right xs n)) (rises-across xs ys r)

  pub rises-left : (xs ys : List A) → Rises f (xs ++ ys) → Rises f xs
  rises-left [] ys r = none
  rises-left (a ∷ xs) ys (more h r) = more (λ c m. h c (Memᴰ.append_left ys m)) (rises-left xs ys r)

  pub rises-right : (xs ys : List A) → Rises f (xs ++ ys) → Rises f ys
  rises-right [] ys r = r
  rises-right (a ∷ xs) ys (more h r) = rises-right xs ys r

  -- what is lower than a member stands before it
  pub rises-before : (bs : List A) {c x : A} (ws : List A)
      → Rises f (bs ++ (c ∷ ws)) → Mem x (bs ++ (c ∷ ws)) → f x < f c → Mem x bs
  rises-before [] {c} {x} ws (more h r) m l =
      absurd
      (⊎_elim (λ e. let z : f x ≡ f c = ap f e in omega arith) (λ n. let z : f c < f x = h x n in omega arith)
      (Memᴰ.cases_cons m))
  rises-before (b ∷ bs) ws (more h r) m l =
      ⊎_elim (λ e. Memᴰ.head e) (λ n. Memᴰ.tail (rises-before bs ws r n l)) (Memᴰ.cases_cons m)

  -- of two places the later has the higher number
  pub rises-places : {xs : List A} → Rises f xs
      → (i j : ℕ) {a b : A} → get_elem? xs i ≡ some a → get_elem? xs j ≡ some b → i < j → f a < f b
  rises-places none i j p q l = none-some p
  rises-places (more {a = c} {xs} h r) i zero p q l = absurd (omega arith)
  rises-places (more {a = c} {xs} h r) zero (suc j) {a} {b} p q l =
      let low : f c ≡ f a = ap f (some-injective c a p) in let up : f c < f b = h b (place-mem xs j q) in omega arith
  rises-places (more {a = c} {xs} h r) (suc i) (suc j) p q l = rises-places r i j p q (omega arith)

  -- a list that rises by f rises by g, where g follows f among its members
  pub rises_by : (g : A → ℕ) {xs : List A} → Rises f xs
      → ((a b : A) → Mem a xs → Mem b xs → f a < f b → g a < g b) → Rises g xs
  rises_by g none follows = none
  rises_by g (more {a} {xs} h r) follows =
      more (λ b m. follows a b here (Memᴰ.tail m) (h b m))
      (rises_by g r (λ b c m n. follows b c (Memᴰ.tail m) (Memᴰ.tail n)))

  -- n is the number of a member
  abbrev pub NumberOf : List A → ℕ → Type 0
  NumberOf ys n = (b : A) × Mem b ys × (f b ≡ n)

  -- a number above the first member's is a later member's
  later : {b : A} (ys : List A) (n : ℕ) → f b < n → NumberOf (b ∷ ys) n → NumberOf ys n
  later ys n l w =
      ⊎_elim (λ e. absurd (omega (arith, ap f e, w.2))) (λ m. (w.0, m, w.2)) (Memᴰ.cases_cons w.1)

  -- no number is below the first member's
  first-least : {b : A} {ys : List A} {n : ℕ} → All (λ c. f b < f c) ys → NumberOf (b ∷ ys) n → f b ≤ n
  first-least k w =
      ⊎_elim (λ e. omega (arith, ap f e, w.2)) (λ m. omega (arith, k w.0 m, w.2)) (Memᴰ.cases_cons w.1)

  -- where every number of the first list is one of the second, the first is not longer
  pub rises-length : {xs ys : List A} → Rises f xs → Rises f ys → All (λ a. NumberOf ys (f a)) xs → length xs ≤ length ys
  rises-length none s to = zero-le
  rises-length (more {a} h r) none to = absurd (Memᴰ.not-nil (to a here).1)
  rises-length (more {a} {xs} h r) (more {a = b} {xs = ys} k s) to =
      cases (eqb (f a) (f b))
      (λ t. suc-le-suc (rises-length r s
      (λ c m. later ys (f c) (omega (arith, eqb-true (f a) (f b) t, h c m)) (to c (Memᴰ.tail m)))))
      (λ n. let z : length (a ∷ xs) ≤ length ys =
      rises-length (more h r) s (λ c m. later ys (f c) (above n c m) (to c m)) in omega arith)
    where
      above : eqb (f a) (f b) ≡ false → (c : A) → Mem c (a ∷ xs) → f b < f c
      above n c m =
          let l : f b < f a = omega (arith, eqb-false (f a) (f b) n, first-least k (to a here)) in
          ⊎_elim (λ e. omega (arith, ap f e)) (λ w. omega (arith, h c w)) (Memᴰ.cases_cons m)

-- where what the members are taken to rises, the list of that rises
pub rises-map : {A B : Type 0} (f : B → ℕ) (g : A → B) {xs : List A} → Rises (λ a. f (g a)) xs → Rises f (map g xs)
rises-map f g none = none
rises-map f g (more {a} {xs} h r) =
    more {a = g a} (λ b m. let w = Memᴰ.of_map g xs m in rw (← w.2) (h w.0 w.1)) (rises-map f g r)
