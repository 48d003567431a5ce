-- One step of a merge of runs, on lists: where m is the least key left, each run with a record of that key at its front gives it up, and the
-- merge gives up the one of the lowest-numbered run.
--     Above, Turn                the records are above a key; a run before and after the step, with what it gave up
--     over-turn, merged-turn     the step of two runs made one, and of all
--     turn-some                  what was given up stood in front
--     from_all, from-drop        the records from a key on
--     given, turn-from           what a run gives up of the least key, and the step of that run
--     first_of, first_of-is        the first of several that there is
--     merged-nils                the merge of empty runs
use Rattle.std.specs.Prelude.{◌≡◌, refl, ℕ, zero, suc, ◌+◌, ◌≤◌, ◌<◌, Bool, true, false, cond, not, List, [], ◌∷◌, eqb, ltb}
use Rattle.std.proofs.Common.{sym, ap, ◌∙◌, ⊎_elim, eq-or-lt_of_le, arith, lt-ltb, le-ltb, le-leb, eq-eqb, ne_eqb, eqb-true}
use Rattle.std.proofs.Math.Option.{Option, none, some, some-injective}
use Rattle.std.proofs.lemmas.Bool.{lt-leb, eqb-false}
use Rattle.theory.specs.Tests.{cases, order}
use Rattle.theory.specs.Lists.{here, all_cons, all_tail, all_nil, none-some}
use Rattle.theory.specs.Rising.{All, Rises, any, keep, insert, insert_all}
use Rattle.theory.specs.Rising
use Rattle.theory.proofs.Rising.Kept.{keep-mem, keep_all}
use Rattle.theory.proofs.Rising.Inserted.{insert_all-mem}
use Rattle.theory.specs.Records.{Record}
use Rattle.theory.specs.Hiding.{same_key}
use Rattle.theory.specs.Listed.{listed}
use Rattle.theory.specs.Merge.{hidden, over, merged}
use Rattle.theory.proofs.Merge.Hidden.{hidden-none, hidden-some}
use Rattle.theory.proofs.Merge.Laws.{over-mem, over-nil-left}
use Rattle.index.specs.Rules.{key_of}
use Rattle.fold_merge.specs.Folding.{from_key}

-- all of these records are above a key
abbrev pub Above : ℕ → List Record → Type 0
Above m xs = All (λ e. m < key_of e) xs

-- a run before and after: the record of key m is taken from its front, if it is there, and what is left is above m
pub data Turn (m : ℕ) : Option Record → List Record → List Record → Type 0 where
  took : {x : Record} {xs : List Record} → key_of x ≡ m → Above m xs → Turn m (some x) (x ∷ xs) xs
  past : {xs : List Record} → Above m xs → Turn m none xs xs

pub turn-some : {m : ℕ} {o : Option Record} {x : Record} {xs ys : List Record} → Turn m o xs ys → o ≡ some x → xs ≡ x ∷ ys
turn-some (took {x} {xs} e a) q = ap (λ z. z ∷ xs) (some-injective _ _ q)
turn-some (past a) q = none-some q

-- all records are from m on
pub from_all : (m : ℕ) (xs : List Record) → All (λ e. m ≤ key_of e) xs → from_key m xs ≡ xs
unfolding from_key
from_all m xs h = keep_all _ xs (λ e i. le-leb m (key_of e) (h e i))

-- the first one is lower
pub from-drop : (m : ℕ) (x : Record) (xs : List Record) → key_of x < m → from_key m (x ∷ xs) ≡ from_key m xs
unfolding from_key keep
from-drop m x xs l = rw (lt-leb m (key_of x) l)

pub from-nil : (m : ℕ) → from_key m [] ≡ []
unfolding from_key keep
from-nil m = refl

-- what a run gives up of key k
unfoldable pub given : ℕ → List Record → Option Record
given k [] = none
given k (x ∷ xs) = cond (eqb (key_of x) k) (some x) none

-- a run that rises from the least key on
pub turn-from : {m k : ℕ} {xs : List Record} → m ≤ k → Rises key_of xs → All (λ e. k ≤ key_of e) xs → Turn k (given k xs) (from_key m xs) (from_key (suc k) xs)
unfolding given
turn-from {m} {k} l Rising.none low = rw (from-nil m, from-nil (suc k)) (past (all_nil _))
turn-from {m} {k} l (Rising.more {a = x} {xs} above r) low =
    rw (from_all m (x ∷ xs) (λ e i. let z : k ≤ key_of e = low e i in omega arith))
    (cases (eqb (key_of x) k) (λ y. has (eqb-true _ _ y)) (λ n. hasn't (eqb-false _ _ n)))
  where
    has : key_of x ≡ k → Turn k (cond (eqb (key_of x) k) (some x) none) (x ∷ xs) (from_key (suc k) (x ∷ xs))
    has e =
        let higher : Above k xs = rw e at above in
        rw (eq-eqb (key_of x) k e, from-drop (suc k) x xs (omega arith), from_all (suc k) xs higher) (took e higher)

    hasn't : (key_of x ≡ k → ⊥) → Turn k (cond (eqb (key_of x) k) (some x) none) (x ∷ xs) (from_key (suc k) (x ∷ xs))
    hasn't d =
        let z : k ≤ key_of x = low x here in
        let first : k < key_of x = order k (key_of x) (λ u. u) (λ u. absurd (d (sym u))) (λ u. absurd (omega arith)) in
        let higher : Above k (x ∷ xs) = all_cons first (λ e i. let u : key_of x < key_of e = above e i in omega arith) in
        rw (ne_eqb (key_of x) k d, from_all (suc k) (x ∷ xs) higher) (past higher)

-- what is inserted into a list that begins lower goes after the first
insert_all-behind : (xs : List Record) (y : Record) (ys : List Record) → Above (key_of y) xs → insert_all key_of xs (y ∷ ys) ≡ y ∷ insert_all key_of xs ys
unfolding insert_all insert
insert_all-behind [] y ys a = refl
insert_all-behind (x ∷ xs) y ys a =
    let l : key_of y < key_of x = a x here in
    let low : ltb (key_of x) (key_of y) ≡ false = le-ltb (key_of x) (key_of y) (omega arith) in
    rw (insert_all-behind xs y ys (all_tail a), low)

-- and into one that is above it, in front
insert-front : (x : Record) (ys : List Record) → Above (key_of x) ys → insert key_of x ys ≡ x ∷ ys
unfolding insert
insert-front x [] a = refl
insert-front x (y ∷ ys) a = rw (lt-ltb (key_of x) (key_of y) (a y here))

-- tests that agree keep the same
keep_same : (p q : Record → Bool) (xs : List Record) → All (λ e. p e ≡ q e) xs → keep p xs ≡ keep q xs
unfolding keep
keep_same p q [] h = refl
keep_same p q (x ∷ xs) h = rw (h x here, keep_same p q xs (all_tail h))

-- a run whose records are above a record does not hide it
above-shows : (xs : List Record) (y : Record) → Above (key_of y) xs → hidden (same_key key_of) xs y ≡ false
above-shows xs y a = hidden-none (same_key key_of) xs (λ x m. let l : key_of y < key_of x = a x m in ne_eqb (key_of x) (key_of y) (λ q. omega arith))

above-over : {m : ℕ} (xs ys : List Record) → Above m xs → Above m ys → Above m (over key_of (same_key key_of) xs ys)
above-over xs ys a b e i = ⊎_elim (λ k. a e k) (λ k. b e k.0) (over-mem key_of (same_key key_of) xs ys i)

-- the older run's first record is lower than the newer run
over-behind : (xs : List Record) (y : Record) (ys : List Record) → Above (key_of y) xs
    → over key_of (same_key key_of) xs (y ∷ ys) ≡ y ∷ over key_of (same_key key_of) xs ys
unfolding over keep
over-behind xs y ys a =
    rw (above-shows xs y a) (insert_all-behind xs y (keep (λ b. not (hidden (same_key key_of) xs b)) ys) a)

-- a record that is lower than a run hides none of it
hides-less : (x : Record) (xs ys : List Record) → Above (key_of x) ys
    → All (λ e. not (hidden (same_key key_of) (x ∷ xs) e) ≡ not (hidden (same_key key_of) xs e)) ys
unfolding hidden any
hides-less x xs ys b e m = let l : key_of x < key_of e = b e m in rw (ne_eqb (key_of x) (key_of e) (λ q. omega arith))

-- the newer run's first record is lower than the older run
over-front : (x : Record) (xs ys : List Record) → Above (key_of x) xs → Above (key_of x) ys
    → over key_of (same_key key_of) (x ∷ xs) ys ≡ x ∷ over key_of (same_key key_of) xs ys
unfolding over insert_all
over-front x xs ys a b =
    rw (keep_same (λ e. not (hidden (same_key key_of) (x ∷ xs) e)) (λ e. not (hidden (same_key key_of) xs e)) ys (hides-less x xs ys b))
    (insert-front x (insert_all key_of xs (keep (λ e. not (hidden (same_key key_of) xs e)) ys))
    (λ e m. ⊎_elim (λ k. a e k) (λ k. b e (keep-mem _ ys k).0) (insert_all-mem key_of xs _ m)))

-- both first records have one key: the newer run's hides the older run's
over-same : (x y : Record) (xs ys : List Record) → key_of x ≡ key_of y
    → over key_of (same_key key_of) (x ∷ xs) (y ∷ ys) ≡ over key_of (same_key key_of) (x ∷ xs) ys
unfolding over keep
over-same x y xs ys e =
    let gone : hidden (same_key key_of) (x ∷ xs) y ≡ true = hidden-some (same_key key_of) (x ∷ xs) here (eq-eqb (key_of x) (key_of y) e) in
    rw gone

-- the first one that there is
unfoldable pub or_else : Option Record → Option Record → Option Record
or_else (some x) o = some x
or_else none o = o

pub over-turn : {m : ℕ} {o p : Option Record} {xs xs' ys ys' : List Record} → Turn m o xs xs' → Turn m p ys ys'
    → Turn m (or_else o p) (over key_of (same_key key_of) xs ys) (over key_of (same_key key_of) xs' ys')
unfolding or_else
over-turn {m} (took {x} {xs} e a) (took {x = y} {xs = ys} f b) =
    let above : Above (key_of x) xs = rw e a in let others : Above (key_of x) ys = rw e b in
    rw (over-same x y xs ys (e ∙ sym f), over-front x xs ys above others) (took e (above-over xs ys a b))
over-turn {m} (took {x} {xs} e a) (past {xs = ys} b) =
    let above : Above (key_of x) xs = rw e a in let others : Above (key_of x) ys = rw e b in
    rw (over-front x xs ys above others) (took e (above-over xs ys a b))
over-turn {m} (past {xs} a) (took {x = y} {xs = ys} f b) =
    let above : Above (key_of y) xs = rw f a in
    rw (over-behind xs y ys above) (took f (above-over xs ys a b))
over-turn (past {xs} a) (past {xs = ys} b) = past (above-over xs ys a b)

-- the first one that there is among n, from number i on
unfoldable pub first_of : ℕ → ℕ → (ℕ → Option Record) → Option Record
first_of zero i o = none
first_of (suc n) i o = or_else (o i) (first_of n (suc i) o)

pub first_of-is : (n i d : ℕ) (o : ℕ → Option Record) {x : Record} → i ≤ d → d < i + n → o d ≡ some x
    → ((r : ℕ) → i ≤ r → r < d → o r ≡ none) → first_of n i o ≡ some x
unfolding first_of or_else
first_of-is zero i d o l h is before = absurd (omega arith)
first_of-is (suc n) i d o {x} l h is before =
    ⊎_elim (λ e. let now : o i ≡ some x = ap o e ∙ is in rw now)
    (λ k. let skip : o i ≡ none = before i (omega arith) k in
    rw skip (first_of-is n (suc i) d o k (omega arith) is (λ r p q. before r (omega arith) q)))
    (eq-or-lt_of_le l)

pub merged-turn : {m : ℕ} (n i : ℕ) (o : ℕ → Option Record) (f g : ℕ → List Record)
    → ((r : ℕ) → i ≤ r → r < i + n → Turn m (o r) (f r) (g r))
    → Turn m (first_of n i o) (merged key_of (same_key key_of) (listed n i f)) (merged key_of (same_key key_of) (listed n i g))
unfolding first_of merged listed
merged-turn zero i o f g h = past (all_nil _)
merged-turn (suc n) i o f g h =
    over-turn (h i (omega arith) (omega arith)) (merged-turn n (suc i) o f g (λ r l u. h r (omega arith) (omega arith)))

pub merged-nils : (n i : ℕ) (f : ℕ → List Record) → ((r : ℕ) → i ≤ r → r < i + n → f r ≡ [])
    → merged key_of (same_key key_of) (listed n i f) ≡ []
unfolding merged listed
merged-nils zero i f h = refl
merged-nils (suc n) i f h =
    rw (h i (omega arith) (omega arith), over-nil-left) (merged-nils n (suc i) f (λ r l u. h r (omega arith) (omega arith)))
