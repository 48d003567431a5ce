-- How the merge begins: with the runs outside a to b at their ends, what is left is what the fold makes one. And how long a merge can be.
--     Begins, merge-begins       the places at the start
--     listed-parts               the runs a to b of several
--     merge-short                no merge of what is left has above 63 times 4,096 records
use Rattle.std.specs.Prelude.{◌≡◌, refl, ◌⊎◌, ℕ, zero, suc, ◌+◌, ◌-◌, ◌*◌, ◌≤◌, ◌<◌, not, List, [], ◌∷◌, ◌++◌, length, get_or, take, drop, ltb}
use Rattle.std.proofs.Common.{sym, ap, ◌∙◌, inl, inr, add-zero, zero-add, suc-add, add-suc, arith, append-nil, length-drop, take_at, drop_at}
use Rattle.theory.specs.Tests.{split}
use Rattle.theory.specs.Rising.{keep, insert, insert_all}
use Rattle.theory.proofs.Rising.Kept.{keep-length}
use Rattle.theory.specs.Records.{Record}
use Rattle.theory.specs.Hiding.{same_key}
use Rattle.theory.specs.Listed.{listed}
use Rattle.theory.proofs.Listed.Laws.{length-listed, listed_same}
use Rattle.theory.specs.Merge.{hidden, over, merged}
use Rattle.theory.proofs.Merge.Laws.{over-nil-left, merged-front}
use Rattle.tray.specs.Frame.{run_count, count_of, Framed}
use Rattle.tray.specs.Meaning.{runs_of}
use Rattle.tray.specs.Meaning.Laws.{run_in, length-run_of}
use Rattle.index.specs.Rules.{key_of}
use Rattle.fold_merge.specs.Folding.{merged_run, left_of, merge_left}
use Rattle.fold_merge.specs.Folding.Left.{left-none}
use Rattle.fold_merge.specs.Folding.Step.{merged-nils}

-- numbers in a row, in two parts
pub listed-append : {A : Type 0} (n k i : ℕ) (f : ℕ → A) → listed (n + k) i f ≡ listed n i f ++ listed k (i + n) f
unfolding listed
listed-append zero k i f = rw (zero-add, add-zero)
listed-append (suc n) k i f = rw (suc-add, listed-append n k (suc i) f, suc-add, add-suc)

-- the k from number a on, of h
pub listed-part : {A : Type 0} (h a k : ℕ) (f : ℕ → A) → a + k ≤ h → take k (drop a (listed h 0 f)) ≡ listed k a f
listed-part h a k f l =
    let whole : a + (k + (h - (a + k))) ≡ h = omega arith in
    let parts : listed h 0 f ≡ listed a 0 f ++ (listed k a f ++ listed (h - (a + k)) (a + k) f) =
    ap (λ (n : ℕ). listed n 0 f) (sym whole) ∙ listed-append a (k + (h - (a + k))) 0 f
    ∙ (rw zero-add (ap (λ xs. listed a 0 f ++ xs) (listed-append k (h - (a + k)) a f))) in
    rw (parts, drop_at (listed a 0 f) (listed k a f ++ listed (h - (a + k)) (a + k) f) a (length-listed a 0 f))
    (take_at (listed k a f) (listed (h - (a + k)) (a + k) f) k (length-listed k a f))

pub listed-drop : {A : Type 0} (h a : ℕ) (f : ℕ → A) → a ≤ h → drop a (listed h 0 f) ≡ listed (h - a) a f
listed-drop h a f l =
    let whole : a + (h - a) ≡ h = omega arith in
    let parts : listed h 0 f ≡ listed a 0 f ++ listed (h - a) a f =
    ap (λ (n : ℕ). listed n 0 f) (sym whole) ∙ listed-append a (h - a) 0 f ∙ (rw zero-add) in
    rw parts (drop_at (listed a 0 f) (listed (h - a) a f) a (length-listed a 0 f))

-- empty runs before others
merged-after-nils : (n i : ℕ) (f : ℕ → List Record) (rs : List (List Record)) → ((r : ℕ) → i ≤ r → r < i + n → f r ≡ [])
    → merged key_of (same_key key_of) (listed n i f ++ rs) ≡ merged key_of (same_key key_of) rs
unfolding merged listed
merged-after-nils zero i f rs h = refl
merged-after-nils (suc n) i f rs h =
    rw (h i (omega arith) (omega arith), over-nil-left) (merged-after-nils n (suc i) f rs (λ r l u. h r (omega arith) (omega arith)))

-- no runs
empty-merged : [] ≡ merged key_of (same_key key_of) []
unfolding merged
empty-merged = refl

-- none of the runs a to b has been read, and all of the others have
pub record Begins (t places : List ℕ) (a b : ℕ) : Type 0 where
  pub inside : (r : ℕ) → a ≤ r → r ≤ b → get_or places r 0 ≡ 0
  pub outside : (r : ℕ) → r < run_count t → (r < a) ⊎ (b < r) → count_of t r ≤ get_or places r 0

pub merge-begins : {t places : List ℕ} {a b : ℕ} → Begins t places a b → a ≤ b → b < run_count t → merge_left t places ≡ merged_run a b (runs_of t)
unfolding merge_left merged_run runs_of left_of
merge-begins {t} {places} {a} {b} w l k =
    let n = suc b - a in let m = run_count t - suc b in let f = left_of t places in
    let whole : a + (n + m) ≡ run_count t = omega arith in
    let next : a + n ≡ suc b = omega arith in
    let parts : listed (run_count t) 0 f ≡ listed a 0 f ++ (listed n a f ++ listed m (suc b) f) =
    ap (λ (j : ℕ). listed j 0 f) (sym whole) ∙ listed-append a (n + m) 0 f
    ∙ rw zero-add (ap (λ xs. listed a 0 f ++ xs) (listed-append n m a f ∙ ap (λ (j : ℕ). listed n a f ++ listed m j f) next)) in
    let middle : listed n a f ≡ listed n a (run_in t) =
    listed_same n a a f (run_in t) (λ j u. ap (λ (p : ℕ). drop p (run_in t (a + j))) (w.inside (a + j) (omega arith) (omega arith))) in
    let ends : merged key_of (same_key key_of) (listed m (suc b) f) ≡ merged key_of (same_key key_of) [] =
    merged-nils m (suc b) f (λ r u v. left-none t places r (w.outside r (omega arith) (inr u))) ∙ empty-merged in
    ap (merged key_of (same_key key_of)) parts
    ∙ merged-after-nils a 0 f (listed n a f ++ listed m (suc b) f) (λ r u v. left-none t places r (w.outside r (omega arith) (inl (omega arith))))
    ∙ merged-front key_of (same_key key_of) (listed n a f) (listed m (suc b) f) [] ends
    ∙ ap (merged key_of (same_key key_of)) (append-nil (listed n a f) ∙ middle ∙ sym (listed-part (run_count t) a n (run_in t) (omega arith)))

-- a record more
length-insert : (x : Record) (ys : List Record) → length (insert key_of x ys) ≡ suc (length ys)
unfolding insert
length-insert x [] = refl
length-insert x (y ∷ ys) =
    split (λ (zs : List Record). length zs ≡ suc (suc (length ys))) (ltb (key_of x) (key_of y)) (λ e. refl) (λ e. ap suc (length-insert x ys))

length-insert_all : (xs ys : List Record) → length (insert_all key_of xs ys) ≡ length xs + length ys
unfolding insert_all
length-insert_all [] ys = sym (zero-add (length ys))
length-insert_all (x ∷ xs) ys = length-insert x (insert_all key_of xs ys) ∙ rw (length-insert_all xs ys) (omega arith)

over-short : (xs ys : List Record) → length (over key_of (same_key key_of) xs ys) ≤ length xs + length ys
unfolding over
over-short xs ys =
    omega (arith, length-insert_all xs (keep (λ b. not (hidden (same_key key_of) xs b)) ys), keep-length (λ b. not (hidden (same_key key_of) xs b)) ys)

merged-short : (n i : ℕ) (f : ℕ → List Record) → ((r : ℕ) → i ≤ r → r < i + n → length (f r) ≤ 4096)
    → length (merged key_of (same_key key_of) (listed n i f)) ≤ 4096 * n
unfolding merged listed
merged-short zero i f h = omega arith
merged-short (suc n) i f h =
    omega (
      arith,
      over-short (f i) (merged key_of (same_key key_of) (listed n (suc i) f)),
      h i (omega arith) (omega arith),
      merged-short n (suc i) f (λ r l u. h r (omega arith) (omega arith)),
    )

pub merge-short : {t : List ℕ} (places : List ℕ) → Framed t → length (merge_left t places) ≤ 258048
unfolding merge_left left_of
merge-short {t} places f =
    let few : run_count t ≤ 63 = f.most-runs in
    let short = merged-short (run_count t) 0 (left_of t places) (λ r l u. simp (length-drop, length-run_of) (omega (arith, f.counts r (omega arith)))) in
    omega arith
