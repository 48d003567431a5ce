-- Records packed into a segment: as many whole keys as fit.
--     pack-front      the front of what is left is the next segment, where it is made of whole keys, fits, and the next key does not
--     first-long      records of one key at the front are in the first group
use Rattle.std.specs.Prelude.{◌≡◌, refl, ℕ, ◌+◌, ◌≤◌, ◌<◌, List, [], ◌∷◌, ◌++◌, length, eqb}
use Rattle.std.proofs.Common.{sym, ap, ◌∙◌, arith, append_assoc, append-nil, length-append, le-leb, eq-eqb, ne_eqb}
use mathlib.Core.List.Memᴰ
use Rattle.std.proofs.lemmas.Bool.{lt-leb}
use Rattle.theory.specs.Rising.{Mem}
use Rattle.theory.specs.Lists.{all_tail}
use Rattle.theory.specs.Tests.{cases}
use Rattle.theory.specs.Pack.{joined, grouped, groups, pack_on, pack}
use Rattle.theory.proofs.Pack.Groups.{groups-joined}
use Rattle.index.specs.Rules.{Item}
use Rattle.build_spec.specs.Build.{item_key}

-- no record of one list has the key of one of the other
abbrev pub NoKey : List Item → List Item → Type 0
NoKey own left = (x e : Item) → Mem x own → Mem e left → item_key x ≡ item_key e → ⊥

-- the first group of a list begins with its first record
record Begins (e : Item) (gs : List (List Item)) : Type 0 where
  more : List Item
  others : List (List Item)
  is : gs ≡ (e ∷ more) ∷ others

begins : (e : Item) (es : List Item) → Begins e (groups item_key (e ∷ es))
unfolding groups grouped
begins e es = go (groups item_key es)
  where
    go : (gs : List (List Item)) → Begins e (grouped item_key e gs)
    go [] = record { more = []; others = []; is = refl }
    go ([] ∷ gs) = record { more = []; others = gs; is = refl }
    go ((b ∷ bs) ∷ gs) =
        cases (eqb (item_key e) (item_key b)) (λ y. record { more = b ∷ bs; others = gs; is = rw y }) (λ n. record { more = []; others = (b ∷ bs) ∷ gs; is = rw n })

-- a record put before groups that follow others
grouped-append : (e b : Item) (bs : List Item) (gs hs : List (List Item)) → grouped item_key e (((b ∷ bs) ∷ gs) ++ hs) ≡ grouped item_key e ((b ∷ bs) ∷ gs) ++ hs
unfolding grouped
grouped-append e b bs gs hs = cases (eqb (item_key e) (item_key b)) (λ y. rw y) (λ n. rw n)

-- a record before groups without its key
grouped-other : (e : Item) (left : List Item) → ((x : Item) → Mem x left → item_key e ≡ item_key x → ⊥) → grouped item_key e (groups item_key left) ≡ (e ∷ []) ∷ groups item_key left
unfolding grouped groups
grouped-other e [] n = refl
grouped-other e (x ∷ left) n =
    let g = begins x left in
    let other = ne_eqb (item_key e) (item_key x) (n x (Memᴰ.head refl)) in
    let mid : grouped item_key e ((x ∷ g.more) ∷ g.others) ≡ (e ∷ []) ∷ (x ∷ g.more) ∷ g.others = rw other in
    ap (grouped item_key e) g.is ∙ mid ∙ ap (λ (gs : List (List Item)). (e ∷ []) ∷ gs) (sym g.is)

-- the groups of two lists without a common key
groups-append : (own left : List Item) → NoKey own left → groups item_key (own ++ left) ≡ groups item_key own ++ groups item_key left
unfolding groups grouped
groups-append [] left n = refl
groups-append (e ∷ []) left n = grouped-other e left (λ x m. n e x (Memᴰ.head refl) m)
groups-append (e ∷ x ∷ own) left n =
    let later = groups-append (x ∷ own) left (λ y z m. n y z (Memᴰ.tail m)) in
    let g = begins x own in
    ap (grouped item_key e) later
    ∙ ap (λ (gs : List (List Item)). grouped item_key e (gs ++ groups item_key left)) g.is
    ∙ grouped-append e x g.more g.others (groups item_key left)
    ∙ ap (λ (gs : List (List Item)). grouped item_key e gs ++ groups item_key left) (sym g.is)

-- groups that fit go in one after the other
pack_on-front : (d : ℕ) (s : List Item) (gs hs : List (List Item)) → length s + length (joined gs) ≤ d → pack_on d s (gs ++ hs) ≡ pack_on d (s ++ joined gs) hs
unfolding pack_on joined
pack_on-front d s [] hs l = rw append-nil
pack_on-front d s (g ∷ gs) hs l =
    let long : length (g ++ joined gs) ≡ length g + length (joined gs) = length-append g (joined gs) in
    let fit : length s + length g ≤ d = omega arith in
    let later = pack_on-front d (s ++ g) gs hs (simp length-append (omega arith)) in
    rw (le-leb (length s + length g) d fit) (later ∙ rw append_assoc)

pub pack-front : (d : ℕ) (own left : List Item) → 0 < length own → length own ≤ d → NoKey own left
    → ((g : List Item) (gs : List (List Item)) → groups item_key left ≡ g ∷ gs → d < length own + length g)
    → pack d (groups item_key (own ++ left)) ≡ own ∷ pack d (groups item_key left)
unfolding pack pack_on joined
pack-front d [] left some short n over = absurd (omega arith)
pack-front d (e ∷ es) left some short n over =
    let g = begins e es in
    let first = e ∷ g.more in
    let whole : first ++ joined g.others ≡ e ∷ es = sym (ap joined g.is) ∙ groups-joined item_key (e ∷ es) in
    let long : length first + length (joined g.others) ≡ length (e ∷ es) = sym (length-append first (joined g.others)) ∙ ap length whole in
    ap (pack d) (groups-append (e ∷ es) left n ∙ ap (λ (gs : List (List Item)). gs ++ groups item_key left) g.is)
    ∙ pack_on-front d first g.others (groups item_key left) (omega arith)
    ∙ ap (λ (s : List Item). pack_on d s (groups item_key left)) whole
    ∙ last (groups item_key left) refl
  where
    last : (hs : List (List Item)) → groups item_key left ≡ hs → pack_on d (e ∷ es) hs ≡ (e ∷ es) ∷ pack d hs
    last [] q = refl
    last (h ∷ hs) q = rw (lt-leb (length (e ∷ es) + length h) d (over h hs q))

-- records of one key at the front are in the first group
pub first-long : (k : ℕ) (e : Item) (es v : List Item) → ((x : Item) → Mem x (e ∷ es) → item_key x ≡ k) → (g : List Item) (gs : List (List Item))
    → groups item_key ((e ∷ es) ++ v) ≡ g ∷ gs → length (e ∷ es) ≤ length g
unfolding groups grouped
first-long k e [] v same g gs q =
    let b = begins e v in
    let p : (e ∷ b.more) ∷ b.others ≡ g ∷ gs = sym b.is ∙ q in
    let p₁ : e ∷ b.more ≡ g = cc p in
    omega (arith, ap length p₁)
first-long k e (x ∷ es) v same g gs q =
    let b = begins x (es ++ v) in
    let later = first-long k x es v (all_tail same) (x ∷ b.more) b.others b.is in
    let one : item_key e ≡ item_key x = same e (Memᴰ.head refl) ∙ sym (same x (Memᴰ.tail (Memᴰ.head refl))) in
    let mid : grouped item_key e ((x ∷ b.more) ∷ b.others) ≡ (e ∷ x ∷ b.more) ∷ b.others = rw (eq-eqb (item_key e) (item_key x) one) in
    let here : groups item_key ((e ∷ x ∷ es) ++ v) ≡ (e ∷ x ∷ b.more) ∷ b.others = ap (grouped item_key e) b.is ∙ mid in
    let p : (e ∷ x ∷ b.more) ∷ b.others ≡ g ∷ gs = sym here ∙ q in
    let p₁ : e ∷ x ∷ b.more ≡ g = cc p in
    omega (arith, ap length p₁)
