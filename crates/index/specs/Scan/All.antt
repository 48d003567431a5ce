-- The scan over all segments: it comes through exactly where they are right one after the other, and stops at the first that
-- is not.
--     Next, NeverRight                 the next records of the view make a segment right, or none do
--     follows-none, follows-cons       segments that are right one after the other, the first of them apart
--     segment-right, right-segment     the scan passes a segment exactly where the next records make it right
--     Comes, scan-comes                what the scan came to, in the rules' words
--     follows-scan, wrong-scan         and that the scan comes to what the rules say
use Rattle.std.specs.Prelude.{◌≡◌, take}
use Rattle.std.proofs.Math.Path.{refl, ap, subst₂}
use Rattle.std.proofs.Common.{sym, ◌∙◌, add-zero}
use Prim.Native.Nat.{ℕ, zero, suc, ◌+◌, ◌≤◌}
use native.Mathlib.Omega.{arith}
use Rattle.std.proofs.Math.Numerals.{add-one}
use Rattle.std.proofs.Math.Option.{some}
use mathlib.Core.List.{List, [], ◌∷◌, ◌++◌}
use Rattle.std.proofs.Math.ListN.{get_elem?}
use Rattle.theory.specs.Records.{Record}
use Rattle.theory.specs.Tests.{never}
use Rattle.tray.specs.Frame.{run_count}
use Rattle.tray.specs.Check.{Sound}
use Rattle.tray.specs.Meaning.{runs_of}
use Rattle.theory.specs.Listed.{listed}
use Rattle.index.specs.Layout.{Segment, segment_at, segment_from}
use Rattle.index.specs.Rules.{Item, Right, Follows, here, next}
use Rattle.index.specs.Rules.Cuts.{Cut}
use Rattle.index.specs.Scan.{Outcome, wrong, right, Scanned, wrong_at, through, segment_scan, scan_from}
use Rattle.index.specs.Scan.Places.{places_of}
use Rattle.index.specs.Scan.Entry.{good, few}
use Rattle.index.specs.Scan.Segment.{segment-scans, scans-segment}
use Rattle.index.specs.Scan.Right.{right-none, scans-right, right-scans}

-- the next records of the view make the segment right, after b and with w left
pub record Next (t : List (List Record)) (s : Segment) (b w : List Item) : Type 0 where
  pub own : List Item
  pub left : List Item
  pub parts : w ≡ own ++ left
  pub is_right : Right t s b own left

-- no records make it right
abbrev pub NeverRight : List (List Record) → Segment → List Item → List Item → Type 0
NeverRight t s b w = (own after : List Item) → w ≡ own ++ after → Right t s b own after → ⊥

pub follows-none : {t : List (List Record)} {b w b' w' : List Item} → Follows t [] b w b' w' → (b ≡ b') × (w ≡ w')
follows-none here = (refl, refl)

pub follows-cons : {t : List (List Record)} {s : Segment} {ss : List Segment} {b w b' w' : List Item}
    → Follows t (s ∷ ss) b w b' w' → (k : Next t s b w) × Follows t ss (b ++ k.own) k.left b' w'
follows-cons (next p r f) = (record { own = _; left = _; parts = p; is_right = r }, f)

-- what the scan of the segments ss, the first of which is number g, came to after b and with w left
pub data Comes (t : List (List Record)) (ss : List Segment) (g : ℕ) (b w : List Item) : Scanned → Type 0 where
  stops : (n m : ℕ) {s : Segment} {behind left : List Item} → m ≡ g + n → get_elem? ss n ≡ some s
      → Follows t (take n ss) b w behind left → NeverRight t s behind left → Comes t ss g b w (wrong_at m)
  passes : {b' w' : List Item} → Follows t ss b w b' w' → Cut t b' w' → Comes t ss g b w (through (places_of b'))

-- a right segment, and what the others come to
comes-on : {t : List (List Record)} {s : Segment} {ss : List Segment} {b w : List Item} {o : Scanned} (g : ℕ) (k : Next t s b w)
    → Comes t ss (suc g) (b ++ k.own) k.left o → Comes t (s ∷ ss) g b w o
comes-on g k (stops n m e at f nothing) = stops (suc n) m (omega arith) at (next k.parts k.is_right f) nothing
comes-on g k (passes f cut) = passes (next k.parts k.is_right f) cut

module _ {t : List ℕ} (sound : Sound t) (x : List ℕ) where
  module _ {b w : List Item} (cut : Cut (runs_of t) b w) (at : ℕ) where
    -- the segment of d passes, and comes to what its own records leave
    abbrev Passes : ℕ → List Item → List Item → Type 0
    Passes d own v = (segment_scan t (run_count t) x d at (places_of b) ≡ right (places_of (b ++ own))) × Cut (runs_of t) (b ++ own) v

    pub segment-right : (d : ℕ) {places : List ℕ} → 1 ≤ d → segment_scan t (run_count t) x d at (places_of b) ≡ right places
        → (k : Next (runs_of t) (segment_from (run_count t) d x at) b w)
        × (places ≡ places_of (b ++ k.own)) × Cut (runs_of t) (b ++ k.own) k.left
    segment-right zero l h = absurd (omega arith)
    segment-right (suc n) l h =
        let f = segment-scans sound x n at b h in
        let j = scans-right (good sound) (few sound) cut f.first f.others _ f.scans in
        (record { own = f.first ∷ f.others; left = _; parts = j.parts; is_right = j.right }, f.places-are, j.cut)

    pub right-segment : (d : ℕ) → 1 ≤ d → (k : Next (runs_of t) (segment_from (run_count t) d x at) b w) → Passes d k.own k.left
    right-segment zero l k = absurd (omega arith)
    right-segment (suc n) l k = go k.own k.parts k.is_right
      where
        go : (own : List Item) → w ≡ own ++ k.left → Right (runs_of t) (segment_from (run_count t) (suc n) x at) b own k.left
            → Passes (suc n) own k.left
        go [] p r = right-none r
        go (c ∷ es) p r =
            let s = right-scans (good sound) (few sound) cut c es k.left p _ r in
            (scans-segment sound x n at b c es s.0, s.1)

  module _ (d : ℕ) (some-selector : 1 ≤ d) where
    -- segment g,
    abbrev pub seg : ℕ → Segment
    seg g = segment_from (run_count t) d x (segment_at (run_count t) d g)

    -- what the scan of it comes to after the records b,
    abbrev pub outcome : ℕ → List Item → Outcome
    outcome g b = segment_scan t (run_count t) x d (segment_at (run_count t) d g) (places_of b)

    -- the scan of k segments from it on,
    abbrev pub scan : ℕ → ℕ → List Item → Scanned
    scan k g b = scan_from t (run_count t) x d k g (places_of b)

    -- and what that comes to after it, with k more
    abbrev after : ℕ → ℕ → Outcome → Scanned
    after k g o = elim o [ wrong ↦ wrong_at g | right places ↦ scan_from t (run_count t) x d k (g + 1) places ]

    scan-one : (k g : ℕ) (b : List Item) {o : Outcome} → outcome g b ≡ o → scan (suc k) g b ≡ after k g o
    unfolding scan_from
    scan-one k g b e = ap (after k g) e

    module _ {b w : List Item} (cut : Cut (runs_of t) b w) (g : ℕ) where
      wrong-never : outcome g b ≡ wrong → NeverRight (runs_of t) (seg g) b w
      wrong-never e own v p r =
          let k : Next (runs_of t) (seg g) b w = record { own = own; left = v; parts = p; is_right = r } in
          let z = (right-segment cut (segment_at (run_count t) d g) d some-selector k).0 in never (cc)

      never-wrong : NeverRight (runs_of t) (seg g) b w → outcome g b ≡ wrong
      never-wrong nothing = go (outcome g b) refl
        where
          go : (o : Outcome) → outcome g b ≡ o → outcome g b ≡ wrong
          go wrong e = e
          go (right places) e =
              let k = (segment-right cut (segment_at (run_count t) d g) d some-selector e).0 in
              absurd (nothing k.own k.left k.parts k.is_right)

      pub wrong-scan : (k : ℕ) → NeverRight (runs_of t) (seg g) b w → scan (suc k) g b ≡ wrong_at g
      wrong-scan k nothing = scan-one k g b (never-wrong nothing)

    pub scan-comes : (k g : ℕ) {b w : List Item} → Cut (runs_of t) b w → Comes (runs_of t) (listed k g seg) g b w (scan k g b)
    unfolding scan_from listed
    scan-comes zero g cut = passes here cut
    scan-comes (suc k) g {b} {w} cut = go (outcome g b) refl (λ own left next-cut. scan-comes k (suc g) next-cut)
      where
        go : (o : Outcome) → outcome g b ≡ o
            → ((own left : List Item) → Cut (runs_of t) (b ++ own) left
            → Comes (runs_of t) (listed k (suc g) seg) (suc g) (b ++ own) left (scan k (suc g) (b ++ own)))
            → Comes (runs_of t) (seg g ∷ listed k (suc g) seg) g b w (after k g o)
        go wrong e later = stops 0 g (sym (add-zero g)) refl here (wrong-never cut g e)
        go (right places) e later =
            let s = segment-right cut (segment_at (run_count t) d g) d some-selector e in
            rw (s.1, add-one) (comes-on g s.0 (later s.0.own s.0.left s.2))

    -- n segments that are right one after the other are passed; of the k that are to be scanned j are then left
    pub follows-scan : (n j k g m : ℕ) {b w b' w' : List Item} → k ≡ n + j → m ≡ g + n → Cut (runs_of t) b w
        → Follows (runs_of t) (listed n g seg) b w b' w' → (scan k g b ≡ scan j m b') × Cut (runs_of t) b' w'
    unfolding listed
    follows-scan zero j k g m p q cut f =
        let same = follows-none f in let count : k ≡ j = omega arith in let at : g ≡ m = omega arith in
        (cc, subst₂ (Cut (runs_of t)) same.0 same.1 cut)
    follows-scan (suc n) j zero g m p q cut f = absurd (omega arith)
    follows-scan (suc n) j (suc k) g m p q cut f =
        let one = follows-cons f in
        let s = right-segment cut (segment_at (run_count t) d g) d some-selector one.0 in
        let later = follows-scan n j k (suc g) m (omega arith) (omega arith) s.1 one.1 in
        (scan-one k g _ s.0 ∙ rw add-one later.0, later.1)
