-- When a segment is right and an index accepted (docs/RULES.md, "The index", the five rules in its words). Segments are judged from 0 on:
-- `before` are the records of the view in earlier segments, `own` the segment's own, `after` what is left.
mod Cases
pub mod Cuts
pub mod Laws
use Rattle.std.specs.Prelude.{ℕ, ◌+◌, ◌≤◌, ◌<◌, ◌≡◌, cond, List, [], ◌∷◌, ◌++◌, map, length, get_or, take, eqb}
use Rattle.std.proofs.Math.Option.{some}
use Rattle.std.proofs.Math.ListN.{get_elem?}
use Rattle.theory.specs.Records.{Record, live}
use Rattle.theory.specs.Hiding.{same_key}
use Rattle.theory.specs.View.{Entry, old, view}
use Rattle.theory.specs.Places.{count}
use Rattle.index.specs.Layout.{Segment}

-- the byte 0x3f alone
abbrev pub placeholder : ℕ
placeholder = 63

-- a record's key
abbrev pub key_of : Record → ℕ
key_of e = e.key

-- a record of the view
abbrev pub Item : Type 0
Item = Entry Record

-- the selectors before the first placeholder
unfoldable pub spelled : List ℕ → List ℕ
spelled [] = []
spelled (v ∷ vs) = cond (eqb v placeholder) [] (v ∷ spelled vs)

-- its first selector is no placeholder, and after a placeholder come only placeholders
pub record PlaceholdersLast (s : Segment) : Type 0 where
  pub first : get_or s.selectors 0 placeholder ≡ placeholder → ⊥
  pub after : (i j : ℕ) → i ≤ j → j < length s.selectors → get_or s.selectors i 0 ≡ placeholder → get_or s.selectors j 0 ≡ placeholder

module _ (t : List (List Record)) where
  -- the low six bits are the run; 0x80 means old, 0x40 means the selected record is gone, old or not
  unfoldable pub selector_of : Item → ℕ
  selector_of e = e.run + (cond (old (same_key key_of) t e) 128 0 + cond (live e.item) 0 64)

  -- each offset is the number of that run's records in earlier segments
  abbrev pub OffsetsRight : Segment → List Item → Type 0
  OffsetsRight s before = (r : ℕ) → r < length t → get_or s.offsets r 0 ≡ count r before

  -- its selectors spell the next records of the view, marks included
  abbrev pub Spells : Segment → List Item → Type 0
  Spells s own = spelled s.selectors ≡ map selector_of own

  -- its anchor is the key of its first record
  abbrev pub Anchored : Segment → List Item → Type 0
  Anchored s own = (e : Item) (es : List Item) → own ≡ e ∷ es → s.anchor ≡ key_of e.item

  -- the next record of the view, if any, has another key than its last one: all versions of a key share a segment
  abbrev pub KeysWhole : List Item → List Item → Type 0
  KeysWhole own after =
      (es : List Item) (e e' : Item) (w : List Item) → own ≡ es ++ (e ∷ []) → after ≡ e' ∷ w → key_of e.item ≡ key_of e'.item → ⊥

  -- a right segment
  pub record Right (s : Segment) (before own after : List Item) : Type 0 where
    pub offsets : OffsetsRight s before
    pub placeholders : PlaceholdersLast s
    pub spells : Spells s own
    pub anchor : Anchored s own
    pub keys : KeysWhole own after

  -- segments that are right one after the other: after the records `b`, with `w` left, they leave the records `b'` passed and `w'` over
  pub data Follows : List Segment → List Item → List Item → List Item → List Item → Type 0 where
    here : {b w : List Item} → Follows [] b w b w
    next : {s : Segment} {ss : List Segment} {b own w v b' w' : List Item}
        → w ≡ own ++ v → Right s b own v → Follows ss (b ++ own) v b' w' → Follows (s ∷ ss) b w b' w'

  -- the index is accepted when every segment is right and no record is left over
  abbrev pub Accepted : List Segment → Type 0
  Accepted ss = Follows ss [] (view key_of t) (view key_of t) []

  -- segment n is the first that is not right: those before it are, and no records make it so
  pub record FirstWrong (ss : List Segment) (n : ℕ) : Type 0 where
    pub segment : Segment
    pub stands : get_elem? ss n ≡ some segment
    pub behind : List Item
    pub left : List Item
    pub right-before : Follows (take n ss) [] (view key_of t) behind left
    pub not_right : (own after : List Item) → left ≡ own ++ after → Right segment behind own after → ⊥

  -- every segment is right, and records are left over
  pub record LeftOver (ss : List Segment) : Type 0 where
    pub behind : List Item
    pub left : List Item
    pub right-all : Follows ss [] (view key_of t) behind left
    pub some_left : left ≡ [] → ⊥
