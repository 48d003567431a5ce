-- What the code of a segment comes to: as it is written it is the next one of the cuts.
--     Cutting, segment-is     the segment that was written, and what is left after it
use Rattle.std.specs.Prelude.{◌≡◌, take, drop}
use Rattle.std.proofs.Math.Path.{refl, sym, ap}
use Rattle.std.proofs.Common.{ap₂, ◌∙◌, zero-add, arith, drop_of_length-le}
use Prim.Native.Nat.{ℕ, ◌+◌, ◌-◌, ◌*◌, ◌≤◌, ◌<◌, zero-le}
use mathlib.Core.List.{List, [], ◌∷◌, ◌++◌, map, append_assoc, append-nil}
use Rattle.std.proofs.Math.ListN.{length, get_or, replicate, length-append, length-replicate}
use Rattle.std.proofs.lemmas.List.{length-map}
use Rattle.std.proofs.Math.Seq.{take-append_seam}
use Rattle.number.specs.Big.{bytes_of, put}
use Rattle.number.proofs.Big.Laws.{length-bytes_of}
use Rattle.number.proofs.Big.Writes.{put-put, length-put}
use Rattle.theory.specs.Places.{count}
use Rattle.theory.specs.Pack.{joined, groups, pack}
use Rattle.tray.specs.Frame.{run_count}
use Rattle.tray.specs.Meaning.{runs_of, Fits}
use Rattle.tray.specs.Meaning.Laws.{length-runs_of}
use Rattle.theory.specs.Listed.{listed}
use Rattle.theory.proofs.Listed.Laws.{listed_same}
use Rattle.index.specs.Rules.{Item, selector_of}
use Rattle.index.specs.Scan.Places.{places_of, get_or-places_of}
use Rattle.build_spec.specs.Build.{item_key, anchor_of, offsets_bytes, segment_bytes}
use Rattle.build_spec.specs.Build.Laws.{Ready}
use Rattle.build_spec.proofs.Build.Bytes.{length-offsets_bytes}
use Rattle.build_marks.specs.Code.{offsets_from, Segmented}
use Rattle.build_marks.specs.Code.Merge.{Stand, least_first}
use Rattle.build_segment.specs.Segment.Filled.{Filled, fill_is}

-- two listed alike, number by number
listed-ext : {A : Type 0} (n i : ℕ) (f g : ℕ → A) → ((j : ℕ) → i ≤ j → j < i + n → f j ≡ g j) → listed n i f ≡ listed n i g
listed-ext n i f g h = listed_same n i i f g (λ j l. h (i + j) (omega arith) (omega arith))

pub record Cutting (t : List ℕ) (d : ℕ) (b w : List Item) (places' seg' : List ℕ) (n : ℕ) : Type 0 where
  pub own : List Item
  pub left : List Item
  pub packed : pack d (groups item_key w) ≡ own ∷ pack d (groups item_key left)
  pub stand : Stand t (b ++ own) left places'
  pub parts : w ≡ own ++ left
  pub number : n ≡ length own
  pub bytes : seg' ≡ segment_bytes d (runs_of t) b own

-- one write after another from the start on
put-at : (s xs ys : List ℕ) (p : ℕ) → p ≡ length xs → put (put s 0 xs) p ys ≡ put s 0 (xs ++ ys)
put-at s xs ys p e = rw (e, ← zero-add (length xs)) (put-put s 0 xs ys zero-le)

-- the end written anew
put-end : (s xs ys zs : List ℕ) (p : ℕ) → p ≡ length xs → length ys ≤ length zs → length xs + length zs ≡ length s → put (put s 0 (xs ++ ys)) p zs ≡ xs ++ zs
unfolding put
put-end s xs ys zs p e l k =
    let rest : List ℕ = drop (0 + length (xs ++ ys)) s in
    let long : length ((xs ++ ys) ++ rest) ≡ length s = length-put s 0 (xs ++ ys) (simp length-append (omega arith)) in
    let front : take p ((xs ++ ys) ++ rest) ≡ xs = ap₂ take e (append_assoc xs ys rest) ∙ take-append_seam xs (ys ++ rest) in
    let end : drop (p + length zs) ((xs ++ ys) ++ rest) ≡ [] = drop_of_length-le ((xs ++ ys) ++ rest) {i = p + length zs} (omega arith) in
    ap₂ (λ (u v : List ℕ). u ++ (zs ++ v)) front end ∙ ap (λ (v : List ℕ). xs ++ v) (append-nil zs)

module _ {d : ℕ} (t : List ℕ) {h : ℕ} (ready : Ready d (runs_of t)) (fits : Fits (runs_of t)) (runs-are : h ≡ run_count t) where
  runs-length : h ≡ length (runs_of t)
  runs-length = runs-are ∙ sym (length-runs_of t)

  -- the places are the offsets
  offsets_are : (b : List Item) (places : List ℕ) → places ≡ places_of b → offsets_from places h 0 ≡ offsets_bytes (length (runs_of t)) b
  unfolding offsets_from offsets_bytes
  offsets_are b places e =
      rw (← runs-length) (ap joined (listed-ext h 0 (λ r. bytes_of 2 (get_or places r 0)) (λ r. bytes_of 2 (count r b))
      (λ r l k. ap (bytes_of 2) (ap (λ (ps : List ℕ). get_or ps r 0) e ∙ get_or-places_of b r (omega (arith, runs-length, ready.few))))))

  module _ {b w : List Item} {places seg places' seg' : List ℕ} {n : ℕ} (stand : Stand t b w places) (some : 0 < length w)
      (room : length seg ≡ 8 + 2 * h + d) (s : Segmented t h d places seg places' seg' n) where
    anchor-bytes : List ℕ
    anchor-bytes = bytes_of 8 s.anchor

    offsets : List ℕ
    offsets = offsets_from places h 0

    offsets-long : length offsets ≡ 2 * h
    unfolding offsets
    offsets-long = ap length (offsets_are b places stand.is) ∙ length-offsets_bytes (length (runs_of t)) b ∙ ap (λ (k : ℕ). 2 * k) (sym runs-length)

    front : put (put seg 0 anchor-bytes) 8 offsets ≡ put seg 0 (anchor-bytes ++ offsets)
    unfolding anchor-bytes
    front = put-at seg anchor-bytes offsets 8 (sym (length-bytes_of 8 s.anchor))

    head-long : length (anchor-bytes ++ offsets) ≡ 8 + 2 * h
    unfolding anchor-bytes
    head-long = simp (length-append, length-bytes_of) (omega (arith, offsets-long))

    filled : Filled t d b w places' (put (put seg 0 anchor-bytes) 8 offsets) s.selectors (8 + 2 * h) (8 + 2 * h + n)
    unfolding anchor-bytes offsets
    filled =
        let long : length (put (put seg 0 (bytes_of 8 s.anchor)) 8 (offsets_from places h 0)) ≡ length seg =
        ap length front ∙ length-put seg 0 _ (rw head-long (omega arith)) in
        fill_is ready fits runs-are stand s.least some s.filled refl (omega arith)

    number : n ≡ length filled.own
    number = omega (arith, filled.end)

    -- the anchor is the first record's key
    anchor-is : s.anchor ≡ anchor_of filled.own
    unfolding anchor_of
    anchor-is = go filled.own filled.parts filled.some
      where
        go : (own : List Item) → w ≡ own ++ filled.left → 0 < length own → s.anchor ≡ anchor_of own
        go [] p l = absurd (omega arith)
        go (c ∷ es) p l =
            sym (least_first ready fits (record { whole = stand.cut.whole; is = stand.is }) runs-are s.least c (es ++ filled.left) p)

    bytes-are : seg' ≡ segment_bytes d (runs_of t) b filled.own
    unfolding segment_bytes anchor-bytes offsets
    bytes-are =
        let sel = map (selector_of (runs_of t)) filled.own in
        let tail : List ℕ = replicate (d - n) 63 in
        let head = anchor-bytes ++ offsets in
        let long : length (head ++ sel) ≡ 8 + 2 * h + n = simp (length-append, length-map) (omega (arith, head-long, simp length-append at head-long, number)) in
        let tail-long : length tail ≡ d - n = length-replicate (d - n) 63 in
        let three : s.selectors ≡ put seg 0 ((head ++ sel) ++ filled.extra) =
        filled.bytes ∙ ap (λ (z : List ℕ). put z (8 + 2 * h) (sel ++ filled.extra)) front ∙ put-at seg head (sel ++ filled.extra) (8 + 2 * h) (sym head-long)
        ∙ ap (put seg 0) (sym (append_assoc head sel filled.extra)) in
        let four : seg' ≡ (head ++ sel) ++ tail =
        s.whole ∙ ap (λ (z : List ℕ). put z (8 + 2 * h + n) tail) three
        ∙ put-end seg (head ++ sel) filled.extra tail (8 + 2 * h + n) (sym long) (omega (arith, tail-long, filled.short, number)) (omega (arith, long, tail-long, s.short)) in
        let regroup : (head ++ sel) ++ tail ≡ anchor-bytes ++ (offsets ++ (sel ++ tail)) = simp append_assoc in
        four ∙ regroup
        ∙ ap (λ (k : ℕ). bytes_of 8 k ++ (offsets ++ (sel ++ tail))) anchor-is
        ∙ ap (λ (o : List ℕ). bytes_of 8 (anchor_of filled.own) ++ (o ++ (sel ++ tail))) (offsets_are b places stand.is)
        ∙ ap (λ (k : ℕ). bytes_of 8 (anchor_of filled.own) ++ (offsets_bytes (length (runs_of t)) b ++ (sel ++ replicate (d - k) 63))) number

    pub segment-is : Cutting t d b w places' seg' n
    segment-is =
        record {
          own = filled.own;
          left = filled.left;
          packed = filled.packed;
          stand = filled.stand;
          parts = filled.parts;
          number = number;
          bytes = bytes-are;
        }
