-- Reading what the builder wrote: the frame, and the segments that its bytes spell.
--     built_segment, built_segments     the segments that are written, part by part
--     segment-read, segments-read     a segment is read where its bytes stand, and so are those that follow it
--     read-size, read_count           D and S as they are read
--     read-frame                      the frame holds
--     read-segments                   the segments that the bytes spell
use Rattle.std.specs.Prelude.{◌≡◌}
use Rattle.std.proofs.Math.Path.{refl, sym}
use Rattle.std.proofs.Common.{◌∙◌, zero-mul, suc-mul, arith, get_or-drop}
use Prim.Native.Nat.{ℕ, zero, suc, ◌+◌, ◌-◌, ◌*◌, ◌^◌, ◌≤◌, ◌<◌}
use Rattle.std.proofs.Math.Nat.{add-zero}
use mathlib.Core.List.Memᴰ
use mathlib.Core.List.{List, [], ◌∷◌, ◌++◌, append_assoc, append-nil}
use Rattle.std.proofs.Math.ListN.{length, get_or, drop}
use Rattle.number.specs.Big.{be, bytes_of}
use Rattle.number.proofs.Big.Laws.{be-drop, be-append-left, be-bytes_of, length-bytes_of}
use Rattle.theory.specs.Records.{Record}
use Rattle.theory.specs.Rising.{All}
use Rattle.theory.specs.Lists.{all_tail, part-next}
use Rattle.theory.specs.Places.{count}
use Rattle.theory.proofs.Places.Passed.{count-append}
use Rattle.theory.specs.Pack.{joined}
use Rattle.tray.specs.Meaning.{Fits}
use Rattle.theory.specs.Listed.{listed}
use Rattle.index.specs.Layout.{size_of, segment_count, head_size, segment_at, segment_from, segments_of, IndexFramed}
use Rattle.index.specs.Rules.{Item}
use Rattle.build_spec.specs.Build.{cuts, anchor_of, offsets_bytes, segment_bytes, segments_bytes, index_bytes, index_size}
use Rattle.build_spec.specs.Build.Laws.{Ready}
use Rattle.build_spec.proofs.Build.Laws.{cuts_fit}
use Rattle.build_spec.specs.Build.Bytes.{filled}
use Rattle.build_spec.proofs.Build.Bytes.{length-offsets_bytes, length-filled, length-segment_bytes, length-index_bytes, cuts-anchor, cuts-count, cuts-few}
use Rattle.build_spec.specs.Build.Read.{built_segment, built_segments}

-- a number whose bytes stand at a place
number_read : (w n p : ℕ) (s z : List ℕ) → n < 256 ^ w → drop p s ≡ bytes_of w n ++ z → be w s p ≡ n
number_read w n p s z h e =
    let room : 0 + w ≤ length (bytes_of w n) = rw length-bytes_of (omega arith) in
    let here : be w (drop p s) 0 ≡ be w s p = rw add-zero at (be-drop w p s 0) in
    sym here ∙ rw e (be-append-left w (bytes_of w n) z 0 room ∙ be-bytes_of w n h)

module _ (x : List ℕ) (at : ℕ) where
  -- bytes that stand one after the other
  bytes_read : (i : ℕ) (vs z : List ℕ) → drop (at + i) x ≡ vs ++ z → listed (length vs) i (λ s. get_or x (at + s) 0) ≡ vs
  unfolding listed
  bytes_read i [] z e = refl
  bytes_read i (v ∷ vs) z e =
      let here : get_or (drop (at + i) x) 0 0 ≡ get_or x (at + i) 0 = rw add-zero at (get_or-drop (at + i) x 0 0) in
      let first : get_or x (at + i) 0 ≡ v = sym here ∙ rw e in
      let others = bytes_read (suc i) vs z (part-next (at + i) (at + suc i) x (v ∷ []) e refl (omega arith)) in
      cc

  -- numbers of 2 bytes that stand one after the other
  numbers-read : (n i : ℕ) (f : ℕ → ℕ) (z : List ℕ) → ((r : ℕ) → f r < 65536)
      → drop (at + 2 * i) x ≡ joined (listed n i (λ r. bytes_of 2 (f r))) ++ z → listed n i (λ r. be 2 x (at + 2 * r)) ≡ listed n i f
  unfolding listed joined
  numbers-read zero i f z low e = refl
  numbers-read (suc n) i f z low e =
      let here : drop (at + 2 * i) x ≡ bytes_of 2 (f i) ++ (joined (listed n (suc i) (λ r. bytes_of 2 (f r))) ++ z) = rw append_assoc at e in
      let next = part-next (at + 2 * i) (at + 2 * suc i) x (bytes_of 2 (f i)) here (length-bytes_of 2 (f i)) (omega arith) in
      let first = number_read 2 (f i) (at + 2 * i) x _ (low i) here in
      let others = numbers-read n (suc i) f z low next in
      cc

-- segments start after the header,
segment_at-least : (h d g : ℕ) → 8 ≤ segment_at h d g
unfolding segment_at
segment_at-least h d g = omega arith

-- the first one right after it,
segment_at-zero : (h d : ℕ) → segment_at h d 0 ≡ 8
unfolding segment_at
segment_at-zero h d = simp zero-mul

-- each where the one before it ends
segment_at-next : (h d g : ℕ) → segment_at h d (suc g) ≡ segment_at h d g + (head_size h + d)
unfolding segment_at
segment_at-next h d g = simp suc-mul (omega arith)

module _ (d : ℕ) (t : List (List Record)) (x : List ℕ) where
  -- a segment is read where its bytes stand
  pub segment-read : (before own : List Item) (at : ℕ) (z : List ℕ) → anchor_of own < 256 ^ 8 → ((r : ℕ) → count r before < 65536)
      → length own ≤ d → drop at x ≡ segment_bytes d t before own ++ z → segment_from (length t) d x at ≡ built_segment d t before own
  unfolding segment_from segment_bytes built_segment head_size offsets_bytes
  segment-read before own at z high low l e =
      let key = bytes_of 8 (anchor_of own) in
      let places = offsets_bytes (length t) before in
      let spelling = filled t own (d - length own) in
      let start : drop at x ≡ key ++ (places ++ (spelling ++ z)) = rw (append_assoc, append_assoc) at e in
      let middle = part-next at (at + 8) x key start (length-bytes_of 8 (anchor_of own)) refl in
      let end = part-next (at + 8) (at + (8 + 2 * length t)) x places middle (length-offsets_bytes (length t) before) (omega arith) in
      let anchor = number_read 8 (anchor_of own) at x _ high start in
      let offsets = numbers-read x (at + 8) (length t) 0 (λ r. count r before) (spelling ++ z) low (rw add-zero middle) in
      let selectors = bytes_read x (at + (8 + 2 * length t)) 0 spelling z (rw add-zero end) in
      let long : length spelling ≡ d = length-filled d t own l in
      λ i. record { anchor = anchor i; offsets = offsets i; selectors = (rw long at selectors) i }

  -- where segment g starts
  abbrev from : ℕ → ℕ
  from g = segment_at (length t) d g

  -- and so are those that follow it
  pub segments-read : (before : List Item) (ss : List (List Item)) (g : ℕ) (z : List ℕ)
      → All (λ s. anchor_of s < 256 ^ 8) ss → ((r : ℕ) → count r (before ++ joined ss) < 65536) → All (λ s. length s ≤ d) ss
      → drop (from g) x ≡ segments_bytes d t before ss ++ z
      → listed (length ss) g (λ g. segment_from (length t) d x (from g)) ≡ built_segments d t before ss
  unfolding listed segments_bytes built_segments joined
  segments-read before [] g z high low l e = refl
  segments-read before (own ∷ ss) g z high low l e =
      let head = segment_bytes d t before own in
      let here : drop (from g) x ≡ head ++ (segments_bytes d t (before ++ own) ss ++ z) = rw append_assoc at e in
      let fits : length own ≤ d = l own (Memᴰ.head refl) in
      let counts : (r : ℕ) → count r before < 65536 = λ r. omega (arith, low r, count-append r before (own ++ joined ss)) in
      let next = part-next (from g) (from (suc g)) x head here (length-segment_bytes d t before own fits) (segment_at-next (length t) d g) in
      let first = segment-read before own (from g) _ (high own (Memᴰ.head refl)) counts fits here in
      let others = segments-read (before ++ own) ss (suc g) z (all_tail high) (λ r. rw append_assoc (low r)) (all_tail l) next in
      cc

-- D is read back,
pub read-size : (d : ℕ) (t : List (List Record)) → size_of (index_bytes d t) ≡ d
unfolding size_of index_bytes
read-size d t = refl

module _ {d : ℕ} {t : List (List Record)} (ready : Ready d t) (fits : Fits t) where
  -- and so is S
  pub read_count : segment_count (index_bytes d t) ≡ length (cuts d t)
  unfolding segment_count index_bytes
  read_count = number_read 4 (length (cuts d t)) 4 (index_bytes d t) (segments_bytes d t [] (cuts d t)) (cuts-few ready fits) refl

  -- the frame holds
  pub read-frame : IndexFramed (length t) (index_bytes d t)
  unfolding index_bytes index_size
  read-frame =
      record {
        header = rw (length-index_bytes ready) (segment_at-least (length t) d (length (cuts d t)));
        runs = refl;
        least = rw read-size ready.least;
        most = rw read-size ready.most;
        zero-2 = refl;
        zero-3 = refl;
        whole = rw (read-size, read_count) (length-index_bytes ready);
      }

  -- the segments that the bytes spell are those that were written
  pub read-segments : segments_of (length t) (index_bytes d t) ≡ built_segments d t [] (cuts d t)
  unfolding segments_of size_of index_bytes
  read-segments =
      let x = index_bytes d t in
      let number = bytes_of 4 (length (cuts d t)) in
      let long = length-bytes_of 4 (length (cuts d t)) in
      let start = part-next 4 (segment_at (length t) d 0) x number refl long (segment_at-zero (length t) d) in
      let end = sym (append-nil (segments_bytes d t [] (cuts d t))) in
      rw read_count (segments-read d t x [] (cuts d t) 0 [] (cuts-anchor ready fits) (cuts-count ready fits) (cuts_fit ready) (start ∙ end))
