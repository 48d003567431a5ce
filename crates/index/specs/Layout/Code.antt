-- What the code of the frame needs of the definitions: each law is a way out of a function.
--     frame-short .. frame-3        the header, test by test
--     frame-fits, frame-long        the length decides
--     Laid, laid                    a frame that fits, as the functions below a call ask for it
--     segment_at-next, segment-within    where segments lie
use Rattle.std.specs.Prelude.{◌≡◌, ℕ, suc, ◌+◌, ◌*◌, ◌≤◌, ◌<◌, true, false, ◌&&◌, List, length, get_or, eqb}
use Rattle.std.proofs.Common.{sym, ap, ap₂, ◌∙◌, le_trans, le_of_lt, mul-le-mul_left, mul-le-mul_right, arith}
use borrow.Author.Tests.{le-leb, lt-leb, eq-eqb, ne_eqb}
use Rattle.number.specs.Big.{be}
use Rattle.index.specs.Layout.Laws.{index-fits}
use Rattle.index.specs.Layout.{size_of, segment_count, head_size, segment_at, index_framed}

module _ (h : ℕ) (x : List ℕ) where
  pub frame-short : length x < 8 → index_framed h x ≡ false
  unfolding index_framed
  frame-short a = rw (lt-leb 8 (length x) a)

  module _ (long : 8 ≤ length x) where
    pub frame-runs : (get_or x 0 0 ≡ h → ⊥) → index_framed h x ≡ false
    unfolding index_framed
    frame-runs a = rw (le-leb 8 (length x) long, ne_eqb (get_or x 0 0) h a)

    module _ (runs : get_or x 0 0 ≡ h) where
      pub frame-low : get_or x 1 0 < h → index_framed h x ≡ false
      unfolding index_framed size_of
      frame-low a = rw (le-leb 8 (length x) long, eq-eqb (get_or x 0 0) h runs, lt-leb h (get_or x 1 0) a)

      module _ (least : h ≤ get_or x 1 0) where
        pub frame-high : 128 < get_or x 1 0 → index_framed h x ≡ false
        unfolding index_framed size_of
        frame-high a =
            rw (le-leb 8 (length x) long, eq-eqb (get_or x 0 0) h runs, le-leb h (get_or x 1 0) least, lt-leb (get_or x 1 0) 128 a)

        module _ (most : get_or x 1 0 ≤ 128) where
          rest-is : index_framed h x ≡ (eqb (get_or x 2 0) 0 && (eqb (get_or x 3 0) 0 && eqb (length x) (segment_at h (get_or x 1 0) (be 4 x 4))))
          unfolding index_framed size_of segment_count
          rest-is = rw (le-leb 8 (length x) long, eq-eqb (get_or x 0 0) h runs, le-leb h (get_or x 1 0) least, le-leb (get_or x 1 0) 128 most)

          pub frame-2 : (get_or x 2 0 ≡ 0 → ⊥) → index_framed h x ≡ false
          frame-2 a = rest-is ∙ rw (ne_eqb (get_or x 2 0) 0 a)

          module _ (zero-2 : get_or x 2 0 ≡ 0) where
            pub frame-3 : (get_or x 3 0 ≡ 0 → ⊥) → index_framed h x ≡ false
            frame-3 a = rest-is ∙ rw (eq-eqb (get_or x 2 0) 0 zero-2, ne_eqb (get_or x 3 0) 0 a)

            module _ (zero-3 : get_or x 3 0 ≡ 0) {n e : ℕ} (told : n ≡ be 4 x 4) (ends : e ≡ segment_at h (get_or x 1 0) n) where
              last-is : index_framed h x ≡ eqb (length x) e
              last-is =
                  rest-is
                  ∙ rw (eq-eqb (get_or x 2 0) 0 zero-2, eq-eqb (get_or x 3 0) 0 zero-3) (ap (eqb (length x)) (sym (ends ∙ ap (segment_at h (get_or x 1 0)) told)))

              pub frame-long : (length x ≡ e → ⊥) → index_framed h x ≡ false
              frame-long a = last-is ∙ ne_eqb (length x) e a

              pub frame-fits : length x ≡ e → index_framed h x ≡ true
              frame-fits a = last-is ∙ eq-eqb (length x) e a

-- an index of n segments of d for a tray of h runs, as its functions ask for it
pub record Laid (x : List ℕ) (h d n : ℕ) : Type 0 where
  pub size : d ≡ size_of x
  pub count : n ≡ segment_count x
  pub whole : length x ≡ segment_at h d n

-- what a frame that fits says
pub laid : (x : List ℕ) {h d n : ℕ} → index_framed h x ≡ true → d ≡ size_of x → n ≡ segment_count x → Laid x h d n
laid x {h} f size count =
    record { size = size; count = count; whole = (index-fits h x f).whole ∙ ap₂ (segment_at h) (sym size) (sym count) }

-- no product of a segment's number and size is large
pub size_low : (n w : ℕ) → n < 4294967296 → w ≤ 773 → n * w ≤ 4294967296 * 773
size_low n w l m = le_trans (mul-le-mul_right w (le_of_lt l)) (mul-le-mul_left 4294967296 m)

pub segment_at-next : (h d g : ℕ) → segment_at h d (suc g) ≡ segment_at h d g + (8 + 2 * h + d)
unfolding segment_at head_size
segment_at-next h d g = omega arith

pub segment_at-le : (h d g n : ℕ) → g ≤ n → segment_at h d g ≤ segment_at h d n
unfolding segment_at
segment_at-le h d g n l = omega (arith, mul-le-mul_right (head_size h + d) l)

-- a segment ends inside the index
pub segment-within : {x : List ℕ} {h d n g at : ℕ} → Laid x h d n → g < n → at ≡ segment_at h d g → at + 8 + 2 * h + d ≤ length x
segment-within {x} {h} {d} {n} {g} {at} l below e =
    let ends : segment_at h d (suc g) ≤ segment_at h d n = segment_at-le h d (suc g) n below in
    let next : segment_at h d (suc g) ≡ segment_at h d g + (8 + 2 * h + d) = segment_at-next h d g in
    let whole : length x ≡ segment_at h d n = l.whole in
    omega arith
