-- A cursor whose selector is above 255 belongs nowhere, nor does one whose selector is 255: next and page refuse both alike.
--     refusal_at                 why a cursor that does not belong is refused: 1, 4 or 11
--     high-not                  a selector of D or more belongs nowhere
--     next-high, page-high      next and page there
--     sought-narrow, page-narrow     so the narrow cursor's answer is the cursor's own
use Rattle.std.specs.Prelude.{◌≡◌, refl, ℕ, ◌≤◌, ◌<◌, Bool, true, false, ◌&&◌, List, eqb, leb, ltb, Err}
use Rattle.std.proofs.Common.{sym, ap, ◌∙◌, subst, arith, leb-true, leb-false, le-ltb, ne_eqb}
use Rattle.refusal.specs.declared.Refusal.{Refusal}
use Rattle.refusal.specs.declared.Refusal.TheVariants.{Cursor as NotBelonging}
use Rattle.theory.specs.Tests.{cases}
use Rattle.tray.specs.Frame.{run_count, framed}
use Rattle.index.specs.Layout.{size_of, segment_count, index_framed}
use Rattle.index.specs.Layout.Laws.{index-fits}
use Rattle.walk.specs.declared.cursor.Cursor.{Cursor}
use Rattle.walk.specs.Walk.{Spot}
use Rattle.walk.specs.Reads.{belongs}
use Rattle.walk.specs.Code.{spot_of}
use Rattle.answers.specs.Quick.{in_frames}
use Rattle.answers.specs.Next.{next_framed, next_answer}
use Rattle.answers.specs.Page.{refused_page, page_framed, left_framed, page_answer, page_leaves}
use Rattle.kanyorith.specs.Promises.{Sought, Paging}
use Rattle.theorems.specs.Wide.{narrowed-same, narrow_high}
use Rattle.theorems.specs.Cursors.Laws.{narrow_cursor}

-- why a cursor at segment g that does not belong is refused
unfoldable pub refusal_at : List ℕ → List ℕ → ℕ → Refusal
refusal_at t x g = in_frames (λ (r : Refusal). r) t x (NotBelonging g)

-- a test with a part that fails, fails
and-fails : (a b : Bool) → b ≡ false → (a && b) ≡ false
and-fails true b e = e
and-fails false b e = refl

-- a selector of D or more belongs nowhere
pub high-not : (h : ℕ) (x : List ℕ) (c : Spot) → 0 < c.selector → size_of x ≤ c.selector → belongs h x c ≡ false
unfolding belongs
high-not h x c low high =
    rw (ne_eqb c.selector 0 (λ (z : c.selector ≡ 0). omega arith), le-ltb c.selector (size_of x) high)
    (rw (and-fails (eqb c.segment (segment_count x)) false refl, and-fails (ltb c.segment (segment_count x)) false refl))

module _ (t x : List ℕ) (c : Cursor) (high : 128 < c.selector) where
  not-belongs : index_framed (run_count t) x ≡ true → belongs (run_count t) x (spot_of c) ≡ false
  unfolding spot_of
  not-belongs f = let m = (index-fits (run_count t) x f).most in high-not (run_count t) x (spot_of c) (omega arith) (omega arith)

  pub next-high : next_answer t x c ≡ Err (refusal_at t x c.segment.0)
  unfolding next_answer next_framed refusal_at in_frames
  next-high =
      cases (framed t)
      (λ f. cases (index_framed (run_count t) x) (λ y. rw (f, y, not-belongs y)) (λ n. rw (f, n)))
      (λ n. rw n)

  module _ (out : List ℕ) where
    pub page-high : page_answer t x c out ≡ refused_page (refusal_at t x c.segment.0)
    unfolding page_answer page_framed refusal_at in_frames
    page-high =
        cases (framed t)
        (λ f. cases (index_framed (run_count t) x) (λ y. rw (f, y, not-belongs y)) (λ n. rw (f, n)))
        (λ n. rw n)

    pub leaves-high : page_leaves t x c out ≡ out
    unfolding page_leaves left_framed in_frames
    leaves-high =
        cases (framed t)
        (λ f. cases (index_framed (run_count t) x) (λ y. rw (f, y, not-belongs y)) (λ n. rw (f, n)))
        (λ n. rw n)

-- a cursor that is narrow is its own
narrow-same : (c : Cursor) → c.selector ≤ 255 → narrow_cursor c ≡ c
unfolding narrow_cursor
narrow-same c l = ap (λ (s : ℕ). record { segment = c.segment; selector = s; places = c.places }) (narrowed-same c.selector l)

-- and one that isn't has a high selector, narrow or not
narrow-still : (c : Cursor) → 255 < c.selector → 128 < (narrow_cursor c).selector
unfolding narrow_cursor
narrow-still c l = subst (λ n. 128 < n) (narrow_high l) (omega arith)

module _ (t x : List ℕ) (c : Cursor) where
  -- the refusal of both
  abbrev why : Refusal
  why = refusal_at t x c.segment.0

  narrow-refused : 255 < c.selector → next_answer t x (narrow_cursor c) ≡ Err why
  unfolding narrow_cursor
  narrow-refused l = next-high t x (narrow_cursor c) (narrow-still c l)

  narrow-paged : (out : List ℕ) → 255 < c.selector → page_answer t x (narrow_cursor c) out ≡ refused_page why
  unfolding narrow_cursor
  narrow-paged out l = page-high t x (narrow_cursor c) (narrow-still c l) out

  pub sought-narrow : {run place number figure run' place' : ℕ} {cursor cursor' : List ℕ}
      → Sought (next_answer t x (narrow_cursor c)) run place cursor number figure run' place' cursor'
      → Sought (next_answer t x c) run place cursor number figure run' place' cursor'
  sought-narrow {run} {place} {number} {figure} {run'} {place'} {cursor} {cursor'} s =
      cases (leb c.selector 255)
      (λ y. subst (λ d. Sought (next_answer t x d) run place cursor number figure run' place' cursor') (narrow-same c (leb-true _ _ y)) s)
      (λ n.
      let l : 255 < c.selector = leb-false c.selector 255 n in
      subst (λ a. Sought a run place cursor number figure run' place' cursor') (sym (next-high t x c (omega arith)))
      (subst (λ a. Sought a run place cursor number figure run' place' cursor') (narrow-refused l) s))

  pub page-narrow : (out : List ℕ) {number figure count : ℕ} {cursor cursor' left : List ℕ}
      → Paging (page_answer t x (narrow_cursor c) out) (page_leaves t x (narrow_cursor c) out) cursor number figure count cursor' left
      → Paging (page_answer t x c out) (page_leaves t x c out) cursor number figure count cursor' left
  page-narrow out {number} {figure} {count} {cursor} {cursor'} {left} s =
      cases (leb c.selector 255)
      (λ y. subst (λ d. Paging (page_answer t x d out) (page_leaves t x d out) cursor number figure count cursor' left) (narrow-same c (leb-true _ _ y)) s)
      (λ n.
      let l : 255 < c.selector = leb-false c.selector 255 n in
      subst (λ a. Paging a (page_leaves t x c out) cursor number figure count cursor' left) (sym (page-high t x c (omega arith) out))
      (subst (λ w. Paging (refused_page why) w cursor number figure count cursor' left) (leaves-high t x (narrow_cursor c) (narrow-still c l) out ∙ sym (leaves-high t x c (omega arith) out))
      (subst (λ a. Paging a (page_leaves t x (narrow_cursor c) out) cursor number figure count cursor' left) (narrow-paged out l) s)))
