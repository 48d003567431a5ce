-- What page's functions promise each other, and what they need of its answer.
--     rest_of                       where a page stops as page tells it
--     page-low                      a cursor that belongs stands at a selector, or is the end
--     page-refused                  the frames refuse
--     page-told, page-off           what the code's page hands over is page's answer, and what it leaves; a cursor that doesn't belong
use Rattle.std.specs.Prelude.{◌≡◌, refl, ℕ, ◌≤◌, Bool, true, false, ◌&&◌, ◌||◌, List, Option, Some, None, Result, Ok, Err, eqb, ltb}
use Rattle.std.proofs.Common.{sym, ap, ap₂, ◌∙◌, arith, eqb-true, ltb-true}
use Rattle.refusal.specs.declared.Refusal.{Refusal}
use Rattle.refusal.specs.declared.Refusal.TheVariants.{Lost as LostAt, Cursor as NotBelonging}
use Rattle.theory.specs.Tests.{cases, clash}
use Rattle.tray.specs.Frame.{run_count}
use Rattle.index.specs.Layout.{segment_count, size_of}
use Rattle.walk.specs.declared.cursor.Cursor.{Cursor}
use Rattle.walk.specs.declared.cursor.Lost.{Lost}
use Rattle.walk.specs.Opens.{frames}
use Rattle.walk.specs.Walk.{walk_from}
use Rattle.walk.specs.Reads.{belongs, page, page_visit}
use Rattle.walk.specs.Code.{Walking, spot_of}
use Rattle.walk.specs.Code.Moves.{end_at}
use Rattle.answers.specs.declared.Paged.{Paged}
use Rattle.answers.specs.declared.Rest.{Rest}
use Rattle.answers.specs.declared.Rest.TheVariants.{More, End}
use Rattle.answers.specs.Code.{cursor-back, end-at, frames-fit, frames-refused}
use Rattle.answers.specs.Page.{refused_page, page_told, page_left, page_framed, left_framed, page_answer, page_leaves}
use Rattle.list.specs.declared.points.PageEnd.{PageEnd}
use Rattle.list.specs.Page.{begun, so_far, paged_as, paged_of}

-- where a page stops as page tells it, for an index of n segments
unfoldable pub rest_of : ℕ → Result (Option Cursor) Lost → Result Rest Refusal
rest_of n (Ok (Some c)) = Ok (More c)
rest_of n (Ok None) = Ok (End (end_at n))
rest_of n (Err l) = Err (LostAt l.segment l.selector)

-- what the code's page hands over, as page tells it
told-as : (x : List ℕ) (n k : ℕ) (a : Result (Option Cursor) Lost) (out : List ℕ) → n ≡ segment_count x
    → ◌≡◌ {A = Paged} (record { count = k; rest = rest_of n a }) (page_told x (paged_as a (so_far k out)))
unfolding rest_of page_told paged_as
told-as x n k (Ok (Some c)) out e = ap (λ (m : Cursor). record { count = k; rest = Ok (More m) }) (sym (cursor-back c))
told-as x n k (Ok None) out e = ap (λ (m : Cursor). record { count = k; rest = Ok (End m) }) (end-at x e)
told-as x n k (Err l) out e = refl

left-as : (a : Result (Option Cursor) Lost) (k : ℕ) (out : List ℕ) → out ≡ page_left (paged_as a (so_far k out))
unfolding page_left paged_as
left-as (Ok (Some c)) k out = refl
left-as (Ok None) k out = refl
left-as (Err l) k out = refl

-- the frames refuse
pub page-refused : (t x : List ℕ) (c : Cursor) (out : List ℕ) {r : Refusal} → frames t x ≡ Some r → (refused_page r ≡ page_answer t x c out) × (out ≡ page_leaves t x c out)
unfolding page_answer page_leaves
page-refused t x c out e =
    (sym (frames-refused refused_page t x (page_framed t x c out) e), sym (frames-refused (λ (r : Refusal). out) t x (left_framed t x c out) e))

-- neither part of a test holds
neither : (a b c d e f : Bool) → b ≡ false → e ≡ false → ((a && (b && c)) || (d && (e && f))) ≡ false
neither true b c true e f p q = rw (p, q)
neither true b c false e f p q = rw p
neither false b c true e f p q = rw q
neither false b c false e f p q = refl

-- where they fit, for the tray and the index as the code has them
module _ {t x t₁ x₁ : List ℕ} (fits : frames t x ≡ None) (a : t₁ ≡ t) (b : x₁ ≡ x) {h d n : ℕ} {counts : List ℕ} (w : Walking t₁ x₁ h d n counts) (c : Cursor) (out : List ℕ) {y : Bool}
    (told : y ≡ belongs h x₁ (spot_of c)) where
  same : belongs (run_count t₁) x₁ (spot_of c) ≡ y
  same = ap (λ (k : ℕ). belongs k x₁ (spot_of c)) (sym w.runs) ∙ sym told

  answer-is : {r : Paged} → r ≡ page_framed t₁ x₁ c out → r ≡ page_answer t x c out
  unfolding page_answer
  answer-is e = e ∙ ap₂ (λ (u v : List ℕ). page_framed u v c out) a b ∙ sym (frames-fit refused_page t x (page_framed t x c out) fits)

  leaves-is : {after : List ℕ} → after ≡ left_framed t₁ x₁ c out → after ≡ page_leaves t x c out
  unfolding page_leaves
  leaves-is e = e ∙ ap₂ (λ (u v : List ℕ). left_framed u v c out) a b ∙ sym (frames-fit (λ (r : Refusal). out) t x (left_framed t x c out) fits)

  -- a cursor that belongs stands at a selector, or is the end
  pub page-low : y ≡ true → c.selector ≤ d
  unfolding belongs spot_of
  page-low e =
      let size : d ≡ size_of x₁ = w.index.size in
      cases (eqb c.selector 0)
      (λ z. omega (arith, eqb-true c.selector 0 z))
      (λ z. cases (ltb c.selector (size_of x₁))
      (λ l. omega (arith, ltb-true c.selector (size_of x₁) l))
      (λ l. clash (sym told ∙ e) (neither _ _ _ _ _ _ z l)))

  -- what the code's page hands over is page's answer, and what it leaves
  pub page-told : y ≡ true → (p : PageEnd) {after : List ℕ} {rest : Result Rest Refusal} → paged_of p after ≡ walk_from t₁ x₁ (page_visit t₁) (spot_of c) (begun out)
      → rest ≡ rest_of n p.stop → (◌≡◌ {A = Paged} (record { count = p.count; rest = rest }) (page_answer t x c out)) × (after ≡ page_leaves t x c out)
  unfolding page_framed left_framed page paged_of begun
  page-told e p {after} {rest} walked r = (
    answer-is
        (ap (λ (q : Result Rest Refusal). record { count = p.count; rest = q }) r
        ∙ told-as x₁ n p.count p.stop after w.index.count
        ∙ ap (page_told x₁) walked
        ∙ sym (rw (same ∙ e))),
    leaves-is (left-as p.stop p.count after ∙ ap page_left walked ∙ sym (rw (same ∙ e))),
  )

  -- a cursor that doesn't belong
  pub page-off : y ≡ false → {m : ℕ} → m ≡ c.segment.0 → (refused_page (NotBelonging m) ≡ page_answer t x c out) × (out ≡ page_leaves t x c out)
  unfolding page_framed left_framed
  page-off e k = (answer-is (ap (λ (m : ℕ). refused_page (NotBelonging m)) k ∙ sym (rw (same ∙ e))), leaves-is (sym (rw (same ∙ e))))
