-- Check tray in the table's words (docs/RULES.md, "Refusals by number"): each answer exactly when.
use Rattle.refusal.specs.declared.Refusal.{Refusal}
use Rattle.std.specs.Prelude.{◌≡◌, refl, ◌↔◌, ℕ, List, Ok, Err, Result}
use Rattle.std.proofs.Common.{sym, subst}
use Rattle.theory.specs.Tests.{never}
use Rattle.refusal.specs.declared.Refusal.TheVariants.{TrayFrame, KeyOrder, RecordKind}
use Rattle.tray.specs.Frame.{run_count, records_before, Framed}
use Rattle.tray.specs.Check.{check_tray_answer, Sound, Numbered, RightBefore, Says, refused-1, refused-2, refused-3, records}
use Rattle.tray.proofs.Check.Laws.{check-says}
use Rattle.tray.specs.Check.Theorems.{WrongKeyAt, WrongKindAt}

module _ (t : List ℕ) where
  -- without a refusal check tray answers the records, and that exactly when the tray is sound
  pub answers-records : (n : ℕ) → (check_tray_answer t ≡ Ok n) ↔ (Sound t × (n ≡ records_before t (run_count t)))
  answers-records n = (λ e. from ((check-says t (Ok n)).0 e) refl, λ s. (check-says t (Ok n)).1 (subst (λ m. Says t (Ok m)) (sym s.1) (records s.0)))
    where
      from : {a : Result ℕ Refusal} → Says t a → a ≡ Ok n → Sound t × (n ≡ records_before t (run_count t))
      from (refused-1 x) e = never (cc)
      from (refused-2 m r p f a ra u k) e = never (cc)
      from (refused-3 m r p f a ra u) e = never (cc)
      from (records s) e = (s, cc)

  -- 1: the tray breaks the header, count or length rules
  pub refuses-1 : (check_tray_answer t ≡ Err TrayFrame) ↔ (Framed t → ⊥)
  refuses-1 = (λ e. from ((check-says t (Err TrayFrame)).0 e) refl, λ x. (check-says t (Err TrayFrame)).1 (refused-1 x))
    where
      from : {a : Result ℕ Refusal} → Says t a → a ≡ Err TrayFrame → Framed t → ⊥
      from (refused-1 x) e = x
      from (refused-2 m r p f a ra u k) e = never (cc)
      from (refused-3 m r p f a ra u) e = never (cc)
      from (records s) e = never (cc)

  -- 2: a key is the first thing wrong
  pub refuses-2 : (n : ℕ) → (check_tray_answer t ≡ Err (KeyOrder n)) ↔ WrongKeyAt t n
  refuses-2 n = (
    λ e. from ((check-says t (Err (KeyOrder n))).0 e) refl,
    λ w. (check-says t (Err (KeyOrder n))).1 (refused-2 n w.0 w.1 w.2.frame w.2.numbered w.2.before w.3 w.4),
  )
    where
      from : {a : Result ℕ Refusal} → Says t a → a ≡ Err (KeyOrder n) → WrongKeyAt t n
      from (refused-1 x) e = never (cc)
      from (refused-2 m r p f a ra u k) e =
          let z : m ≡ n = cc in
          (r, p, record { frame = f; numbered = subst (λ x. Numbered t x r p) z a; before = subst (λ x. RightBefore t x) z ra }, u, k)
      from (refused-3 m r p f a ra u) e = never (cc)
      from (records s) e = never (cc)

  -- 3: a kind is
  pub refuses-3 : (n : ℕ) → (check_tray_answer t ≡ Err (RecordKind n)) ↔ WrongKindAt t n
  refuses-3 n = (
    λ e. from ((check-says t (Err (RecordKind n))).0 e) refl,
    λ w. (check-says t (Err (RecordKind n))).1 (refused-3 n w.0 w.1 w.2.frame w.2.numbered w.2.before w.3),
  )
    where
      from : {a : Result ℕ Refusal} → Says t a → a ≡ Err (RecordKind n) → WrongKindAt t n
      from (refused-1 x) e = never (cc)
      from (refused-2 m r p f a ra u k) e = never (cc)
      from (refused-3 m r p f a ra u) e =
          let z : m ≡ n = cc in
          (r, p, record { frame = f; numbered = subst (λ x. Numbered t x r p) z a; before = subst (λ x. RightBefore t x) z ra }, u)
      from (records s) e = never (cc)
