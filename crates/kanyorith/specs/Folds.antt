-- Folding, as its callers see it (demand 3): chains of calls of fold of which none is refused, and what is read before and after.
--     Folds, folds-calls           such a chain, each call folding what the one before it wrote
--     sound-tray                   check tray accepts
--     Unchanged, unchanged         what stands before and after a chain
--     whole-says                   what folding everything at once says of the length
use Rattle.std.specs.Prelude.{◌≡◌, refl, ℕ, ◌-◌, ◌≤◌, ◌<◌, List, length, take, leb}
use Rattle.std.proofs.Common.{sym, ap, ◌∙◌, subst, arith, leb-true, leb-false}
use Rattle.number.specs.Big.{Bytes}
use Rattle.refusal.specs.declared.Verdict.{Verdict}
use Rattle.theory.specs.Tests.{cases, never}
use Rattle.tray.specs.Frame.{run_count}
use Rattle.tray.specs.Check.{check_tray_answer, Sound}
use Rattle.tray.proofs.Check.Theorems.{answers-records}
use Rattle.tray.specs.Meaning.{runs_of}
use Rattle.fold_spec.specs.Fold.{folded_run, fold_answer, fold_leaves, Calls, no_call, call}
use Rattle.fold_spec.specs.Fold.Laws.{InBounds}
use Rattle.theorems.specs.Unchanged.{Folded}
use Rattle.theorems.specs.Told.Laws.{count-zero}
use Rattle.kanyorith.specs.Promises.{CheckTray, Fold}
use Rattle.theorems.specs.Exactly.{FoldSays, fold-1, fold-8, fold-3, fold-2, fold-12, fold-7, fold-0, fold-exactly}
use Rattle.kanyorith.specs.Reads.{Accepted}

-- a chain of calls of fold of which none is refused: each folds what the one before it wrote
pub data Folds : List ℕ → List ℕ → Type 0 where
  no-fold : {t : List ℕ} → Folds t t
  one-fold : {t out left u : List ℕ} {a b n : ℕ} → Fold t a b out 0 n left → Folds (take n left) u → Folds t u

pub folds-calls : {t u : List ℕ} → Folds t u → Calls t u
folds-calls no-fold = no_call
folds-calls {u = u} (one-fold {t} {out} {left} {a = a} {b} {n} f rest) =
    let e = count-zero (fold_answer t a b (length out)) f.answers in
    call a b n out e (subst (λ (l : List ℕ). Calls (take n l) u) (f.leaving ∙ ap (fold_leaves t a b out) e) (folds-calls rest))

-- check tray accepts a sound tray
pub sound-tray : {t : List ℕ} {n : ℕ} → CheckTray t 0 n → Sound t
sound-tray {t} {n} c = ((answers-records t n).0 (count-zero (check_tray_answer t) c.answers)).0

-- a sound tray t, what a chain makes of it, u, and accepted indexes of both
pub record Unchanged (t x u y : List ℕ) : Type 0 where
  pub bytes : Bytes t
  pub records : ℕ
  pub sound : CheckTray t 0 records
  pub folds : Folds t u
  pub before : Accepted t x
  pub after : Accepted u y

pub unchanged : {t x u y : List ℕ} → Unchanged t x u y → Folded t x u y
unchanged {t} {x} {u} {y} w =
    record {
      sound = sound-tray w.sound;
      bytes = w.bytes;
      folds = folds-calls w.folds;
      before = w.before.segments;
      after = w.after.segments;
      accepts = count-zero _ w.before.says.answers;
      accepts-after = count-zero _ w.after.says.answers;
    }

-- a call of fold that is not refused for its length has none above 4,096
pub not-12 : {t out left : List ℕ} {a b n f : ℕ} → Sound t → InBounds t a b → Fold t a b out n f left → (n ≡ 12 → ⊥) → length (folded_run a b (runs_of t)) ≤ 4096
not-12 {t} {out} {a = a} {b} {n} {f} s h c off =
    cases (leb (length (folded_run a b (runs_of t))) 4096) (λ y. leb-true _ _ y)
    (λ no. absurd (off (ap (λ (v : Verdict). v.number)
    (c.answers ∙ sym ((fold-exactly t a b (length out) 12 (length (folded_run a b (runs_of t)))).1 (fold-12 s h (leb-false _ _ no)))))))

-- one that is has such a length
pub is-12 : {t out left : List ℕ} {a b f : ℕ} → Fold t a b out 12 f left → Sound t × InBounds t a b × (4096 < length (folded_run a b (runs_of t)))
is-12 {t} {out} {a = a} {b} {f} c = by ((fold-exactly t a b (length out) 12 f).0 c.answers) refl
  where
    by : {n g : ℕ} → FoldSays t a b (length out) n g → n ≡ 12 → Sound t × InBounds t a b × (4096 < length (folded_run a b (runs_of t)))
    by (fold-1 x) z = never (cc)
    by (fold-8 x w) z = never (cc)
    by (fold-3 n h w) z = never (cc)
    by (fold-2 n h w) z = never (cc)
    by (fold-12 s h l) z = (s, h, l)
    by (fold-7 s h l m) z = never (cc)
    by (fold-0 s h l m) z = never (cc)

-- everything at once is in bounds
pub whole-bounds : {t : List ℕ} → Sound t → InBounds t 0 (run_count t - 1)
whole-bounds {t} s = let some = s.frame.some-run in record { order = omega arith; within = omega arith }
