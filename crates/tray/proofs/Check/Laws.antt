-- Check tray's answer is what the table says, and only that.
--     numbered-one         a record's number says its run and place
--     says                 check tray's answer is one that the table gives
--     Wrong, says-one      the table gives one answer
--     check-says           so check tray gives an answer exactly when the table does
use Rattle.refusal.specs.declared.Refusal.{Refusal}
use Rattle.std.specs.Prelude.{◌≡◌, ◌↔◌, Bool, cond, List, Ok, Err, Result}
use Rattle.std.proofs.Math.Path.{refl, subst}
use Rattle.std.proofs.Common.{sym, ap, ap₂, ◌∙◌}
use Prim.Native.Nat.{ℕ, zero, suc, ◌+◌, ◌≤◌, ◌<◌}
use native.Mathlib.Omega.{arith}
use Rattle.std.proofs.Math.Bool.{true, false}
use Rattle.refusal.specs.declared.Refusal.TheVariants.{TrayFrame, KeyOrder, RecordKind}
use Rattle.theory.specs.Tests.{clash, order}
use Rattle.tray.specs.declared.Fault.{Fault}
use Rattle.tray.specs.Frame.{run_count, count_of, records_before, run_bytes, framed, Framed}
use Rattle.tray.specs.Frame.Laws.{framed-fits, fits-framed, upto, records_before-next, records_before-le}
use Rattle.tray.specs.Run.{record_at, kind_wrong}
use Rattle.tray.specs.Run.Laws.{Fine, Judged, all-fine, kind_at, key-at, judged, fine-sound, sound-fine, key-rises, rises-key, first_key}
use Rattle.tray.specs.Check.{after_run, check_runs, check_tray_answer, Sound, Numbered, RightBefore, Says, refused-1, refused-2, refused-3, records}
use Rattle.tray.specs.Check.Laws.{FineRun, FineRuns, Wrong, kind-wrong, key-wrong}

module _ (t : List ℕ) where
  -- record (q, i) comes before record (r, p)
  fine-at : (r p : ℕ) → p < count_of t r → FineRuns t r → ((i : ℕ) → i < p → Fine (run_bytes t r) i)
      → (q i : ℕ) → i < count_of t q → records_before t q + i < records_before t r + p → Fine (run_bytes t q) i
  fine-at r p l before here q i k h =
      order q r (λ b. before q b i k)
      (λ e. let z : records_before t q ≡ records_before t r = ap (records_before t) e in
      subst (λ n. Fine (run_bytes t n) i) (sym e) (here i (omega arith)))
      (λ a. let u : records_before t (suc r) ≤ records_before t q = records_before-le t (suc r) q a in
      let v : records_before t (suc r) ≡ records_before t r + count_of t r = records_before-next t r in
      absurd (omega arith))

  -- right up to place p of run r
  right-before : (r p : ℕ) → p < count_of t r → FineRuns t r → ((i : ℕ) → i < p → Fine (run_bytes t r) i) → RightBefore t (records_before t r + p)
  right-before r p l before here m q i num h =
      let e : m ≡ records_before t q + i = num.number in
      let f = fine-at r p l before here q i num.inside (omega arith) in
      (f.kind, f.key)

  fine-soundly : Framed t → FineRuns t (run_count t) → Sound t
  fine-soundly f fine =
      record {
        frame = f;
        kinds = λ r p l k. fine-sound _ (fine r l p k).kind;
        keys = λ r p l k. key-rises _ _ (fine r l (suc p) k).key;
      }

  -- k runs from run r on, those before it being right
  says-from : (k r : ℕ) → r + k ≡ run_count t → Framed t → FineRuns t r → Says t (check_runs k t r)
  unfolding check_runs after_run
  says-from zero r e f fine =
      let z : r ≡ run_count t = omega arith in
      subst (λ n. Says t (Ok (records_before t n))) (sym z) (records (fine-soundly f (subst (FineRuns t) z fine)))
  says-from (suc k) r e f fine = go (judged (run_bytes t r) (count_of t r) 0) (λ h. says-from k (suc r) (omega arith) f (upto fine h))
    where
      go : {a : Result (Unit {0}) Fault} → Judged (run_bytes t r) 0 (count_of t r) a → (FineRun t r → Says t (check_runs k t (suc r)))
          → Says t (after_run (records_before t r) a (check_runs k t (suc r)))
      go (all-fine g) next = next (λ i l. g i (omega arith) (omega arith))
      go (kind_at q l h g w) next =
          refused-3 _ r q f (record { run = omega arith; inside = omega arith; number = refl })
          (right-before r q (omega arith) fine (λ i l. g i (omega arith) l)) w
      go (key-at q l h g w v) next =
          refused-2 _ r q f (record { run = omega arith; inside = omega arith; number = refl })
          (right-before r q (omega arith) fine (λ i l. g i (omega arith) l)) w v

  pub says : Says t (check_tray_answer t)
  unfolding check_tray_answer
  says = go (framed t) refl
    where
      go : (b : Bool) → framed t ≡ b → Says t (cond b (check_runs (run_count t) t 0) (Err TrayFrame))
      go true e = says-from (run_count t) 0 (omega arith) (framed-fits t e) (λ q l. absurd (omega arith))
      go false e = refused-1 (λ f. clash (fits-framed t f) e)

  -- a record's number says its run,
  numbered-run : {n r p q i : ℕ} → Numbered t n r p → Numbered t n q i → r < q → ⊥
  numbered-run {n} {r} {p} {q} {i} a b l =
      let u : records_before t (suc r) ≤ records_before t q = records_before-le t (suc r) q l in
      let v : records_before t (suc r) ≡ records_before t r + count_of t r = records_before-next t r in
      let x : n ≡ records_before t r + p = a.number in
      let y : n ≡ records_before t q + i = b.number in
      let z : p < count_of t r = a.inside in
      omega arith

  -- and its place
  pub numbered-one : {n r p q i : ℕ} → Numbered t n r p → Numbered t n q i → (r ≡ q) × (p ≡ i)
  numbered-one {n} {r} {p} {q} {i} a b =
      let e : r ≡ q = order r q (λ l. absurd (numbered-run a b l)) (λ e. e) (λ l. absurd (numbered-run b a l)) in
      let z : records_before t r ≡ records_before t q = ap (records_before t) e in
      let x : n ≡ records_before t r + p = a.number in
      let y : n ≡ records_before t q + i = b.number in
      (e, omega arith)

  wrong-fine : {n m r p : ℕ} {Q : Type 0} → Numbered t n r p → Wrong t r p → RightBefore t m → n < m → Q
  wrong-fine num (kind-wrong w) right l = clash w (right _ _ _ num l).0
  wrong-fine num (key-wrong w) right l = clash w (right _ _ _ num l).1

  -- the first wrong record is one
  wrong-one : {n m r p q i : ℕ} → Numbered t n r p → Numbered t m q i → RightBefore t n → RightBefore t m → Wrong t r p → Wrong t q i → n ≡ m
  wrong-one {n} {m} a b ra rb u v = order n m (λ l. wrong-fine a u rb l) (λ e. e) (λ l. wrong-fine b v ra l)

  -- at one record the kind comes first
  kind-first : {n r p q i : ℕ} {Q : Type 0} → Numbered t n r p → Numbered t n q i
      → kind_wrong (record_at (run_bytes t r) p) ≡ true → kind_wrong (record_at (run_bytes t q) i) ≡ false → Q
  kind-first a b u v = let e = numbered-one a b in clash (ap₂ (λ x y. kind_wrong (record_at (run_bytes t x) y)) (sym e.0) (sym e.1) ∙ u) v

  -- in a sound tray no record is wrong
  sound-right : {n r p : ℕ} {Q : Type 0} → Sound t → Numbered t n r p → Wrong t r p → Q
  sound-right {p = p} s num (kind-wrong w) = clash w (sound-fine _ (s.kinds _ _ num.run num.inside))
  sound-right {p = zero} s num (key-wrong w) = clash w (first_key _)
  sound-right {p = suc p} s num (key-wrong w) = clash w (rises-key _ _ (s.keys _ _ num.run num.inside))

  pub says-one : {a b : Result ℕ Refusal} → Says t a → Says t b → a ≡ b
  says-one (refused-1 x) (refused-1 y) = refl
  says-one (refused-1 x) (refused-2 m q i f' b rb v k') = absurd (x f')
  says-one (refused-1 x) (refused-3 m q i f' b rb k') = absurd (x f')
  says-one (refused-1 x) (records s) = absurd (x s.frame)
  says-one (refused-2 n r p f a ra u k) (refused-1 y) = absurd (y f)
  says-one (refused-2 n r p f a ra u k) (refused-2 m q i f' b rb v k') =
      ap (λ x. Err (KeyOrder x)) (wrong-one a b ra rb (key-wrong k) (key-wrong k'))
  says-one (refused-2 n r p f a ra u k) (refused-3 m q i f' b rb v) =
      let e = wrong-one a b ra rb (key-wrong k) (kind-wrong v) in kind-first b (subst (λ x. Numbered t x r p) e a) v u
  says-one (refused-2 n r p f a ra u k) (records s) = sound-right s a (key-wrong k)
  says-one (refused-3 n r p f a ra u) (refused-1 y) = absurd (y f)
  says-one (refused-3 n r p f a ra u) (refused-2 m q i f' b rb v k') =
      let e = wrong-one a b ra rb (kind-wrong u) (key-wrong k') in kind-first (subst (λ x. Numbered t x r p) e a) b u v
  says-one (refused-3 n r p f a ra u) (refused-3 m q i f' b rb v) =
      ap (λ x. Err (RecordKind x)) (wrong-one a b ra rb (kind-wrong u) (kind-wrong v))
  says-one (refused-3 n r p f a ra u) (records s) = sound-right s a (kind-wrong u)
  says-one (records s) (refused-1 y) = absurd (y s.frame)
  says-one (records s) (refused-2 m q i f' b rb v k') = sound-right s b (key-wrong k')
  says-one (records s) (refused-3 m q i f' b rb v) = sound-right s b (kind-wrong v)
  says-one (records s) (records s') = refl

  -- check tray gives an answer exactly when the table does
  pub check-says : (a : Result ℕ Refusal) → (check_tray_answer t ≡ a) ↔ Says t a
  check-says a = (λ e. subst (Says t) e says, λ s. says-one says s)
