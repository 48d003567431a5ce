-- Chains of fold calls of which none is refused, on bytes (demand 3). A chain starts at a sound tray of bytes.
--     Gives, call-gives          what a call that is not refused hands on: the folded tray, sound again
--     calls-sound, calls-chain   so is the tray after each call, and its runs follow a chain of folds
--     calls-merged, calls-visible    the merge of all, and what is live in it, stay
--     calls-one, calls-meet      a chain that reaches one run ends in the merge of all, and all such chains in the same bytes
--     whole_run_lem                  everything folded at once is the merge of all
--     length-never-stops, never-refuses-12     where run length lets everything fold at once, it stops no call of any chain
--     length-stops               where it does not, no chain reaches one run
--     only-length-stops          and given room, run length alone stops a call whose bounds hold
--     reaches-one, whole-call    where it lets it, given room, folding everything at once reaches one run, by a chain of one call
--     one-run                    so a chain to one run exists exactly when run length lets everything fold at once
use Rattle.std.specs.Prelude.{◌≡◌, refl, ◌↔◌, ◌⊎◌, ℕ, zero, ◌-◌, ◌≤◌, ◌<◌, List, [], ◌∷◌, take, replicate, leb, Ok, Err}
use Rattle.std.proofs.Common.{sym, subst, ◌∙◌, inl, inr, le_refl, arith, leb-true, leb-false}
use Rattle.std.proofs.Math.Path.{ap}
use Rattle.std.proofs.Math.ListN.{length}
use Rattle.std.proofs.lemmas.List.{length-replicate}
use Rattle.refusal.specs.declared.Refusal.TheVariants.{RunLength}
use Rattle.number.specs.Big.{Bytes}
use Rattle.theory.specs.Tests.{cases}
use Rattle.theory.specs.Lists.{here}
use Rattle.theory.specs.Rising.{keep}
use Rattle.theory.specs.Records.{Record, SoundRecord, live}
use Rattle.theory.specs.Hiding.{same_key}
use Rattle.theory.specs.Merge.{Chain, done, step}
use Rattle.theory.proofs.Merge.Chains.{fold-whole, chain-merged, chain-visible, chain-ends, chain-fold-length}
use Rattle.tray.specs.Frame.{run_count}
use Rattle.tray.specs.Check.{Sound}
use Rattle.tray.specs.Meaning.{runs_of}
use Rattle.tray.specs.Meaning.Laws.{length-runs_of, runs-good}
use Rattle.tray.specs.Meaning.Back.{fits-runs, runs_of-one}
use Rattle.fold_spec.specs.Fold.{key_of, folded_run, folded_runs, fold_size, fold_answer, fold_leaves, Calls, no_call, call}
use Rattle.fold_spec.specs.Fold.Laws.{InBounds, Foldable, key_rule}
use Rattle.fold_spec.proofs.Fold.Laws.{folded_run-whole, fold-sound, fold-bytes, fold-means}
use Rattle.fold_spec.proofs.Fold.Answers.{fold-written, fold-refuses-12}
use Rattle.fold_spec.proofs.Fold.Leaves.{leaves-written}
use Rattle.fold_spec.specs.Fold.Chains.{merge_of, whole_run, Gives, whole_bytes, whole_size}

pub call-gives : {t : List ℕ} {a b n : ℕ} (out : List ℕ) → Sound t → Bytes t → fold_answer t a b (length out) ≡ Ok n
    → Gives t a b (take n (fold_leaves t a b out (Ok n)))
call-gives {t} {a} {b} {n} out s bytes e =
    let w = (fold-written t a b (length out) n).0 e in
    let f : Foldable t a b = record { sound = s; bytes = bytes; bounds = w.1; short = w.2 } in
    let same = (leaves-written t a b out n e).front in
    record {
      foldable = f;
      is = same;
      sound = subst Sound (sym same) (fold-sound f);
      bytes = subst Bytes (sym same) (fold-bytes f);
      means = ap runs_of same ∙ fold-means f;
    }

pub calls-sound : {t u : List ℕ} → Sound t → Bytes t → Calls t u → Sound u × Bytes u
calls-sound s bytes no_call = (s, bytes)
calls-sound s bytes (call a b n out e c) = let g = call-gives out s bytes e in calls-sound g.sound g.bytes c

pub calls-chain : {t u : List ℕ} → Sound t → Bytes t → Calls t u → Chain key_of (same_key key_of) (runs_of t) (runs_of u)
unfolding folded_runs
calls-chain s bytes no_call = done
calls-chain {t} {u} s bytes (call a b n out e c) =
    let g = call-gives out s bytes e in
    let inside : b < length (runs_of t) = rw length-runs_of g.foldable.bounds.within in
    step a b g.foldable.bounds.order inside
    (subst (λ r. Chain key_of (same_key key_of) r (runs_of u)) g.means (calls-chain g.sound g.bytes c))

-- a list of one
single : (rs : List (List Record)) → length rs ≡ 1 → (r : List Record) × (rs ≡ r ∷ [])
single [] e = absurd (omega arith)
single (r ∷ []) e = (r, refl)
single (r ∷ q ∷ rs) e = absurd (omega arith)

-- a sound tray has a run
some-run : {t : List ℕ} → Sound t → 0 < length (runs_of t)
some-run s = rw length-runs_of s.frame.some-run

pub whole_run_lem : {t : List ℕ} → Sound t → whole_run t ≡ merge_of t
whole_run_lem {t} s = rw length-runs_of at (folded_run-whole (runs_of t) (some-run s))

module _ {t u : List ℕ} (s : Sound t) (bytes : Bytes t) (c : Calls t u) where
  pub calls-merged : merge_of u ≡ merge_of t
  calls-merged = chain-merged key_of (same_key key_of) (key_rule SoundRecord) (runs-good s) (calls-chain s bytes c)

  pub calls-visible : keep live (merge_of u) ≡ keep live (merge_of t)
  calls-visible = chain-visible key_of (same_key key_of) (key_rule SoundRecord) live (runs-good s) (calls-chain s bytes c)

  pub calls-one : run_count u ≡ 1 → runs_of u ≡ merge_of t ∷ []
  calls-one one =
      let r = single (runs_of u) (length-runs_of u ∙ one) in
      let c₁ = subst (Chain key_of (same_key key_of) (runs_of t)) r.1 (calls-chain s bytes c) in
      r.1 ∙ ap (λ q. q ∷ []) (chain-ends key_of (same_key key_of) (key_rule SoundRecord) (runs-good s) c₁)

  pub length-never-stops : length (whole_run t) ≤ 4096 → {a b : ℕ} → InBounds u a b → length (folded_run a b (runs_of u)) ≤ 4096
  unfolding folded_run
  length-never-stops short {a} {b} h =
      let inside : b < length (runs_of u) = rw length-runs_of h.within in
      omega (arith, chain-fold-length key_of (runs-good s) (calls-chain s bytes c) h.order inside, ap length (whole_run_lem s))

  pub never-refuses-12 : length (whole_run t) ≤ 4096 → (a b room n : ℕ) → fold_answer u a b room ≡ Err (RunLength n) → ⊥
  never-refuses-12 short a b room n e =
      let w = (fold-refuses-12 u a b room n).0 e in
      omega (arith, length-never-stops short w.1, w.2, w.3)

  -- given room, nothing but run length refuses a call whose bounds hold
  pub only-length-stops : (a b room : ℕ) → InBounds u a b → fold_size a b (runs_of u) ≤ room
      → (fold_answer u a b room ≡ Ok (fold_size a b (runs_of u)))
      ⊎ (fold_answer u a b room ≡ Err (RunLength (length (folded_run a b (runs_of u)))))
  only-length-stops a b room h fits =
      let sound = (calls-sound s bytes c).0 in
      cases (leb (length (folded_run a b (runs_of u))) 4096)
      (λ e. inl ((fold-written u a b room _).1 (sound, h, leb-true _ _ e, fits, refl)))
      (λ e. inr ((fold-refuses-12 u a b room _).1 (sound, h, leb-false _ _ e, refl)))

  pub length-stops : 4096 < length (whole_run t) → run_count u ≡ 1 → ⊥
  length-stops long one =
      let after = calls-sound s bytes c in
      let most = (fits-runs after.0.frame after.1).counts (merge_of t) (rw (calls-one one) here) in
      omega (arith, most, ap length (whole_run_lem s))

pub calls-meet : {t u v : List ℕ} → Sound t → Bytes t → Calls t u → run_count u ≡ 1 → Calls t v → run_count v ≡ 1 → u ≡ v
calls-meet s bytes c one d one₂ =
    let after = calls-sound s bytes c in
    let after₂ = calls-sound s bytes d in
    runs_of-one after.0.frame after.1 after₂.0.frame after₂.1 (calls-one s bytes c one ∙ sym (calls-one s bytes d one₂))

module _ {t : List ℕ} (s : Sound t) (bytes : Bytes t) where
  -- the bounds of all runs
  whole-bounds : InBounds t 0 (run_count t - 1)
  whole-bounds = let some : 1 ≤ run_count t = s.frame.some-run in record { order = omega arith; within = omega arith }

  -- everything folded at once means the merge of all as one run
  whole-means : length (whole_run t) ≤ 4096 → runs_of (whole_bytes t) ≡ merge_of t ∷ []
  unfolding folded_runs
  whole-means short =
      fold-means (record { sound = s; bytes = bytes; bounds = whole-bounds; short = short })
      ∙ (rw length-runs_of at (fold-whole key_of (same_key key_of) (runs_of t) (some-run s)))

  pub reaches-one : (room : ℕ) → length (whole_run t) ≤ 4096 → whole_size t ≤ room
      → (fold_answer t 0 (run_count t - 1) room ≡ Ok (whole_size t)) × (runs_of (whole_bytes t) ≡ merge_of t ∷ [])
  reaches-one room short fits =
      ((fold-written t 0 (run_count t - 1) room (whole_size t)).1 (s, whole-bounds, short, fits, refl), whole-means short)

  -- the chain of this one call
  pub whole-call : (out : List ℕ) → length (whole_run t) ≤ 4096 → whole_size t ≤ length out → Calls t (whole_bytes t)
  whole-call out short fits =
      let written = (reaches-one (length out) short fits).0 in
      let gives = call-gives out s bytes written in
      call 0 (run_count t - 1) (whole_size t) out written (subst (Calls _) gives.is no_call)

  pub one-run : (length (whole_run t) ≤ 4096) ↔ ((u : List ℕ) × Calls t u × (run_count u ≡ 1))
  one-run = (
    λ short. (whole_bytes t, whole-call (replicate (whole_size t) 0) short room, sym (length-runs_of (whole_bytes t)) ∙ ap length (whole-means short)),
    λ w. cases (leb (length (whole_run t)) 4096) (λ e. leb-true _ _ e) (λ e. absurd (length-stops s bytes w.1 (leb-false _ _ e) w.2)),
  )
    where
      room : whole_size t ≤ length (replicate (whole_size t) zero)
      room = rw length-replicate (le_refl (whole_size t))
