-- What a tray with one run needs: what comes next is that run's next record.
--     one-next, one-least     the run comes next; the key that leads
--     kind-next, low-place    the kind of a run's next record
use Rattle.std.specs.Prelude.{◌≡◌, ℕ, ◌+◌, ◌*◌, ◌≤◌, ◌<◌, List, length, get_or}
use Rattle.std.proofs.Common.{sym, ap, ◌∙◌, subst, arith}
use Rattle.tray.specs.declared.Tray.{Tray}
use Rattle.tray.specs.Frame.{run_count, count_of, run_bytes}
use Rattle.tray.specs.Run.{record_at}
use Rattle.index.specs.Scan.{next_in}
use Rattle.merge.specs.One.{IsOne}
use Rattle.merge.specs.declared.merging.One.{One}
use Rattle.merge_lead.specs.Heads.{next_key}
use Rattle.merge_lead.specs.Heads.Leads.{NextRun, LeastKey}

module _ (tray : Tray) (places : List ℕ) (one : tray.runs ≡ 1) where
  pub one-next : {run : List ℕ} {k : ℕ} → run ≡ run_bytes tray.bytes.now 0 → k ≡ (record_at run (get_or places 0 0)).key → get_or places 0 0 < count_of tray.bytes.now 0
      → NextRun tray.bytes.now tray.runs places 0 k
  unfolding next_in
  one-next {k = k} b e l =
      let t = tray.bytes.now in
      let key : k ≡ (next_in t places 0).key = e ∙ ap (λ (s : List ℕ). (record_at s (get_or places 0 0)).key) b in
      record {
        run = omega arith;
        has = l;
        is = λ _. sym key;
        low = λ i p q. subst (λ (j : ℕ). k ≤ (next_in t places j).key) {x = 0} {y = i} (omega arith) (omega (arith, key));
        before = λ i p q. absurd (omega arith);
      }

  pub one-least : {k : ℕ} → k ≡ next_key tray.bytes.now places 0 → LeastKey tray.bytes.now tray.runs places k
  one-least {k} e =
      record {
        low = λ i p. subst (λ (j : ℕ). k ≤ next_key tray.bytes.now places j) {x = 0} {y = i} (omega arith) (omega (arith, e));
        got = λ _. (0, omega arith, sym e);
      }

pub kind-next : (t places : List ℕ) {run : List ℕ} {r i k : ℕ} → i ≡ r → run ≡ run_bytes t r → k ≡ (record_at run (get_or places i 0)).kind → k ≡ (next_in t places r).kind
unfolding next_in
kind-next t places {run} {r} {i} e b h =
    h ∙ ap (λ (s : List ℕ). (record_at s (get_or places i 0)).kind) b ∙ ap (λ (j : ℕ). (record_at (run_bytes t r) (get_or places j 0)).kind) e

-- a run with something left has a next record
pub low-place : {tray : Tray} {one : One} (places : List ℕ) {r : ℕ} → IsOne tray one → (r < run_count tray.bytes.now) × (get_or places r 0 < count_of tray.bytes.now r)
    → 25 * get_or places 0 0 + 25 ≤ length one.run.now
low-place {tray} {one} places {r} w h =
    let e : r ≡ 0 = omega (arith, h.0, w.one-run, tray.frame.runs) in
    let l : get_or places 0 0 < count_of tray.bytes.now 0 = rw e at h.1 in
    omega (arith, w.records, w.long)
