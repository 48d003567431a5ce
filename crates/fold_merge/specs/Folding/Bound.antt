-- Places only rise, so runs stay at their ends.
--     ended-more           the runs from h on stay at their ends
use Rattle.std.specs.Prelude.{◌≡◌, ℕ, ◌+◌, ◌≤◌, List, length, get_or, set, ltb}
use Rattle.std.proofs.Common.{ap, arith, get_or-set_same, get_or-set_other, ltb-true, ltb-false}
use Rattle.std.proofs.Math.Seq.{set_out}
use Rattle.theory.specs.Tests.{cases, order}
use Rattle.index.specs.Scan.{raise}
use Rattle.merge_lead.specs.Heads.{Ended}

-- places only rise
raise-up : (places : List ℕ) (q r : ℕ) → get_or places r 0 ≤ get_or (raise places q) r 0
unfolding raise
raise-up places q r =
    cases (ltb q (length places))
    (λ y. order r q
    (λ l. let k = get_or-set_other places q r (get_or places q 0 + 1) 0 (λ e. omega arith) in omega arith)
    (λ e. rw e (let k = get_or-set_same places q (get_or places q 0 + 1) 0 (ltb-true _ _ y) in omega arith))
    (λ l. let k = get_or-set_other places q r (get_or places q 0 + 1) 0 (λ e. omega arith) in omega arith))
    (λ n. let k : get_or (set places q (get_or places q 0 + 1)) r 0 ≡ get_or places r 0 =
    ap (λ (s : List ℕ). get_or s r 0) (set_out places q (get_or places q 0 + 1) (ltb-false _ _ n)) in omega arith)

pub ended-more : {t places places' : List ℕ} {h : ℕ} (r : ℕ) → Ended t places h → places' ≡ raise places r → Ended t places' h
ended-more {t} {places} {places'} r e p =
    record { most = e.most; ended = λ i l u. rw p (omega (arith, e.ended i l u, raise-up places r i)) }
