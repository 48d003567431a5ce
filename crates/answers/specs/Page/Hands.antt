-- The cursor that page hands back belongs to the same tray and index, whatever the index says: page is refused, or its cursor belongs.
use Rattle.std.specs.Prelude.{◌≡◌, refl, ⊤, ℕ, ◌+◌, ◌*◌, ◌<◌, true, List, [], length, ltb, leb, Result, Ok, Err}
use Rattle.std.proofs.Common.{ap, ◌∙◌, subst, ltb-true}
use Rattle.refusal.specs.declared.Refusal.{Refusal}
use Rattle.answers.specs.declared.Paged.{Paged}
use Rattle.theory.specs.Tests.{split, cases, never}
use Rattle.tray.specs.Frame.{run_count, Framed}
use Rattle.index.specs.Layout.{segment_count}
use Rattle.walk.specs.declared.cursor.Cursor.{Cursor}
use Rattle.walk.specs.Walk.{Spot, Visit, stay, go, Walked, stayed, ended, lost, walk_from}
use Rattle.walk.specs.Reads.{Written, end_spot, belongs, unmarked, page_visit, page}
use Rattle.walk.specs.Reads.Handed.{from-stands, stands-belongs, belongs-stands, end-belongs}
use Rattle.walk.specs.Code.{length-numbers, spot_of}
use Rattle.answers.specs.Seek.Hands.{in-frames, spot-belonging, Belonging}
use Rattle.answers.specs.declared.Rest.{Rest}
use Rattle.answers.specs.declared.Rest.TheVariants.{More, End}
use Rattle.answers.specs.Page.{refused_page, page_told, page_framed, page_answer}

-- the answer is refused, or its cursor belongs
unfoldable pub Hands : List ℕ → List ℕ → Result Rest Refusal → Type 0
Hands t x (Ok (More c)) = Belonging t x c
Hands t x (Ok (End c)) = Belonging t x c
Hands t x (Err f) = ⊤

-- where the visitor stays
spot_in : Visit Written (Written × Spot) → Spot
spot_in (stay w) = w.1
spot_in (go st) = record { segment = 0; selector = 0; places = [] }

-- page stays at the spot that it hands back
stays_at : (t : List ℕ) (v : ℕ) (c : Spot) (w : Written) (r : Written × Spot) → page_visit t v c w ≡ stay r → c ≡ r.1
unfolding page_visit spot_in
stays_at t v c w r e =
    cases (unmarked v)
    (λ y. cases (leb (24 * w.count + 24) (length w.out)) (λ z. never (other (rw (y, z) at e))) (λ z. ap spot_in (rw (y, z) at e)))
    (λ n. never (other (rw n at e)))
  where
    other : {a : Written} {b : Written × Spot} → ◌≡◌ {A = Visit Written (Written × Spot)} (go a) (stay b) → ◌≡◌ {A = ℕ} 0 1
    other z = cc

pub page-hands : (t x : List ℕ) (c : Cursor) (out : List ℕ) → length c.places ≡ 63 → Hands t x (page_answer t x c out).rest
unfolding page_answer page_framed page_told page walk_from spot_of Hands
page-hands t x c out room =
    in-frames (λ (p : Paged). Hands t x p.rest) refused_page t x (page_framed t x c out) (λ r. tt)
    (λ f i. split (λ (p : Paged). Hands t x p.rest) (belongs (run_count t) x (spot_of c)) (λ b. told f b (page t x (spot_of c) out) refl) (λ n. tt))
  where
    begins : Written
    begins = record { count = 0; out = out }

    -- a walk that stayed began before the end
    inside : {a : Written × Spot} → page t x (spot_of c) out ≡ stayed a → c.segment.0 < segment_count x
    inside e = cases (ltb c.segment.0 (segment_count x)) (λ y. ltb-true _ _ y) (λ n. never (ends (rw n at e)))
      where
        ends : {a : Written} {b : Written × Spot} → ◌≡◌ {A = Walked Written (Written × Spot)} (ended a) (stayed b) → ◌≡◌ {A = ℕ} 0 1
        ends z = cc

    told : Framed t → belongs (run_count t) x (spot_of c) ≡ true → (w : Walked Written (Written × Spot)) → page t x (spot_of c) out ≡ w → Hands t x (page_told x w).rest
    told f b (stayed a) e =
        (spot-belonging t x a.1
        (from-stands t x f.most-runs (page_visit t) (λ u. belongs (run_count t) x u.1 ≡ true)
        (λ v d st u i n s. subst (λ q. belongs (run_count t) x q ≡ true) (stays_at t v d st u s) (stands-belongs i))
        (spot_of c) begins (belongs-stands (spot_of c) f.most-runs (length-numbers c.places ∙ room) b (inside e)) a e))
    told f b (ended st) e = spot-belonging t x (end_spot x) (end-belongs (run_count t) x)
    told f b (lost g s st) e = tt
