-- The cursor that next hands back belongs to the same tray and index, whatever the index says: next is refused, or its cursor belongs.
use Rattle.std.specs.Prelude.{◌≡◌, refl, ℕ, ◌<◌, true, cond, ◌&&◌, List, length, eqb, ltb, Err}
use Rattle.std.proofs.Common.{ap, ◌∙◌, subst, ltb-true}
use Rattle.theory.specs.Tests.{split, cases, never}
use Rattle.tray.specs.Frame.{run_count, Framed}
use Rattle.index.specs.Layout.{segment_count}
use Rattle.walk.specs.declared.cursor.Cursor.{Cursor}
use Rattle.walk.specs.Walk.{Spot, Visit, stay, go, Walked, stayed, ended, lost, walk_from}
use Rattle.walk.specs.Reads.{Found, end_spot, belongs, unmarked, found_by, next_visit, next}
use Rattle.walk.specs.Reads.Handed.{from-stands, stands-belongs, belongs-stands, end-belongs}
use Rattle.walk.specs.Code.{length-numbers, spot_of}
use Rattle.answers.specs.Seek.Hands.{in-frames, spot-belonging, Hands, spot_in}
use Rattle.answers.specs.Seek.{seek_told}
use Rattle.answers.specs.Next.{next_framed, next_answer}

-- next stays at the spot that it hands back
stays_at : (from : Spot) (v : ℕ) (c : Spot) (st : ℕ) (f : Found) → next_visit from v c st ≡ stay f → c ≡ f.spot
unfolding next_visit found_by spot_in
stays_at from v c st f e =
    cases (unmarked v && cond (eqb c.segment from.segment) (ltb from.selector c.selector) true) (λ y. ap spot_in (rw y at e)) (λ n. never (other (rw n at e)))
  where
    other : {a : ℕ} {b : Found} → ◌≡◌ {A = Visit ℕ Found} (go a) (stay b) → ◌≡◌ {A = ℕ} 0 1
    other z = cc

pub next-hands : (t x : List ℕ) (c : Cursor) → length c.places ≡ 63 → Hands t x (next_answer t x c)
unfolding next_answer next_framed seek_told next walk_from spot_of Hands
next-hands t x c room =
    in-frames (Hands t x) Err t x (next_framed t x c) (λ r. tt)
    (λ f i. split (Hands t x) (belongs (run_count t) x (spot_of c)) (λ b. told f b (next t x (spot_of c)) refl) (λ n. tt))
  where
    -- a walk that stayed began before the end
    inside : {a : Found} → next t x (spot_of c) ≡ stayed a → c.segment.0 < segment_count x
    inside e = cases (ltb c.segment.0 (segment_count x)) (λ y. ltb-true _ _ y) (λ n. never (ends (rw n at e)))
      where
        ends : {a : ℕ} {b : Found} → ◌≡◌ {A = Walked ℕ Found} (ended a) (stayed b) → ◌≡◌ {A = ℕ} 0 1
        ends z = cc

    told : Framed t → belongs (run_count t) x (spot_of c) ≡ true → (w : Walked ℕ Found) → next t x (spot_of c) ≡ w → Hands t x (seek_told x w)
    told f b (stayed a) e =
        (spot-belonging t x a.spot
        (from-stands t x f.most-runs (next_visit (spot_of c)) (λ u. belongs (run_count t) x u.spot ≡ true)
        (λ v d st u i n s. subst (λ q. belongs (run_count t) x q ≡ true) (stays_at (spot_of c) v d st u s) (stands-belongs i))
        (spot_of c) 0 (belongs-stands (spot_of c) f.most-runs (length-numbers c.places ∙ room) b (inside e)) a e))
    told f b (ended st) e = spot-belonging t x (end_spot x) (end-belongs (run_count t) x)
    told f b (lost g s st) e = tt
