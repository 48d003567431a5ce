-- The cursor that seek hands back belongs to the same tray and index, whatever the index says.
--     in-frames                what holds of each refusal and of the answer where both frames fit holds of the answer
--     spot_back                a spot is the one of its cursor
--     Belonging                the cursor belongs
--     Hands                    the answer is refused, or its cursor belongs
--     seek-hands               so it is of seek
use Rattle.std.specs.Prelude.{◌≡◌, refl, ⊤, ℕ, ◌-◌, true, ◌&&◌, List, [], ◌∷◌, map, leb, Result, Ok, Err}
use Rattle.std.proofs.Common.{sym, ap, subst, arith}
use Rattle.number.specs.Big.{be}
use Rattle.refusal.specs.declared.Refusal.{Refusal}
use Rattle.refusal.specs.declared.Refusal.TheVariants.{TrayFrame, IndexFrame}
use Rattle.theory.specs.Tests.{split, cases, never}
use Rattle.tray.specs.Frame.{run_count, framed, Framed}
use Rattle.tray.specs.Frame.Laws.{framed-fits}
use Rattle.index.specs.Layout.{segment_count, index_framed}
use Rattle.walk.specs.declared.cursor.Cursor.{Cursor}
use Rattle.answers.specs.declared.Stand.{Stand}
use Rattle.answers.specs.declared.Stand.TheVariants.{Found, End}
use Rattle.walk.specs.Start.{start}
use Rattle.walk.specs.Start.Laws.{start-le}
use Rattle.walk.specs.Walk.{Spot, Visit, stay, go, Walked, stayed, ended, lost}
use Rattle.walk.specs.Reads.{Found as Sighted, end_spot, belongs, unmarked, record_by, found_by, seek_visit, seek}
use Rattle.walk.specs.Reads.Handed.{segments-stand, stands-belongs, end-belongs}
use Rattle.walk.specs.Code.{numbers, spot_of}
use Rattle.answers.specs.Quick.{cursor_of, in_frames}
use Rattle.answers.specs.Seek.{seek_told, seek_framed, seek_answer}

-- what holds of each refusal, and of the answer where both frames fit, holds of the answer
pub in-frames : {A : Type 0} (P : A → Type 0) (refused : Refusal → A) (t x : List ℕ) (fits : A) → ((r : Refusal) → P (refused r))
    → (Framed t → index_framed (run_count t) x ≡ true → P fits) → P (in_frames refused t x fits)
unfolding in_frames
in-frames P refused t x fits off on =
    split P (framed t) (λ y. split P (index_framed (run_count t) x) (λ z. on (framed-fits t y) z) (λ n. off IndexFrame)) (λ n. off TrayFrame)

-- a spot is the one of its cursor
places_same : (ns : List ℕ) → numbers (map (λ (p : ℕ). record { 0 = p }) ns) ≡ ns
unfolding numbers
places_same [] = refl
places_same (n ∷ ns) = ap (λ (l : List ℕ). n ∷ l) (places_same ns)

pub spot_back : (c : Spot) → spot_of (cursor_of c) ≡ c
unfolding spot_of cursor_of
spot_back c = ap (λ (ps : List ℕ). record { segment = c.segment; selector = c.selector; places = ps }) (places_same c.places)

-- the cursor belongs
unfoldable pub Belonging : List ℕ → List ℕ → Cursor → Type 0
Belonging t x c = belongs (run_count t) x (spot_of c) ≡ true

pub spot-belonging : (t x : List ℕ) (c : Spot) → belongs (run_count t) x c ≡ true → Belonging t x (cursor_of c)
unfolding Belonging
spot-belonging t x c b = subst (λ e. belongs (run_count t) x e ≡ true) (sym (spot_back c)) b

-- the answer is refused, or its cursor belongs
unfoldable pub Hands : List ℕ → List ℕ → Result Stand Refusal → Type 0
Hands t x (Ok (Found run place c)) = Belonging t x c
Hands t x (Ok (End c)) = Belonging t x c
Hands t x (Err f) = ⊤

-- where a visitor stays
unfoldable pub spot_in : Visit ℕ Sighted → Spot
spot_in (stay f) = f.spot
spot_in (go st) = record { segment = 0; selector = 0; places = [] }

-- seek stays at the spot that it hands back
stays_at : (t : List ℕ) (key v : ℕ) (c : Spot) (st : ℕ) (f : Sighted) → seek_visit t key v c st ≡ stay f → c ≡ f.spot
unfolding seek_visit found_by spot_in
stays_at t key v c st f e =
    cases (unmarked v && leb key (record_by t v c).key) (λ y. same (rw y at e)) (λ n. never (other (rw n at e)))
  where
    same : {a b : Sighted} → ◌≡◌ {A = Visit ℕ Sighted} (stay a) (stay b) → a.spot ≡ b.spot
    same z = ap spot_in z

    other : {a : ℕ} {b : Sighted} → ◌≡◌ {A = Visit ℕ Sighted} (go a) (stay b) → ◌≡◌ {A = ℕ} 0 1
    other z = cc

pub seek-hands : (t x key : List ℕ) → Hands t x (seek_answer t x key)
unfolding seek_answer seek_framed seek_told seek Hands
seek-hands t x key =
    in-frames (Hands t x) Err t x (seek_framed t x (be 8 key 0)) (λ r. tt) (λ f i. told f (seek t x (be 8 key 0)) refl)
  where
    told : Framed t → (w : Walked ℕ Sighted) → seek t x (be 8 key 0) ≡ w → Hands t x (seek_told x w)
    told f (stayed a) e =
        (spot-belonging t x a.spot
        (segments-stand t x f.most-runs (seek_visit t (be 8 key 0)) (λ b. belongs (run_count t) x b.spot ≡ true)
        (λ v c st b i n s. subst (λ d. belongs (run_count t) x d ≡ true) (stays_at t (be 8 key 0) v c st b s) (stands-belongs i))
        (segment_count x - start (run_count t) x (be 8 key 0)) (start (run_count t) x (be 8 key 0)) 0 (omega (arith, start-le (run_count t) x (be 8 key 0))) a e))
    told f (ended st) e = spot-belonging t x (end_spot x) (end-belongs (run_count t) x)
    told f (lost g s st) e = tt
