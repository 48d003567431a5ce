-- Seek and get through an accepted index are the full merge's (docs/RULES.md, "Reading through an index").
--     is_from, from              the visible stops from a key on
--     seek_is                   seek stays at the first visible record at or above the key, and ends where there is none
--     points, points-rise       the live part of the full merge, and that it rises
--     shown-shows               what the visible stops show
--     lookup, get-is            get is the value of the key's record in the live part of the merge, or absent
--     get-found, get_absent     the same from either side
use Rattle.std.specs.Prelude.{◌≡◌, ℕ, ◌≤◌, ◌<◌, Bool, true, false, ◌&&◌, eqb, leb}
use Rattle.std.proofs.Math.Path.{refl, ap}
use Rattle.std.proofs.Common.{sym, ◌∙◌, subst, ⊎_elim, arith}
use Rattle.std.proofs.Math.Bool.{cond}
use mathlib.Core.List.Memᴰ
use mathlib.Core.List.{List, [], ◌∷◌, map}
use borrow.Author.Tests.{eqb-false, eq-eqb, ne_eqb, leb-true, leb-false, lt-leb}
use Rattle.theory.specs.Records.{Record, live, SoundRecord}
use Rattle.theory.specs.Hiding.{same_key}
use Rattle.theory.proofs.Hiding.Laws.{same_key-rule}
use Rattle.theory.specs.Lists.{here, all_tail}
use Rattle.theory.specs.Rising.{Mem, All, Rises, none, more, keep}
use Rattle.theory.proofs.Rising.Kept.{keep-mem, mem-keep, rises-keep}
use Rattle.theory.specs.Merge.{merged}
use Rattle.theory.proofs.Merge.Laws.{merged-good}
use Rattle.theory.specs.Tests.{cases, clash}
use Rattle.tray.specs.Frame.{run_count}
use Rattle.tray.specs.Meaning.{runs_of}
use Rattle.index.specs.Rules.{key_of}
use Rattle.index.specs.Scan.Entry.{good}
use Rattle.walk.specs.Start.{start}
use Rattle.walk.specs.Start.Laws.{start-le, before-start}
use Rattle.walk.specs.Walk.{stay, go, walk_segments}
use Rattle.walk.specs.Walk.Spots.{Reading, Stop, spots, spots_from}
use Rattle.walk.specs.Walk.Tours.{first_of, tour-same, tour-first}
use Rattle.walk.specs.Walk.Segment.{seen}
use Rattle.walk.specs.Walk.Reached.{Reached, reach, walk-reached}
use Rattle.walk.specs.Reads.Kept.{keep_append, keep-none, keep-both}
use Rattle.walk.specs.Reads.Shown.{found_at, point_of, is_shown, shown, Shows, stop-shows, shown-merged}
use Rattle.walk.specs.Reads.{seek_visit, seek, Got, value, absent, got_from, get}

-- the key of a stop's record is at or above the key
abbrev pub is_from : ℕ → Stop → Bool
is_from key p = leb key (point_of p).key

-- the visible stops from a key on
abbrev pub from : List ℕ → List ℕ → ℕ → List Stop
from t x key = keep (is_from key) (shown t x)

-- the value of the key's record among some records, or absent
unfoldable pub lookup : ℕ → List Record → Got
lookup key [] = absent
lookup key (e ∷ es) = cond (eqb e.key key) (value e.value) (lookup key es)

-- the live part of the full merge
abbrev pub points : List ℕ → List Record
points t = keep live (merged key_of (same_key key_of) (runs_of t))

module _ {t x : List ℕ} (r : Reading t x) where
  module _ (key : ℕ) where
    -- a stop is looked for where its record is visible and at or above the key
    abbrev sought : Stop → Bool
    sought p = is_shown t p && is_from key p

    seek-visit : (p : Stop) → Shows t p → (st : ℕ) → seen t (seek_visit t key) p st ≡ cond (sought p) (stay (found_at p)) (go st)
    unfolding seek_visit
    seek-visit p s st = rw (s.marks, s.names, s.finds)

    -- before the start nothing is looked for
    none-sought : {k : ℕ} (at : Reached t x k (start (run_count t) x key)) → keep sought (spots t x)
        ≡ keep sought (spots_from t x k (start (run_count t) x key) at.before at.left)
    none-sought {k} at =
        ap (keep sought) at.parts ∙ keep_append sought at.passed _ ∙ rw (keep-none sought at.passed low) refl
      where
        low : All (λ p. sought p ≡ false) at.passed
        low p m =
            let l = before-start r key k at p.entry (subst (Mem p.entry) at.entries (Memᴰ.map (λ q. q.entry) m)) in
            off (is_shown t p) (lt-leb key (point_of p).key l)
          where
            off : (b : Bool) {c : Bool} → c ≡ false → (b && c) ≡ false
            off true e = e
            off false e = refl

    seek-reached : {k : ℕ} (at : Reached t x k (start (run_count t) x key))
        → walk_segments t x (seek_visit t key) k (start (run_count t) x key) 0 ≡ first_of found_at (from t x key) 0
    unfolding shown
    seek-reached {k} at =
        walk-reached r at (seek_visit t key) 0
        ∙ tour-same (seen t (seek_visit t key)) _ (spots_from t x k (start (run_count t) x key) at.before at.left)
        (λ p m. seek-visit p (stop-shows r p (subst (Mem p) (sym at.parts) (Memᴰ.append_right at.passed m)))) 0
        ∙ tour-first sought found_at _ 0
        ∙ ap (λ l. first_of found_at l 0) (sym (none-sought at) ∙ keep-both (is_shown t) (is_from key) (spots t x))

    pub seek_is : seek t x key ≡ first_of found_at (from t x key) 0
    unfolding seek
    seek_is = seek-reached (reach r (start (run_count t) x key) _ (omega (arith, start-le (run_count t) x key)))

  -- among records that are all above the key, it is absent
  lookup-above : (key : ℕ) (es : List Record) → All (λ e. key < e.key) es → lookup key es ≡ absent
  unfolding lookup
  lookup-above key [] h = refl
  lookup-above key (e ∷ es) h =
      rw (ne_eqb e.key key (λ p. omega (arith, h e here))) (lookup-above key es (all_tail h))

  -- the first record at or above the key decides, since keys rise
  got-first : (key : ℕ) (ps : List Stop) → All (Shows t) ps → Rises key_of (map point_of ps)
      → got_from t key (first_of found_at (keep (is_from key) ps) 0) ≡ lookup key (map point_of ps)
  unfolding got_from first_of found_at keep lookup
  got-first key [] h up = refl
  got-first key (p ∷ ps) h (more above up) =
      cases (is_from key p)
      (λ y. rw (y, (h p here).reads) (here_found (leb-true _ _ y)))
      (λ n. let l = leb-false key (point_of p).key n in
      rw (n, ne_eqb (point_of p).key key (λ q. omega arith)) (got-first key ps (all_tail h) up))
    where
      here_found : key ≤ (point_of p).key
          → cond (eqb (point_of p).key key) (value (point_of p).value) absent
          ≡ cond (eqb (point_of p).key key) (value (point_of p).value) (lookup key (map point_of ps))
      here_found l =
          cases (eqb (point_of p).key key) (λ y. rw y)
          (λ n. let d = eqb-false (point_of p).key key n in
          rw (n, lookup-above key (map point_of ps) (λ e m. omega (arith, above e m))))

  -- the live part of the merge rises
  pub points-rise : Rises key_of (points t)
  points-rise = rises-keep live key_of (merged-good key_of (same_key key_of) (same_key-rule SoundRecord key_of) (runs_of t) (good r.sound)).rises

  pub shown-shows : All (Shows t) (shown t x)
  unfolding shown
  shown-shows p m = stop-shows r p (keep-mem (is_shown t) (spots t x) m).0

  pub get-is : (key : ℕ) → get t x key ≡ lookup key (points t)
  unfolding get
  get-is key =
      ap (got_from t key) (seek_is key)
      ∙ got-first key (shown t x) shown-shows (subst (Rises key_of) (sym (shown-merged r)) points-rise)
      ∙ ap (lookup key) (shown-merged r)

-- the record that stands there is found, if keys rise
lookup-found : {es : List Record} → Rises key_of es → (e : Record) → Mem e es → lookup e.key es ≡ value e.value
unfolding lookup
lookup-found none e m = absurd (Memᴰ.not-nil m)
lookup-found (more {a = f} {xs = es} above up) e m =
    ⊎_elim (λ p. let same : f.key ≡ e.key = ap key_of (sym p) in
    rw (eq-eqb f.key e.key same) (ap (λ (y : Record). value y.value) (sym p)))
    (λ n. rw (ne_eqb f.key e.key (λ q. omega (arith, above e n))) (lookup-found up e n)) (Memᴰ.cases_cons m)

-- a key that none has is absent
lookup_absent : (key : ℕ) (es : List Record) → All (λ e. e.key ≡ key → ⊥) es → lookup key es ≡ absent
unfolding lookup
lookup_absent key [] h = refl
lookup_absent key (e ∷ es) h = rw (ne_eqb e.key key (h e here)) (lookup_absent key es (all_tail h))

module _ {t x : List ℕ} (r : Reading t x) where
  -- the newest version of a key, where it is live
  pub get-found : (e : Record) → Mem e (merged key_of (same_key key_of) (runs_of t)) → live e ≡ true → get t x e.key ≡ value e.value
  get-found e m l = get-is r e.key ∙ lookup-found (points-rise r) e (mem-keep live _ m l)

  -- absent where no version is newest and live
  pub get_absent : (key : ℕ) → ((e : Record) → Mem e (merged key_of (same_key key_of) (runs_of t)) → e.key ≡ key → live e ≡ false)
      → get t x key ≡ absent
  get_absent key h =
      get-is r key ∙ lookup_absent key (points t)
      (λ e m p. let k = keep-mem live (merged key_of (same_key key_of) (runs_of t)) m in clash k.1 (h e k.0 p))
