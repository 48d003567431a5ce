-- Pages put together through an accepted index: exactly the visible records from the cursor on, whatever room each page has; and with 24 bytes
-- of room each they come to the end.
--     bytes_in, fitting                        the bytes that a page has written, and the records that fit
--     paged-stays, paged-ends, paged-lost     what a page that stays, or ends, has written; it is not lost
--     page-progress                           with 24 bytes of room a page writes a record or says the end
--     Pages, pages-are                        pages put together
--     pages-come                              they come to the end
use Rattle.std.specs.Prelude.{◌≡◌, refl, take, drop}
use Rattle.std.proofs.Math.Path.{sym, ap, ap₂}
use Rattle.std.proofs.Common.{◌∙◌, subst, arith, take-append-drop, take_at}
use Prim.Native.Nat.{ℕ, zero, suc, ◌-◌, ◌*◌, ◌≤◌, ◌<◌, min}
use mathlib.Core.List.{List, [], ◌∷◌, ◌++◌, map, map-append, append-nil}
use Rattle.std.proofs.Math.ListN.{length, length-map, length-take, length-drop}
use Rattle.theory.specs.Records.{Record}
use Rattle.theory.specs.Rising.{keep}
use Rattle.theory.specs.Tests.{never}
use Rattle.walk.specs.Walk.{Spot, Walked, stayed, ended, lost}
use Rattle.walk.specs.Walk.Spots.{Reading, Stop}
use Rattle.walk.specs.Walk.Tours.{first_of}
use Rattle.walk.specs.Reads.Shown.{point_of, is_shown}
use Rattle.walk.specs.Reads.Standing.{Standing, standing-kept}
use Rattle.walk.specs.Reads.Page.{listing, written, room, paged}
use Rattle.walk.proofs.ReadsLaws.Page.{listing-append, length-listing, page-is}
use Rattle.walk.specs.Reads.{Written, page}
use Rattle.walk.specs.Reads.Pages.{bytes_in, Pages, fitting, pages-end, pages-on}

first-stays : {d w : Written} {c : Spot} (ps : List Stop)
    → ◌≡◌ {A = Walked Written (Written × Spot)} (first_of (λ p. (d, p.spot)) ps d) (stayed (w, c))
    → (p : Stop) × (qs : List Stop) × (ps ≡ p ∷ qs) × (w ≡ d) × (c ≡ p.spot)
unfolding first_of
first-stays [] e = never (cc)
first-stays {d} {w} {c} (p ∷ qs) e =
    let same : ◌≡◌ {A = Written × Spot} (d, p.spot) (w, c) = cc in (p, qs, refl, ap (λ y. y.0) (sym same), ap (λ y. y.1) (sym same))

first_ends : {d w : Written} (ps : List Stop)
    → ◌≡◌ {A = Walked Written (Written × Spot)} (first_of (λ p. (d, p.spot)) ps d) (ended w) → (ps ≡ []) × (w ≡ d)
unfolding first_of
first_ends [] e = (refl, cc)
first_ends (p ∷ qs) e = never (cc)

never-lost : {Q : Type 0} (d : Written) {w : Written} {g s : ℕ} (ps : List Stop)
    → ◌≡◌ {A = Walked Written (Written × Spot)} (first_of (λ p. (d, p.spot)) ps d) (lost g s w) → Q
unfolding first_of
never-lost d [] e = never (cc)
never-lost d (p ∷ qs) e = never (cc)

module _ (qs : List Stop) (out : List ℕ) where
  pub paged-stays : {w : Written} {c : Spot} → paged qs out ≡ stayed (w, c)
      → (p : Stop) × (ps : List Stop) × (drop (room out) qs ≡ p ∷ ps) × (w ≡ written (fitting qs out) out) × (c ≡ p.spot)
  unfolding paged
  paged-stays e = first-stays (drop (room out) qs) e

  pub paged-ends : {w : Written} → paged qs out ≡ ended w → (drop (room out) qs ≡ []) × (w ≡ written (fitting qs out) out)
  unfolding paged
  paged-ends e = first_ends (drop (room out) qs) e

  pub paged-lost : {Q : Type 0} {g s : ℕ} {w : Written} → paged qs out ≡ lost g s w → Q
  unfolding paged
  paged-lost e = never-lost (written (fitting qs out) out) (drop (room out) qs) e

-- what a page has written
written-bytes : (es : List Record) (out : List ℕ) → bytes_in (written es out) ≡ listing es
unfolding written
written-bytes es out = take_at (listing es) (drop (24 * length es) out) (24 * length es) (length-listing es)

-- what fits, and what is left
fitting-left : (qs : List Stop) (out : List ℕ) → listing (fitting qs out) ++ listing (map point_of (drop (room out) qs)) ≡ listing (map point_of qs)
fitting-left qs out =
    sym (listing-append (fitting qs out) (map point_of (drop (room out) qs)))
    ∙ ap listing (sym (map-append point_of (take (room out) qs) (drop (room out) qs)))
    ∙ ap (λ l. listing (map point_of l)) (take-append-drop (room out) qs)

module _ {t x : List ℕ} (r : Reading t x) where
  -- the visible stops among some
  abbrev seen_in : List Stop → List Stop
  seen_in ps = keep (is_shown t) ps

  -- where a page stays, the visible stops that it has not written are left
  page-left : {c c' : Spot} {ps : List Stop} {w : Written} (out : List ℕ) → Standing t x c ps → page t x c out ≡ stayed (w, c')
      → (zs : List Stop) × Standing t x c' zs × (seen_in zs ≡ drop (room out) (seen_in ps)) × (w ≡ written (fitting (seen_in ps) out) out)
      × (0 < length (seen_in zs))
  page-left {ps = ps} out at e =
      let w = paged-stays (seen_in ps) out (sym (page-is r at out) ∙ e) in
      let k = standing-kept (is_shown t) at (take (room out) (seen_in ps)) w.0 w.1
      (sym (take-append-drop (room out) (seen_in ps)) ∙ ap (λ l. take (room out) (seen_in ps) ++ l) w.2) in
      (w.0 ∷ k.0, subst (λ s. Standing t x s (w.0 ∷ k.0)) (sym w.4) k.1, k.2 ∙ sym w.2, w.3, rw k.2 (omega arith))

  pub page-progress : {c c' : Spot} {ps : List Stop} {w : Written} (out : List ℕ) → Standing t x c ps → 24 ≤ length out
      → page t x c out ≡ stayed (w, c') → 0 < w.count
  unfolding written
  page-progress {ps = ps} out at l e =
      let k = page-left out at e in
      let left : length (seen_in k.0) ≡ length (seen_in ps) - room out = ap length k.2 ∙ length-drop (room out) (seen_in ps) in
      let long : length (fitting (seen_in ps) out) ≡ min (room out) (length (seen_in ps)) =
      length-map (take (room out) (seen_in ps)) point_of ∙ length-take (room out) (seen_in ps) in
      omega (arith, ap (λ (v : Written). v.count) k.3, k.4)

  pub pages-are : {outs : ℕ → List ℕ} {i : ℕ} {c : Spot} {ps : List Stop} {bytes : List ℕ} → Standing t x c ps → Pages t x outs i c bytes
      → bytes ≡ listing (map point_of (seen_in ps))
  unfolding listing
  pages-are {outs} {i} {ps = ps} at (pages-end e) =
      let w = paged-ends (seen_in ps) (outs i) (sym (page-is r at (outs i)) ∙ e) in
      ap bytes_in w.1 ∙ written-bytes (fitting (seen_in ps) (outs i)) (outs i) ∙ sym (append-nil _)
      ∙ ap (λ l. listing (fitting (seen_in ps) (outs i)) ++ listing (map point_of l)) (sym w.0) ∙ fitting-left (seen_in ps) (outs i)
  pages-are {outs} {i} {ps = ps} at (pages-on e more) =
      let k = page-left (outs i) at e in
      ap₂ {C = List ℕ} (λ a b. a ++ b) (ap bytes_in k.3 ∙ written-bytes (fitting (seen_in ps) (outs i)) (outs i))
      (pages-are k.1 more ∙ ap (λ l. listing (map point_of l)) k.2)
      ∙ fitting-left (seen_in ps) (outs i)

  module _ (outs : ℕ → List ℕ) (wide : (i : ℕ) → 24 ≤ length (outs i)) where
    -- fewer visible stops are left after each page
    page-fewer : {c c' : Spot} {ps : List Stop} {w : Written} (i : ℕ) → Standing t x c ps → page t x c (outs i) ≡ stayed (w, c')
        → (zs : List Stop) × Standing t x c' zs × (length (seen_in zs) < length (seen_in ps))
    page-fewer {ps = ps} i at e =
        let k = page-left (outs i) at e in
        let left : length (seen_in k.0) ≡ length (seen_in ps) - room (outs i) = ap length k.2 ∙ length-drop (room (outs i)) (seen_in ps) in
        (k.0, k.1, omega (arith, wide i, k.4))

    -- one page, and then the others
    pages-step : {c : Spot} {ps : List Stop} (i : ℕ) → Standing t x c ps
        → ((c' : Spot) (zs : List Stop) → Standing t x c' zs → length (seen_in zs) < length (seen_in ps)
        → (bytes : List ℕ) × Pages t x outs (suc i) c' bytes)
        → (bytes : List ℕ) × Pages t x outs i c bytes
    pages-step {c} {ps} i at others = go (page t x c (outs i)) refl
      where
        go : (a : Walked Written (Written × Spot)) → page t x c (outs i) ≡ a → (bytes : List ℕ) × Pages t x outs i c bytes
        go (stayed a) e = let k = page-fewer {c' = a.1} {w = a.0} i at e in
            let more = others a.1 k.0 k.1 k.2 in (bytes_in a.0 ++ more.0, pages-on e more.1)
        go (ended w) e = (bytes_in w, pages-end e)
        go (lost g s w) e = paged-lost (seen_in ps) (outs i) (sym (page-is r at (outs i)) ∙ e)

    -- no more pages than visible stops, and one
    pages-within : (m i : ℕ) {c : Spot} {ps : List Stop} → Standing t x c ps → length (seen_in ps) ≤ m → (bytes : List ℕ) × Pages t x outs i c bytes
    pages-within zero i at l = pages-step i at (λ c' zs next fewer. absurd (omega arith))
    pages-within (suc m) i at l = pages-step i at (λ c' zs next fewer. pages-within m (suc i) next (omega arith))

    pub pages-come : {c : Spot} {ps : List Stop} → Standing t x c ps → (i : ℕ) → (bytes : List ℕ) × Pages t x outs i c bytes
    pages-come {ps = ps} at i = pages-within (length (seen_in ps)) i at (omega arith)
