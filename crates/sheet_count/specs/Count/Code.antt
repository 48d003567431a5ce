-- What the code of the count needs of the definitions.
--     Seeking, seeking-first, seeking-more, past-here, past_end     the loop that looks for the bound
--     tour-below, tour-past                                         what sheet does at a segment's stops
--     remembers-none, remembers-fits, remembers-more                what is remembered
--     Counting                                                      the loop over segments
--     within-part                                                   the gathered ones are part of what is remembered
--     counted-past, counted-lost, counted-on, counted-few           its turn: at the bound, lost, after the segment
use Rattle.std.specs.Prelude.{◌≡◌, refl, false, cond, length, get_or, take, drop, leb}
use Rattle.std.proofs.Math.Path.{sym, ap}
use Rattle.std.proofs.Common.{ap₂, ◌∙◌, subst, add-zero, length-append, length-take-le, take_all, get_or-drop, length-drop, take-take}
use Prim.Native.Nat.{ℕ, zero, suc, ◌+◌, ◌-◌, ◌*◌, ◌≤◌, ◌<◌}
use native.Mathlib.Omega.{arith}
use mathlib.Core.List.{List, [], ◌∷◌, ◌++◌, map, map-append, append-nil}
use Rattle.std.proofs.lemmas.List.{length-map, drop-take}
use Rattle.std.proofs.Math.Seq.{take-append-add, append_snoc, drop-append_seam}
use borrow.Author.Tests.{le-leb, lt-leb, leb-true, leb-false}
use Rattle.theory.specs.Lists.{here, all_tail}
use Rattle.theory.specs.Records.{Record}
use Rattle.theory.specs.Rising.{All}
use Rattle.theory.specs.Tests.{cases}
use Rattle.tray.specs.declared.Place.{Place}
use Rattle.tray.specs.Frame.{Framed}
use Rattle.tray.specs.Run.{record_from, record_at}
use Rattle.walk.specs.Walk.{Spot, Visit, stay, go, Walked, stayed, lost, walk_selectors, walk_segments}
use Rattle.walk.specs.Walk.Tours.{after, tour_then}
use Rattle.walk.specs.Reads.{unmarked, sheet_visit}
use Rattle.walk.specs.Code.{numbers}
use Rattle.walk.specs.Code.Turns.{Here}
use Rattle.list.specs.Stops.{NamedStop, stops_in, position_of, Within, GatheredFrom}
use Rattle.list.specs.Stops.Laws.{seen_at, then_on, then-lost, then-rest, walk-stops, record-part, Right, stops-right, within_none, within-take, gathered-within}
use Rattle.list.specs.Steps.{Entering}
use Rattle.walk.specs.declared.cursor.Lost.{Lost}
use Rattle.sheet_count.specs.Count.{Past, Remembered}

-- the loop that looks for the bound: all keys before this one are below it
pub record Seeking (t ats : List ℕ) (high i : ℕ) : Type 0 where
  pub below : (j : ℕ) → j < i → (record_from t (get_or ats j 0)).key < high

pub seeking-first : (t ats : List ℕ) (high : ℕ) → Seeking t ats high 0
seeking-first t ats high = record { below = λ j a. absurd (omega arith) }

module _ {t ats : List ℕ} {high i : ℕ} (s : Seeking t ats high i) where
  module _ (l : i < length ats) {a e key : ℕ} (here : a ≡ get_or ats i 0) (end : e ≡ a + 25) (read : key ≡ (record_at (take (e - a) (drop a t)) 0).key) where
    -- the key that is read
    key-is : key ≡ (record_from t (get_or ats i 0)).key
    key-is =
        read
        ∙ ap (λ (r : Record). r.key) (record-part t a (e - a) 0 (omega arith) ∙ ap (record_from t) (add-zero a ∙ here))

    pub past-here : high ≤ key → Past t ats high i
    past-here k = record { most = omega arith; below = s.below; past = λ _. omega (arith, key-is) }

    pub seeking-more : key < high → Seeking t ats high (i + 1)
    seeking-more k =
        record {
          below = λ j b. cases (leb i j)
              (λ y. let z : j ≡ i = omega (arith, leb-true i j y) in subst (λ (q : ℕ). (record_from t (get_or ats q 0)).key < high) (sym z) (omega (arith, key-is)))
              (λ y. s.below j (leb-false i j y));
        }

  pub past_end : length ats ≤ i → Past t ats high (length ats)
  past_end l = record { most = omega arith; below = λ j b. s.below j (omega arith); past = λ k. absurd (omega arith) }

module _ (t : List ℕ) (high : ℕ) where
  -- marked records are passed,
  sheet-passes : (v : ℕ) (c : Spot) (es : List Record) → unmarked v ≡ false → sheet_visit t high v c es ≡ go es
  unfolding sheet_visit
  sheet-passes v c es u = rw u

  module _ {p : NamedStop} (r : Right t p) (es : List Record) where
    -- the record of a stop is listed where its key is below the bound,
    sheet-one : (record_from t (position_of t p)).key < high → sheet_visit t high p.selector p.spot es ≡ go (es ++ (record_from t (position_of t p) ∷ []))
    unfolding sheet_visit
    sheet-one l = rw (r.clear, ← r.is, lt-leb high (record_from t (position_of t p)).key l)

    -- and else sheet stays
    sheet-over : high ≤ (record_from t (position_of t p)).key → sheet_visit t high p.selector p.spot es ≡ stay es
    unfolding sheet_visit
    sheet-over l = rw (r.clear, ← r.is, le-leb high (record_from t (position_of t p)).key l)

  module _ (rest : List Record → Walked (List Record) (List Record)) where
    -- all are below the bound,
    tour-below : (ps : List NamedStop) → All (Right t) ps → (es : List Record) → ((i : ℕ) → i < length ps → (record_from t (get_or (map (position_of t) ps) i 0)).key < high)
        → tour_then (seen_at (sheet_visit t high)) ps es rest ≡ rest (es ++ map (record_from t) (map (position_of t) ps))
    unfolding tour_then after
    tour-below [] r es below = ap rest (sym (append-nil es))
    tour-below (p ∷ ps) r es below =
        let e = record_from t (position_of t p) in
        let later = map (record_from t) (map (position_of t) ps) in
        ap (λ (a : Visit (List Record) (List Record)). after a (λ fs. tour_then (seen_at (sheet_visit t high)) ps fs rest)) (sheet-one (r p here) es (below 0 (omega arith)))
        ∙ tour-below ps (all_tail r) (es ++ (e ∷ [])) (λ i l. below (suc i) (omega arith))
        ∙ ap rest (append_snoc es e later)

    -- or one is the first that is not
    tour-past : (ps : List NamedStop) → All (Right t) ps → (es : List Record) (j : ℕ) → j < length ps
        → ((i : ℕ) → i < j → (record_from t (get_or (map (position_of t) ps) i 0)).key < high) → high ≤ (record_from t (get_or (map (position_of t) ps) j 0)).key
        → tour_then (seen_at (sheet_visit t high)) ps es rest ≡ stayed (es ++ map (record_from t) (take j (map (position_of t) ps)))
    unfolding tour_then after
    tour-past [] r es j l below over = absurd (omega arith)
    tour-past (p ∷ ps) r es zero l below over =
        ap (λ (a : Visit (List Record) (List Record)). after a (λ fs. tour_then (seen_at (sheet_visit t high)) ps fs rest)) (sheet-over (r p here) es over)
        ∙ ap stayed (sym (append-nil es))
    tour-past (p ∷ ps) r es (suc j) l below over =
        let e = record_from t (position_of t p) in
        let later = map (record_from t) (take j (map (position_of t) ps)) in
        ap (λ (a : Visit (List Record) (List Record)). after a (λ fs. tour_then (seen_at (sheet_visit t high)) ps fs rest)) (sheet-one (r p here) es (below 0 (omega arith)))
        ∙ tour-past ps (all_tail r) (es ++ (e ∷ [])) j (omega arith) (λ i k. below (suc i) (omega arith)) over
        ∙ ap stayed (append_snoc es e later)

-- nothing is remembered yet
pub remembers-none : (t ats : List ℕ) → Remembered t [] 0 0 ats
remembers-none t ats = record { many = refl; less = omega arith; fits = omega arith; within = within_none t; whole = λ _. refl }

-- what is remembered is forgotten where there is no room for more
pub remembers-fits : {t : List ℕ} {records : List Record} {count held : ℕ} {ats : List ℕ} → Remembered t records count held ats → {more room before : ℕ} → room ≡ length ats → more ≤ room
    → before ≡ cond (leb (held + more) room) held 0 → Remembered t records count before ats
remembers-fits {t} {records} {count} {held} {ats} i {more} {room} {before} e l f =
    cases (leb (held + more) room)
    (λ y. let z : before ≡ held = f ∙ rw y in rw z i)
    (λ y.
    let z : before ≡ 0 = f ∙ rw y in
    let short = leb-false (held + more) room y in
    let less = i.less in
    rw z (record { many = i.many; less = omega arith; fits = omega arith; within = within_none t; whole = λ q. absurd (omega arith) }))

-- the loop over segments: sheet's walk enters one with so many records
pub record Counting (t x : List ℕ) (high h d n : ℕ) (whole : Walked (List Record) (List Record)) (c : Spot) (ats₀ : List ℕ) (g count held : ℕ) (ats : List ℕ) : Type 0 where
  pub records : List Record
  pub kept : length ats ≡ length ats₀
  pub entering : Entering t x (sheet_visit t high) h d whole c g records
  pub few : count ≤ 256 * g
  pub low : count ≤ 256 * n
  pub remembered : Remembered t records count held ats

-- a part of what stands inside the tray
pub within-part : {t : List ℕ} (ats : List ℕ) (m k : ℕ) → m ≤ k → Within t (take k ats) → Within t (take (k - m) (drop m ats))
within-part {t} ats m k l w =
    let z : m + (k - m) ≡ k = omega arith in
    subst (Within t) (ap (λ (b : ℕ). drop m (take b ats)) (sym z) ∙ drop-take m (k - m) ats)
    (record {
      ends = λ i b.
          subst (λ (a : ℕ). a + 25 ≤ length t) (sym (get_or-drop m (take k ats) i 0)) (w.ends (m + i) (omega (arith, length-drop m (take k ats))));
    })

-- A turn of the loop: a segment is gathered after what is remembered, and so many of its records stand before the bound.
module _ {t x : List ℕ} {high d n : ℕ} {whole : Walked (List Record) (List Record)} {g s : ℕ} {places : List Place} {records : List Record} {count held : ℕ} {ats : List ℕ}
    (i : Here t x (sheet_visit t high) d n whole g s places records) (m : Remembered t records count held ats) (framed : Framed t) {q : ℕ} (e : q ≡ s) {k stop : ℕ} {ats' : List ℕ}
    (f : GatheredFrom t x d g q places held ats k stop ats') (long : k ≤ length ats') {fresh : ℕ} (found : Past t (take (k - held) (drop held ats')) high fresh) where
  from : GatheredFrom t x d g s places held ats k stop ats'
  from = subst (λ (b : ℕ). GatheredFrom t x d g b places held ats k stop ats') e f

  abbrev rest : List Record → Walked (List Record) (List Record)
  rest = walk_segments t x (sheet_visit t high) (n - (g + 1)) (g + 1)

  abbrev stops : List NamedStop
  stops = stops_in t x (d - s) g s (numbers places)

  -- where their records begin
  abbrev ps : List ℕ
  ps = map (position_of t) stops

  some : length (take held ats) ≡ held
  some = length-take-le held ats m.fits

  -- these are the gathered ones
  part-is : take (k - held) (drop held ats') ≡ ps
  part-is =
      let least : held ≤ k = from.least in
      let z : held + (k - held) ≡ k = omega arith in
      sym (drop-take held (k - held) ats')
      ∙ ap (λ (b : ℕ). drop held (take b ats')) z
      ∙ ap (drop held) from.same
      ∙ ap (λ (b : ℕ). drop b (take held ats ++ ps)) (sym some)
      ∙ drop-append_seam (take held ats) ps

  stop-count : held + length ps ≡ k
  stop-count =
      ap (λ (a : ℕ). a + length ps) (sym some)
      ∙ sym (length-append (take held ats) ps)
      ∙ ap length (sym from.same)
      ∙ length-take-le k ats' long

  found-stops : Past t ps high fresh
  found-stops = subst (λ (bs : List ℕ). Past t bs high fresh) part-is found

  -- the records then
  abbrev more : List Record
  more = records ++ map (record_from t) (take fresh ps)

  -- what is remembered then
  now-held : take (held + fresh) ats' ≡ take held ats ++ take fresh ps
  now-held =
      let most = found-stops.most in
      sym (take-take (held + fresh) k ats' (omega (arith, stop-count)))
      ∙ ap (take (held + fresh)) from.same
      ∙ ap (λ (b : ℕ). take (b + fresh) (take held ats ++ ps)) (sym some)
      ∙ take-append-add (take held ats) ps fresh

  pub remembers-more : Remembered t more (count + fresh) (held + fresh) ats'
  remembers-more =
      let most = found-stops.most in
      let less = m.less in
      record {
        many =
            length-append records (map (record_from t) (take fresh ps))
            ∙ ap₂ (λ (a b : ℕ). a + b) m.many (length-map (take fresh ps) (record_from t) ∙ length-take-le fresh ps most);
        less = omega arith;
        fits = omega (arith, stop-count);
        within = within-take (held + fresh) k ats' (omega (arith, stop-count)) (gathered-within framed m.within from);
        whole = λ y.
            let z : held ≡ count = omega arith in
            ap (λ (es : List Record). es ++ map (record_from t) (take fresh ps)) (m.whole z)
            ∙ sym (map-append (record_from t) (take held ats) (take fresh ps))
            ∙ ap (map (record_from t)) (sym now-held);
      }

  rights : All (Right t) stops
  rights = stops-right t framed x (d - s) g s (numbers places)

  many-stops : length ps ≡ length stops
  many-stops = length-map stops (position_of t)

  -- sheet's walk at the stops
  walks : walk_selectors t x (sheet_visit t high) (d - s) g s (numbers places) records rest ≡ tour_then (seen_at (sheet_visit t high)) stops records (then_on rest g stop d)
  walks =
      let end = i.on.high in
      walk-stops t x (sheet_visit t high) (sheet-passes t high) rest (d - s) g s (numbers places) records {end = d} (omega arith)
      ∙ ap (λ (b : ℕ). tour_then (seen_at (sheet_visit t high)) stops records (then_on rest g b d)) (sym from.stops)

  -- it stays at the bound,
  pub counted-past : held + fresh < k → stayed more ≡ whole
  counted-past l =
      sym (walks ∙ tour-past t high (then_on rest g stop d) stops rights records fresh (omega (arith, stop-count, many-stops)) found-stops.below (found-stops.past (omega (arith, stop-count))))
      ∙ i.on.same

  -- or passes all stops,
  behind : k ≤ held + fresh → walk_selectors t x (sheet_visit t high) (d - s) g s (numbers places) records rest ≡ then_on rest g stop d more
  behind l =
      walks
      ∙ tour-below t high (then_on rest g stop d) stops rights records (λ j b. found-stops.below j (omega (arith, stop-count, many-stops)))
      ∙ ap (λ (bs : List ℕ). then_on rest g stop d (records ++ map (record_from t) bs)) (sym (take_all fresh ps (omega (arith, stop-count))))

  -- is lost,
  pub counted-lost : k ≤ held + fresh → {l : Lost} → l.segment ≡ g → l.selector ≡ stop → stop < d → lost l.segment l.selector more ≡ whole
  counted-lost b y z c = ap₂ (λ (j u : ℕ). lost j u more) y z ∙ sym (then-lost rest g stop d more c) ∙ sym (behind b) ∙ i.on.same

  -- or goes on after the segment
  pub counted-on : k ≤ held + fresh → d ≤ stop → Here t x (sheet_visit t high) d n whole g d places more
  unfolding walk_selectors
  counted-on l b =
      let z : d - d ≡ 0 = omega arith in
      record {
        room = i.room;
        on = record { inside = i.on.inside; high = omega arith; same = rw z (sym (then-rest rest g stop d more b) ∙ sym (behind l) ∙ i.on.same) };
      }

  -- at most one record a selector is counted then
  pub counted-few : d < 256 → count ≤ 256 * g → count + fresh ≤ 256 * (g + 1)
  counted-few b c = omega (arith, found-stops.most, stop-count, from.few, from.high)
