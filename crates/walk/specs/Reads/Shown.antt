-- What a stop of an accepted index shows to a visitor, and the stops whose records are visible.
--     Stands, stop-stands              a stop stands at its record, after the records before it
--     found_at                          the record of a stop, as found
--     Shows, stop-shows                its selector names its record, and has no mark exactly where that is visible
--     is_shown, shown, shown-merged     the stops with visible records, and that these are the live ones of the full merge
--     point_of                          a stop's record
use Rattle.std.specs.Prelude.{◌≡◌, refl, ℕ, ◌+◌, ◌%◌, Bool, length, get_or}
use Rattle.std.proofs.Math.Path.{sym, ap}
use Rattle.std.proofs.Common.{ap₂, ◌∙◌}
use mathlib.Core.List.{List, [], ◌∷◌, ◌++◌, map, map-append, map-map, append_assoc}
use Rattle.theory.specs.Records.{Record, live, SoundRecord}
use Rattle.theory.specs.Hiding.{same_key}
use Rattle.theory.proofs.Hiding.Laws.{same_key-rule}
use Rattle.theory.specs.Rising.{All, keep}
use Rattle.theory.specs.Merge.{merged}
use Rattle.theory.specs.View.{view, visible}
use Rattle.theory.proofs.View.Visible.{visible-is}
use Rattle.theory.proofs.Places.Laws.{place-count}
use Rattle.tray.specs.Frame.{run_bytes}
use Rattle.tray.specs.Run.{record_at}
use Rattle.tray.specs.Check.{Sound}
use Rattle.tray.specs.Meaning.{runs_of}
use Rattle.index.specs.Rules.{key_of, Item, selector_of}
use Rattle.index.specs.Scan.Places.{places_of, get_or-places_of}
use Rattle.index.specs.Scan.Entry.{few, good, head-low}
use Rattle.walk.specs.Walk.Spots.{Reading, Stop, spot_at, spots_in, spots_from, spots, entries_of, entries-in}
use Rattle.walk.specs.Walk.Tours.{Each, each_none, each_more, each_all}
use Rattle.walk.specs.Walk.Named.{entry-head, selector-run, selector-record, selector-unmarked}
use Rattle.walk.specs.Walk.Pieces.{Piece, each-spots, entries_from, entries-spots}
use Rattle.walk.specs.Walk.Laws.{each_in}
use Rattle.walk.specs.Reads.Kept.{keep-map}
use Rattle.walk.specs.Reads.{record_by, unmarked, Found, found_by}

-- a stop before the stops qs stands at its record, after the records before it
pub record Stands (t : List ℕ) (p : Stop) (qs : List Stop) : Type 0 where
  pub before : List Item
  pub whole : view key_of (runs_of t) ≡ before ++ (p.entry ∷ entries_of qs)
  pub places : p.spot.places ≡ places_of before

-- the record of a stop, as found
unfoldable pub found_at : Stop → Found
found_at p = record { run = p.entry.run; place = p.entry.place; spot = p.spot }

-- the record of a stop
abbrev pub point_of : Stop → Record
point_of p = p.entry.item

-- the record of a stop is visible
abbrev pub is_shown : List ℕ → Stop → Bool
is_shown t p = visible (same_key key_of) live (runs_of t) p.entry

-- the stops of an index whose records are visible
unfoldable pub shown : List ℕ → List ℕ → List Stop
shown t x = keep (is_shown t) (spots t x)

-- what a stop's selector says of its record
pub record Shows (t : List ℕ) (p : Stop) : Type 0 where
  pub names : record_by t (selector_of (runs_of t) p.entry) p.spot ≡ point_of p
  pub marks : unmarked (selector_of (runs_of t) p.entry) ≡ is_shown t p
  pub reads : record_at (run_bytes t p.entry.run) p.entry.place ≡ point_of p
  pub finds : found_by (selector_of (runs_of t) p.entry) p.spot ≡ found_at p

found-eq : {f g : Found} → f.run ≡ g.run → f.place ≡ g.place → f.spot ≡ g.spot → f ≡ g
found-eq p q s = λ i. record { run = p i; place = q i; spot = s i }

-- where a stop stands at its record, its selector tells
stands-shows : {t : List ℕ} (sound : Sound t) (p : Stop) (qs : List Stop) → Stands t p qs → Shows t p
unfolding record_by unmarked found_by found_at
stands-shows {t} sound p qs st =
    let b = st.before in let e = p.entry in let w = entries_of qs in
    let run = selector-run sound b e w st.whole in
    let place : get_or p.spot.places (selector_of (runs_of t) e % 64) 0 ≡ e.place =
    ap (λ n. get_or p.spot.places n 0) run ∙ ap (λ l. get_or l e.run 0) st.places
    ∙ get_or-places_of b e.run (head-low sound b e (entry-head sound b e w st.whole))
    ∙ sym (place-count (good sound) (few sound) b e w st.whole) in
    let named : record_at (run_bytes t (selector_of (runs_of t) e % 64)) (get_or p.spot.places (selector_of (runs_of t) e % 64) 0) ≡ e.item =
    ap (λ l. record_at (run_bytes t (selector_of (runs_of t) e % 64)) (get_or l (selector_of (runs_of t) e % 64) 0)) st.places
    ∙ selector-record sound b e w st.whole in
    record {
      names = named;
      marks = selector-unmarked sound b e w st.whole;
      reads = sym (ap₂ (λ i j. record_at (run_bytes t i) j) run place) ∙ named;
      finds = found-eq run place refl;
    }

module _ {t x : List ℕ} (r : Reading t x) where
  pub stop-stands : Each (Stands t) (spots t x)
  stop-stands = each-spots r (λ k g b own left piece. each_in _ g b own (at k g b own left piece))
    where
      at : (k g : ℕ) (b own left : List Item) → Piece t x k g b own left
          → (s : ℕ) (us : List Item) (e : Item) (es : List Item) → own ≡ us ++ (e ∷ es) → s ≡ length us
          → Stands t (record { entry = e; spot = spot_at g s (b ++ us) })
          (spots_in g (s + 1) (b ++ us ++ (e ∷ [])) es ++ spots_from t x k (g + 1) (b ++ own) left)
      at k g b own left piece s us e es p q =
          let those : entries_of (spots_in g (s + 1) (b ++ us ++ (e ∷ [])) es ++ spots_from t x k (g + 1) (b ++ own) left) ≡ es ++ left =
          map-append (λ p. p.entry) (spots_in g (s + 1) (b ++ us ++ (e ∷ [])) es) _ ∙ rw (entries-in, entries_from k piece.later) refl in
          record {
            before = b ++ us;
            whole = piece.whole ∙ ap (λ l. b ++ (l ++ left)) p ∙ rw those (simp append_assoc);
            places = refl;
          }

  pub stop-shows : All (Shows t) (spots t x)
  stop-shows = each_all (go stop-stands)
    where
      go : {ps : List Stop} → Each (Stands t) ps → Each (λ p qs. Shows t p) ps
      go each_none = each_none
      go (each_more {a = p} {xs = qs} st h) = each_more (stands-shows r.sound p qs st) (go h)

  -- the visible records are the live ones of the full merge, in its order
  pub shown-merged : map point_of (shown t x) ≡ keep live (merged key_of (same_key key_of) (runs_of t))
  unfolding shown
  shown-merged =
      sym (map-map (λ e. e.item) (λ p. p.entry) (keep (is_shown t) (spots t x)))
      ∙ ap (map (λ e. e.item)) (keep-map (λ p. p.entry) (visible (same_key key_of) live (runs_of t)) (spots t x))
      ∙ ap (λ l. map (λ e. e.item) (keep (visible (same_key key_of) live (runs_of t)) l)) (entries-spots r)
      ∙ visible-is (same_key-rule SoundRecord key_of) (good r.sound) (few r.sound) live
