-- What the code of sheet needs of its answer.
--     left, Gives, Leaves                     what the code's parts answer, and leave in the output
--     leaves-short, leaves-written, leaves-held     what is written: nothing, by a second walk, from what is remembered
--     gives-lost, gives-listed                both passes
--     gives-none, gives-off, gives-found, found-low, gives-past    after the seek
--     frames-off, framed-none, framed-long, framed-last, framed-gives     the frames and the prefix
use Rattle.refusal.specs.declared.Refusal.{Refusal}
use Rattle.std.specs.Prelude.{◌≡◌, Bool, cond, get_or, take, Some, None, Ok, Err, Result}
use Rattle.std.proofs.Math.Path.{refl, sym, ap, ap₂, subst}
use Rattle.std.proofs.Common.{◌∙◌, zero-add}
use Prim.Native.Nat.{ℕ, ◌-◌, ◌*◌, ◌≤◌, ◌<◌}
use native.Mathlib.Omega.{arith}
use Rattle.std.proofs.Math.Bool.{true, false}
use mathlib.Core.List.{List, [], ◌++◌, map}
use Rattle.std.proofs.Math.ListN.{length, drop}
use Rattle.std.proofs.Math.Seq.{length-take-le}
use borrow.Author.Tests.{eq-eqb, ne_eqb, le-leb, lt-leb}
use Rattle.number.specs.Big.{put}
use Rattle.refusal.specs.declared.Refusal.TheVariants.{Lost, Room, Bounds, PrefixEnd}
use Rattle.theory.specs.Records.{Record}
use Rattle.tray.specs.Frame.{run_count, run_bytes}
use Rattle.tray.specs.Run.{record_from, record_at}
use Rattle.walk.specs.declared.cursor.Sighting.{Sighting}
use Rattle.walk.specs.declared.cursor.Lost.{Lost as LostAt}
use Rattle.walk.specs.Opens.{frames}
use Rattle.walk.specs.Start.{start}
use Rattle.walk.specs.Walk.{Spot, stay, Walked, stayed, walk_from, walk_segments}
use Rattle.walk.specs.Reads.{Found, unmarked, record_by, low_key, high_key, seek_visit, seek, page_visit, sheet_visit, sheet_from, sheet}
use Rattle.walk.specs.Reads.Page.{listing, written}
use Rattle.walk.proofs.ReadsLaws.Page.{length-listing}
use Rattle.walk.specs.Reads.Sheet.{Lists}
use Rattle.walk.specs.Reads.Sheet.Lists.{to-bound, to_end}
use Rattle.walk.specs.Code.{Walking, spot_of, sought_of}
use Rattle.answers.specs.Code.{frames-fit, frames-refused}
use Rattle.walk.specs.Code.Stayed.{Stands, walk-stays}
use Rattle.walk.specs.Code.Inside.{seek-inside, seek-below}
use Rattle.list.specs.declared.points.PageEnd.{PageEnd}
use Rattle.sheet_count.specs.declared.Counted.{Counted}
use Rattle.list.specs.Page.{begun, paged_of}
use Rattle.list.specs.Put.{put_all}
use Rattle.list.specs.Put.Laws.{put_all-written}
use Rattle.sheet_count.specs.Count.{counted_as, Counts}
use Rattle.sheet_count.specs.Second.{second-listed, written_out}
use Rattle.answers.specs.Sheet.{prefix_long, prefix_last, listed_in, sheet_told, records_of, sheet_framed, sheet_answer, sheet_leaves}

-- what an answer leaves in the output, by where the walk came to
unfoldable pub left : Walked (List Record) (List Record) → List ℕ → Result ℕ Refusal → List ℕ
left w out (Ok n) = put out 0 (listing (records_of w))
left w out (Err r) = out

-- the answer is the one of this walk, and so is what it leaves in the output
pub record Gives (w : Walked (List Record) (List Record)) (out after : List ℕ) (r : Result ℕ Refusal) : Type 0 where
  pub answer : r ≡ sheet_told (length out) w
  pub leaves : after ≡ left w out r

-- what is written: so it is for the walk to any bound where so many records are listed, and where all are remembered they are these
pub record Leaves (t x : List ℕ) (c : Spot) (held : List ℕ) (count : ℕ) (out after : List ℕ) (r : Result ℕ Refusal) : Type 0 where
  pub of : (high : ℕ) (es : List Record) → Lists (walk_from t x (sheet_visit t high) c []) es → length es ≡ count → (length held ≡ count → es ≡ map (record_from t) held)
      → Gives (walk_from t x (sheet_visit t high) c []) out after r

-- a walk that came through, as told
told-listed : (room : ℕ) {w : Walked (List Record) (List Record)} {es : List Record} → Lists w es → listed_in room es ≡ sheet_told room w
unfolding sheet_told
told-listed room to-bound = refl
told-listed room to_end = refl

records-of : {w : Walked (List Record) (List Record)} {es : List Record} → Lists w es → records_of w ≡ es
unfolding records_of
records-of to-bound = refl
records-of to_end = refl

-- where there is room for its records, and where there is too little
listed-fits : (room : ℕ) (es : List Record) {count : ℕ} → length es ≡ count → 24 * count ≤ room → Ok count ≡ listed_in room es
unfolding listed_in
listed-fits room es e l = ap Ok (sym e) ∙ sym (rw (le-leb (24 * length es) room (omega arith)))

listed-short : (room : ℕ) (es : List Record) {count : ℕ} → length es ≡ count → room < 24 * count → Err (Room (24 * count)) ≡ listed_in room es
unfolding listed_in
listed-short room es e l = ap (λ (k : ℕ). Err (Room (24 * k))) (sym e) ∙ sym (rw (lt-leb (24 * length es) room (omega arith)))

put_front : (out : List ℕ) (es : List Record) (k : ℕ) → k ≡ 24 * length es → listing es ++ drop k out ≡ put out 0 (listing es)
unfolding put
put_front out es k e = ap (λ (m : ℕ). listing es ++ drop m out) (e ∙ sym (zero-add (length (listing es)) ∙ length-listing es))

module _ (t x : List ℕ) (c : Spot) (held : List ℕ) (out : List ℕ) {count : ℕ} where
  -- too little room: nothing is written
  pub leaves-short : length out < 24 * count → Leaves t x c held count out out (Err (Room (24 * count)))
  unfolding left
  leaves-short l =
      record { of = λ high es first q _. record { answer = listed-short (length out) es q l ∙ told-listed (length out) first; leaves = refl } }

  -- a page through a front of just their length writes these records
  pub leaves-written : (p : PageEnd) (ys : List ℕ) {k : ℕ} → k ≡ 24 * count → k ≤ length out
      → paged_of p ys ≡ walk_from t x (page_visit t) c (begun (take k out)) → Leaves t x c held count out (ys ++ drop k out) (Ok count)
  unfolding left
  leaves-written p ys {k} e l page =
      record {
        of = λ high es first q _.
            let long : length (take k out) ≡ k = length-take-le k out l in
            let whole : k ≡ 24 * length es = omega arith in
            record {
              answer = listed-fits (length out) es q (omega arith) ∙ told-listed (length out) first;
              leaves =
                  ap (λ (zs : List ℕ). zs ++ drop k out) (second-listed t x high c (take k out) p (long ∙ whole) page first)
                  ∙ put_front out es k whole
                  ∙ ap (λ (fs : List Record). put out 0 (listing fs)) (sym (records-of first));
            };
      }

  -- and so do the records that are remembered
  pub leaves-held : {after : List ℕ} → length held ≡ count → 24 * count ≤ length out → after ≡ put_all t held 0 out → Leaves t x c held count out after (Ok count)
  unfolding left
  leaves-held {after} e l wrote =
      record {
        of = λ high es first q whole.
            record {
              answer = listed-fits (length out) es q l ∙ told-listed (length out) first;
              leaves =
                  wrote
                  ∙ put_all-written t held out
                  ∙ ap (λ (fs : List Record). (written fs out).out) (sym (whole e) ∙ sym (records-of first))
                  ∙ written_out (records_of (walk_from t x (sheet_visit t high) c [])) out;
            };
      }

-- a count that came through is that of the records that its walk lists
counted-lists : (b : Bool) (es : List Record) → Lists (counted_as (Ok b) es) es
unfolding counted_as
counted-lists true es = to-bound
counted-lists false es = to_end

-- both passes: the first is lost,
pub gives-lost : {t : List ℕ} {walk : Walked (List Record) (List Record)} {q : Counted} {ats : List ℕ} (out : List ℕ) {l : LostAt} → Counts t walk q ats → q.stop ≡ Err l
    → Gives walk out out (Err (Lost l.segment l.selector))
unfolding counted_as sheet_told left
gives-lost out f e = record { answer = ap (sheet_told (length out)) (rw e at f.same); leaves = refl }

-- or comes to its bound or the end
pub gives-listed : {t x : List ℕ} (high : ℕ) {c : Spot} {q : Counted} {ats : List ℕ} {b : Bool} → Counts t (walk_from t x (sheet_visit t high) c []) q ats → q.stop ≡ Ok b
    → {out after : List ℕ} {r : Result ℕ Refusal} → Leaves t x c (take q.held ats) q.count out after r → Gives (walk_from t x (sheet_visit t high) c []) out after r
gives-listed {t} {x} high {c} {q} {ats} {b} f e second =
    let m = f.remembered in
    let long : length (take q.held ats) ≡ q.held = length-take-le q.held ats m.fits in
    let lists : Lists (walk_from t x (sheet_visit t high) c []) f.records =
    subst (λ (w : Walked (List Record) (List Record)). Lists w f.records) (rw e at f.same) (counted-lists b f.records) in
    second.of high f.records lists m.many (λ y. m.whole (sym long ∙ y))

-- no record needs no room,
none-listed : (room : ℕ) → Ok 0 ≡ listed_in room []
unfolding listed_in
none-listed room = ap (λ (b : Bool). cond b (Ok 0) (Err (Room 0))) (sym (le-leb 0 room (omega arith)))

-- and writes nothing
gives-empty : (out : List ℕ) {w : Walked (List Record) (List Record)} → Lists w [] → Gives w out out (Ok 0)
unfolding left records_of listing put
gives-empty out {w} l =
    record {
      answer = none-listed (length out) ∙ told-listed (length out) l;
      leaves = ap (λ (fs : List Record). put out 0 (listing fs)) (sym (records-of l));
    }

-- after the seek
module _ (t x : List ℕ) (low high : ℕ) (out : List ℕ) where
  -- nothing is found,
  pub gives-none : sought_of (Ok None) ≡ seek t x low → Gives (sheet_from t x high (seek t x low)) out out (Ok 0)
  unfolding sought_of sheet_from
  gives-none e = subst (λ (a : Walked ℕ Found). Gives (sheet_from t x high a) out out (Ok 0)) e (gives-empty out to_end)

  -- or the walk is lost
  pub gives-off : {l : LostAt} → sought_of (Err l) ≡ seek t x low → Gives (sheet_from t x high (seek t x low)) out out (Err (Lost l.segment l.selector))
  unfolding sought_of sheet_from sheet_told left
  gives-off {l} e =
      subst (λ (a : Walked ℕ Found). Gives (sheet_from t x high a) out out (Err (Lost l.segment l.selector))) e (record { answer = refl; leaves = refl })

  module _ (f : Sighting) (e : sought_of (Ok (Some f)) ≡ seek t x low) where
    -- what follows a record found is sheet's walk,
    found-walk : walk_from t x (sheet_visit t high) (spot_of f.cursor) [] ≡ sheet_from t x high (seek t x low)
    unfolding sheet_from sought_of
    found-walk = ap (λ (a : Walked ℕ Found). sheet_from t x high a) e

    pub gives-found : {after : List ℕ} {r : Result ℕ Refusal} → Gives (walk_from t x (sheet_visit t high) (spot_of f.cursor) []) out after r
        → Gives (sheet_from t x high (seek t x low)) out after r
    gives-found {after} {r} j = subst (λ (v : Walked (List Record) (List Record)). Gives v out after r) found-walk j

    module _ {h d n : ℕ} {counts : List ℕ} (w : Walking t x h d n counts) where
      walked : stayed (record { run = f.run.0; place = f.place.0; spot = spot_of f.cursor })
          ≡ walk_segments t x (seek_visit t low) (n - start (run_count t) x low) (start (run_count t) x low) 0
      unfolding sought_of seek
      walked = e ∙ ap (λ (m : ℕ). walk_segments t x (seek_visit t low) (m - start (run_count t) x low) (start (run_count t) x low) 0) (sym w.index.count)

      -- it begins at a selector of a segment,
      pub found-low : f.cursor.selector ≤ d
      found-low = let low = (seek-below t x low (start (run_count t) x low) f w walked).1 in omega arith

      -- and ends at once where that record is past the bound
      pub gives-past : {key : ℕ} → key ≡ (record_at (run_bytes t f.run.0) f.place.0).key → high ≤ key → Gives (sheet_from t x high (seek t x low)) out out (Ok 0)
      unfolding sheet_visit
      gives-past {key} k l =
          let i = seek-inside t x low (start (run_count t) x low) f w walked in
          let c = spot_of f.cursor in
          let read : (record_by t i.selector c).key ≡ key = sym (k ∙ ap (λ (e : Record). e.key) i.is) in
          let stands = subst (λ (m : ℕ). Stands t x m i.selector c) w.index.count i.stands in
          let there : stayed [] ≡ sheet_from t x high (seek t x low) =
          sym (walk-stays t x (sheet_visit t high) c [] stands (visit-past i.selector c i.low (rw read l))) ∙ found-walk in
          subst (λ (v : Walked (List Record) (List Record)). Gives v out out (Ok 0)) there (gives-empty out to-bound)
        where
          visit-past : (v : ℕ) (c : Spot) → unmarked v ≡ true → high ≤ (record_by t v c).key → sheet_visit t high v c [] ≡ stay []
          visit-past v c a b = rw (a, le-leb high (record_by t v c).key b)

-- what is left, by the walk, is what sheet leaves
left-leaves : (t x prefix out : List ℕ) (r : Result ℕ Refusal) → left (sheet t x prefix) out r ≡ sheet_leaves t x prefix out r
unfolding left sheet_leaves
left-leaves t x prefix out (Ok n) = refl
left-leaves t x prefix out (Err q) = refl

-- the frames decide
pub frames-off : (t x prefix out : List ℕ) {r : Refusal} → frames t x ≡ Some r → (Err r ≡ sheet_answer t x prefix (length out)) × (out ≡ sheet_leaves t x prefix out (Err r))
unfolding sheet_answer sheet_leaves
frames-off t x prefix out e = (sym (frames-refused Err t x (sheet_framed t x prefix (length out)) e), refl)

-- and then the prefix, for the tray and the index as the code has them
module _ {t x t₁ x₁ : List ℕ} (fits : frames t x ≡ None) (a : t₁ ≡ t) (b : x₁ ≡ x) (prefix : List ℕ) where
  framed-is : (room : ℕ) {r : Result ℕ Refusal} → r ≡ sheet_framed t x prefix room → r ≡ sheet_answer t x prefix room
  unfolding sheet_answer
  framed-is room e = e ∙ sym (frames-fit Err t x (sheet_framed t x prefix room) fits)

  module _ (out : List ℕ) where
    pub framed-none : length prefix ≡ 0 → Err (Bounds (length prefix)) ≡ sheet_answer t x prefix (length out)
    unfolding sheet_framed prefix_long
    framed-none e = framed-is (length out) (sym (rw (lt-leb 1 (length prefix) (omega arith))))

    pub framed-long : 8 < length prefix → Err (Bounds (length prefix)) ≡ sheet_answer t x prefix (length out)
    unfolding sheet_framed prefix_long
    framed-long l = framed-is (length out) (sym (rw (le-leb 1 (length prefix) (omega arith), lt-leb (length prefix) 8 l)))

  module _ (least : 1 ≤ length prefix) (most : length prefix ≤ 8) where
    pub framed-last : (out : List ℕ) → get_or prefix (length prefix - 1) 0 ≡ 255 → Err (PrefixEnd (length prefix)) ≡ sheet_answer t x prefix (length out)
    unfolding sheet_framed prefix_long prefix_last
    framed-last out e =
        framed-is (length out) (sym (rw (le-leb 1 (length prefix) least, le-leb (length prefix) 8 most, eq-eqb (get_or prefix (length prefix - 1) 0) 255 e)))

    framed-walked : (room : ℕ) → (get_or prefix (length prefix - 1) 0 ≡ 255 → ⊥) → sheet_told room (sheet t x prefix) ≡ sheet_framed t x prefix room
    unfolding sheet_framed prefix_long prefix_last
    framed-walked room f = sym (rw (le-leb 1 (length prefix) least, le-leb (length prefix) 8 most, ne_eqb (get_or prefix (length prefix - 1) 0) 255 f))

    -- the bounds are those of the prefix
    pub framed-gives : (get_or prefix (length prefix - 1) 0 ≡ 255 → ⊥) → {low high : ℕ} {out after : List ℕ} {r : Result ℕ Refusal} → low ≡ low_key prefix → high ≡ high_key prefix
        → Gives (sheet_from t₁ x₁ high (seek t₁ x₁ low)) out after r
        → (r ≡ sheet_answer t x prefix (length out)) × (after ≡ sheet_leaves t x prefix out r)
    unfolding sheet
    framed-gives f {low} {high} {out} {after} {r} e u j =
        let walk : sheet_from t₁ x₁ high (seek t₁ x₁ low) ≡ sheet t x prefix =
        ap₂ (λ (v z : List ℕ). sheet_from v z high (seek v z low)) a b ∙ ap₂ (λ (v z : ℕ). sheet_from t x z (seek t x v)) e u in (
          framed-is (length out) (j.answer ∙ ap (sheet_told (length out)) walk ∙ framed-walked (length out) f),
          j.leaves ∙ ap (λ (v : Walked (List Record) (List Record)). left v out r) walk ∙ left-leaves t x prefix out r,
        )
