-- What the loops over the segments need: each law is a way out of a function, or a turn of its loop.
--     Merging, merging-none, -low, -less, -more, -end     the segments so far: how many, and what is left
--     sounded-ready, -fits                   what the loops start from
--     front_long, lent-long, lent_back       a stretch that is lent and given back
--     Writing, writing-none, -room, -more, -end           the segments so far, in the output
use Rattle.std.specs.Prelude.{◌≡◌, ℕ, suc, ◌+◌, ◌-◌, ◌*◌, ◌≤◌, ◌<◌, take, drop, replicate}
use Rattle.std.proofs.Math.Path.{refl, sym, ap, ap₂}
use Rattle.std.proofs.Common.{◌∙◌, add-zero, zero-mul, add-one, length-append, length-drop, drop-drop, length-take-le}
use native.Mathlib.Omega.{arith}
use mathlib.Core.List.Memᴰ
use mathlib.Core.List.{List, [], ◌∷◌, ◌++◌}
use Rattle.std.proofs.Math.ListN.{length}
use Rattle.number.specs.Big.{put}
use Rattle.number.proofs.Big.Writes.{put-put, put-nil, length-put}
use Rattle.theory.specs.View.{view}
use Rattle.theory.specs.Pack.{joined, groups, pack}
use Rattle.theory.proofs.Pack.Groups.{groups-joined, groups-full}
use Rattle.theory.proofs.Pack.Laws.{pack-joined, pack-full}
use Rattle.tray.specs.Frame.{run_count, records_before}
use Rattle.tray.specs.Meaning.{runs_of, Fits}
use Rattle.tray.specs.Meaning.Laws.{length-runs_of}
use Rattle.tray.specs.Meaning.Back.{total-runs_of, fits-runs}
use Rattle.tray.specs.declared.Tray.{Tray}
use Rattle.index.specs.Layout.{head_size, segment_at}
use Rattle.index.specs.Layout.Code.{segment_at-next, segment_at-le}
use Rattle.index.specs.Rules.{Item, key_of}
use Rattle.index.specs.Rules.Cuts.{cut-start}
use Rattle.index.specs.Scan.Places.{places_of-none}
use Rattle.build_spec.specs.Build.{item_key, cuts, segment_bytes, segments_bytes, index_size}
use Rattle.build_spec.specs.Build.Laws.{Ready}
use Rattle.build_spec.proofs.Build.Laws.{length-view}
use Rattle.build_spec.proofs.Build.Bytes.{length-segment_bytes}
use Rattle.build_spec.proofs.Build.Theorems.{sound-ready}
use Rattle.build_marks.specs.Code.{Segmented, Sounded}
use Rattle.build_marks.specs.Code.Merge.{Stand}
use Rattle.build_segment.specs.Segment.Segments.{Cutting, segment-is}

-- g segments have been cut, and so many records are left
pub record Merging (t : List ℕ) (d : ℕ) (places : List ℕ) (left g : ℕ) : Type 0 where
  pub before : List Item
  pub rest : List Item
  pub stand : Stand t before rest places
  pub left_is : left ≡ length rest
  pub count-is : g + length (pack d (groups item_key rest)) ≡ length (cuts d (runs_of t))

-- where records are left, so are segments
pack-some : (d : ℕ) (w : List Item) → 0 < length w → 0 < length (pack d (groups item_key w))
unfolding joined
pack-some d w l = go (pack d (groups item_key w)) refl
  where
    go : (ss : List (List Item)) → pack d (groups item_key w) ≡ ss → 0 < length ss
    go [] e = absurd (omega (arith, ap length (sym (pack-joined d (groups item_key w) ∙ groups-joined item_key w)), ap (λ (ss : List (List Item)). length (joined ss)) e))
    go (s ∷ ss) e = omega arith

-- and where none are left there are none
pack-none : (d : ℕ) (w : List Item) → length w ≡ 0 → pack d (groups item_key w) ≡ []
unfolding groups pack
pack-none d [] e = refl
pack-none d (x ∷ w) e = absurd (omega arith)

-- what the loops over the segments start from
module _ {tray : Tray} {d n : ℕ} (s : Sounded tray d n) where
  pub sounded-ready : Ready d (runs_of tray.bytes.now)
  sounded-ready = sound-ready s.sound (record { least = s.least; most = s.most })

  pub sounded-fits : Fits (runs_of tray.bytes.now)
  sounded-fits = fits-runs s.sound.frame s.bytes

module _ {tray : Tray} {d all : ℕ} (z : Sounded tray d all) where
  pub merging-none : {n : ℕ} → n ≡ records_before tray.bytes.now (run_count tray.bytes.now) → Merging tray.bytes.now d (replicate 63 0) n 0
  unfolding cuts
  merging-none e =
      record {
        before = [];
        rest = view key_of (runs_of tray.bytes.now);
        stand = record { cut = cut-start (runs_of tray.bytes.now); is = sym places_of-none };
        left_is = e ∙ sym (length-view (sounded-ready z) ∙ total-runs_of tray.bytes.now);
        count-is = omega arith;
      }

  pub merging-low : {places : List ℕ} {left g : ℕ} → Merging tray.bytes.now d places left g → 0 < left → g < length (cuts d (runs_of tray.bytes.now))
  merging-low m l = omega (arith, m.count-is, m.left_is, pack-some d m.rest (omega (arith, m.left_is)))

  pub merging-end : {places : List ℕ} {left g : ℕ} → Merging tray.bytes.now d places left g → left ≤ 0 → g ≡ length (cuts d (runs_of tray.bytes.now))
  merging-end m l = omega (arith, m.count-is, ap length (pack-none d m.rest (omega (arith, m.left_is))))

  module _ {places seg places' seg' : List ℕ} {left g n : ℕ} (m : Merging tray.bytes.now d places left g) (some : 0 < left)
      (room : length seg ≡ 8 + 2 * tray.runs + d) (s : Segmented tray.bytes.now tray.runs d places seg places' seg' n) where
    next : Cutting tray.bytes.now d m.before m.rest places' seg' n
    next = segment-is tray.bytes.now (sounded-ready z) (sounded-fits z) tray.frame.runs m.stand (omega (arith, m.left_is)) room s

    -- the segment has some of the records that are left
    pub merging-less : (0 < n) × (n ≤ left)
    merging-less = (
      omega (arith, next.number, pack-full d (groups item_key m.rest) (groups-full item_key m.rest) next.own (rw next.packed (Memᴰ.head refl))),
      omega (arith, next.number, m.left_is, simp length-append at (ap length next.parts)),
    )

    pub merging-more : Merging tray.bytes.now d places' (left - n) (g + 1)
    merging-more =
        record {
          before = m.before ++ next.own;
          rest = next.left;
          stand = next.stand;
          left_is = omega (arith, next.number, m.left_is, simp length-append at (ap length next.parts));
          count-is = omega (arith, m.count-is, ap length next.packed);
        }

-- a segment of n records has been written: at place a of the output where that has room for it, and else somewhere
pub record Wrote (tray : Tray) (d : ℕ) (places out : List ℕ) (a : ℕ) (places' out' : List ℕ) (n : ℕ) : Type 0 where
  pub old : List ℕ
  pub new : List ℕ
  pub long : length old ≡ 8 + 2 * tray.runs + d
  pub segmented : Segmented tray.bytes.now tray.runs d places old places' new n
  pub placed : a + (8 + 2 * tray.runs + d) ≤ length out → out' ≡ put out a new

-- a front of a list, lent and given back
pub front_long : (w : ℕ) (s : List ℕ) {k : ℕ} → w ≤ length s → w ≡ k → length (take w s) ≡ k
front_long w s l e = length-take-le w s l ∙ e

-- no segment starts past 2^42
pub place-low : {tray : Tray} {d g n : ℕ} → Sounded tray d n → g < 4294967296 → segment_at tray.runs d g ≤ 4398046511104
unfolding segment_at head_size
place-low {tray} {d} {g} s l =
    let h = tray.runs in
    let few : h ≤ 63 = tray.frame.few in
    let low : d ≤ 128 = s.most in
    let most : segment_at h d g ≤ segment_at h d 4294967296 = segment_at-le h d g 4294967296 (omega arith) in
    omega arith

-- a stretch of a list, lent and given back
pub lent-long : (out : List ℕ) (a e : ℕ) {k : ℕ} → a ≤ e → e ≤ length out → e ≡ a + k → length (take (e - a) (drop a out)) ≡ k
lent-long out a e {k} l m q = let r : e - a ≡ k = omega arith in length-take-le (e - a) (drop a out) (simp length-drop (omega arith)) ∙ r

pub lent_back : (out ys : List ℕ) (a e : ℕ) → a ≤ e → e ≤ length out → length ys ≡ length (take (e - a) (drop a out))
    → take a out ++ (ys ++ drop (e - a) (drop a out)) ≡ put out a ys
unfolding put
lent_back out ys a e l m q =
    let k : length ys ≡ e - a = q ∙ length-take-le (e - a) (drop a out) (simp length-drop (omega arith)) in
    rw (drop-drop, k)

-- g segments have been written, and what is left to write completes them
pub record Writing (t : List ℕ) (d : ℕ) (out₀ places out : List ℕ) (left g : ℕ) : Type 0 where
  pub merging : Merging t d places left g
  pub room : length out ≡ length out₀
  pub same : put out (segment_at (run_count t) d g) (segments_bytes d (runs_of t) merging.before (pack d (groups item_key merging.rest)))
      ≡ put out₀ 8 (segments_bytes d (runs_of t) [] (cuts d (runs_of t)))

module _ {tray : Tray} {d all : ℕ} (z : Sounded tray d all) where
  pub writing-none : {out : List ℕ} {n : ℕ} → n ≡ records_before tray.bytes.now (run_count tray.bytes.now) → Writing tray.bytes.now d out (replicate 63 0) out n 0
  unfolding cuts merging-none segment_at
  writing-none e = record { merging = merging-none z e; room = refl; same = rw (zero-mul, add-zero) }

  -- the next segment has room where the whole index has
  pub writing-room : {out₀ places out : List ℕ} {left g a e : ℕ} → index_size d (runs_of tray.bytes.now) ≤ length out₀ → Writing tray.bytes.now d out₀ places out left g → 0 < left
      → a ≡ segment_at tray.runs d g → e ≡ segment_at tray.runs d (g + 1) → (a ≤ e) × (e ≤ length out) × (e ≡ a + (8 + 2 * tray.runs + d))
  unfolding index_size
  writing-room {g = g} {a} {e} fit w l p q =
      let h = tray.runs in
      let below : g < length (cuts d (runs_of tray.bytes.now)) = merging-low z w.merging l in
      let next : e ≡ segment_at h d (suc g) = q ∙ ap (segment_at h d) (add-one g) in
      let long : segment_at h d (suc g) ≡ segment_at h d g + (8 + 2 * h + d) = segment_at-next h d g in
      let inside : segment_at h d (suc g) ≤ segment_at h d (length (cuts d (runs_of tray.bytes.now))) = segment_at-le h d (suc g) (length (cuts d (runs_of tray.bytes.now))) below in
      let same_runs : segment_at h d (length (cuts d (runs_of tray.bytes.now))) ≡ segment_at (length (runs_of tray.bytes.now)) d (length (cuts d (runs_of tray.bytes.now))) =
      ap (λ (k : ℕ). segment_at k d (length (cuts d (runs_of tray.bytes.now)))) (tray.frame.runs ∙ sym (length-runs_of tray.bytes.now)) in
      (omega arith, omega (arith, w.room), omega arith)

  pub writing-end : {out₀ places out : List ℕ} {left g : ℕ} → Writing tray.bytes.now d out₀ places out left g → left ≤ 0
      → out ≡ put out₀ 8 (segments_bytes d (runs_of tray.bytes.now) [] (cuts d (runs_of tray.bytes.now)))
  unfolding segments_bytes
  writing-end {out = out} {g = g} w l =
      let none_left : pack d (groups item_key w.merging.rest) ≡ [] = pack-none d w.merging.rest (omega (arith, w.merging.left_is)) in
      sym (put-nil out (segment_at (run_count tray.bytes.now) d g))
      ∙ ap (λ (ss : List (List Item)). put out (segment_at (run_count tray.bytes.now) d g) (segments_bytes d (runs_of tray.bytes.now) w.merging.before ss)) (sym none_left)
      ∙ w.same

  module _ {out₀ places out seg places' seg' : List ℕ} {left g n : ℕ} (w : Writing tray.bytes.now d out₀ places out left g) (some : 0 < left)
      (fit : index_size d (runs_of tray.bytes.now) ≤ length out₀) (room : length seg ≡ 8 + 2 * tray.runs + d) (s : Segmented tray.bytes.now tray.runs d places seg places' seg' n) where
    cutting : Cutting tray.bytes.now d w.merging.before w.merging.rest places' seg' n
    cutting = next z w.merging some room s

    pub writing_more : {out' : List ℕ} {a : ℕ} → a ≡ segment_at tray.runs d g → out' ≡ put out a seg' → Writing tray.bytes.now d out₀ places' out' (left - n) (g + 1)
    unfolding merging-more segments_bytes head_size cutting
    writing_more {out'} {a} p q =
        let h = tray.runs in
        let runs-are : tray.runs ≡ run_count tray.bytes.now = tray.frame.runs in
        let own = cutting.own in
        let after = pack d (groups item_key cutting.left) in
        let first = segment_bytes d (runs_of tray.bytes.now) w.merging.before own in
        let others = segments_bytes d (runs_of tray.bytes.now) (w.merging.before ++ own) after in
        let long : length first ≡ head_size (length (runs_of tray.bytes.now)) + d = length-segment_bytes d (runs_of tray.bytes.now) w.merging.before own (omega (arith, cutting.number, s.short)) in
        let size : 2 * length (runs_of tray.bytes.now) ≡ 2 * h = ap (λ (k : ℕ). 2 * k) (length-runs_of tray.bytes.now ∙ sym runs-are) in
        let ends = writing-room fit w some p refl in
        let here : a ≡ segment_at (run_count tray.bytes.now) d g = p ∙ ap (λ (k : ℕ). segment_at k d g) runs-are in
        let next-at : segment_at (run_count tray.bytes.now) d (g + 1) ≡ a + length first = ap (λ (k : ℕ). segment_at k d (g + 1)) (sym runs-are) ∙ omega (arith, ends.2, long, size) in
        let out-is : out' ≡ put out a first = q ∙ ap (put out a) cutting.bytes in
        record {
          merging = merging-more z w.merging some room s;
          room = ap length out-is ∙ length-put out a first (omega (arith, ends.1, ends.2, long, size)) ∙ w.room;
          same =
              ap₂ (λ (o : List ℕ) (k : ℕ). put o k others) out-is next-at
              ∙ put-put out a first others (omega (arith, ends.0, ends.1))
              ∙ ap (λ (k : ℕ). put out k (first ++ others)) here
              ∙ ap (λ (ss : List (List Item)). put out (segment_at (run_count tray.bytes.now) d g) (segments_bytes d (runs_of tray.bytes.now) w.merging.before ss)) (sym cutting.packed)
              ∙ w.same;
        }
