-- What the code promises of a line, and what its ways out need.
--     Roomy, roomy-last      one more answer line has room, and when so in the program's output
--     Turned                 a turn has been taken
--     heard, turn-heard, turn-ignored     what a frame does, known or not; a line is heard where it is well formed
--     formed-known           what a well formed line has
--     heard-.., wrong-..     what a frame of each kind does
--     tray-kept .. said-only, looked, listed     each way out of a kind of frame
--     turned-.., bad-.., line-..     each way out of `answer_frame`, and of `answer_line`
use Rattle.refusal.specs.declared.Refusal.{Refusal}
use Rattle.std.specs.Prelude.{◌↔◌, ◌≡◌, ℕ, ◌+◌, ◌-◌, ◌*◌, ◌/◌, ◌%◌, ◌≤◌, cond, List, [], ◌++◌, length, take, drop, eqb, leb, Ok, Err, Result}
use Rattle.std.proofs.Common.{sym, ap, ap₂, ◌∙◌, subst, arith, zero-add, length-drop, take_all}
use Rattle.std.proofs.Math.Seq.{get_or-drop}
use Rattle.number.specs.Big.{put}
use Rattle.number.proofs.Big.Writes.{take_put}
use Rattle.hexadecimal.specs.Hex.Laws.{length-bytes_in}
use Rattle.std.proofs.Math.Bool.{true, false}
use Rattle.std.proofs.Math.ListN.{get_or}
use borrow.Author.Tests.{ne_eqb, leb-true, eqb-true}
use Rattle.theory.specs.Tests.{and_left, and_right}
use Rattle.tray.specs.Check.{check_tray_answer}
use Rattle.tray.specs.Meaning.{runs_of}
use Rattle.build_spec.specs.Build.{build_answer, index_bytes, build_leaves}
use Rattle.answers.specs.Get.{Value, get_answer}
use Rattle.answers.specs.Sheet.{records_of, sheet_answer, sheet_leaves}
use Rattle.walk.specs.Reads.{sheet}
use Rattle.walk.specs.Reads.Page.{listing}
use Rattle.drawer_spec.specs.declared.Drawer.{Drawer}
use Rattle.hexadecimal.specs.Hex.{all_digits, bytes_in}
use Rattle.drawer_spec.specs.Filled.{filled}
use Rattle.drawer_spec.specs.Line.{room_size, line_size, Turn, answer, refusal, bad_answer, after_tray, after_build, after_get, after_sheet}
use Rattle.drawer_spec.specs.Line.{formed, known, frame_turn, turn, answer_line}
use Rattle.drawer_spec.specs.Line.Code.{index-front, sheet-front}

-- one more answer line has room; no invariant of a drawer, since after an answer it need not hold
abbrev pub Roomy : {n : ℕ} → Drawer n → Type 0
Roomy {n} d = d.output.used + line_size ≤ n

-- the program's output, and how far it may be filled so that one more answer line has room
abbrev pub output_size : ℕ
output_size = 262144

abbrev pub last_room : ℕ
last_room = 196595

pub roomy-last : (d : Drawer output_size) → Roomy d ↔ (d.output.used ≤ last_room)
roomy-last d = (λ room. omega (arith, room), λ low. omega (arith, low))

-- a turn has been taken: its tray and index are kept, and its answer line stands behind what was said
pub record Turned {n : ℕ} (u : Turn) (before after : Drawer n) : Type 0 where
  pub tray : filled after.tray ≡ u.tray
  pub index : filled after.index ≡ u.index
  pub number : after.number ≡ before.number
  pub said : filled after.output ≡ filled before.output ++ answer_line u.says

-- nothing kept is changed
abbrev pub saying : {n : ℕ} → Drawer n → List ℕ → Turn
saying d says = record { tray = filled d.tray; index = filled d.index; says = says }

-- what 04 says
abbrev pub listed_says : List ℕ → List ℕ → List ℕ → List ℕ
listed_says t x prefix = after_sheet (listing (records_of (sheet t x prefix))) (sheet_answer t x prefix room_size)

-- a line that changes nothing
unfoldable pub ignored : List ℕ → List ℕ → ℕ → Turn
ignored t x n = record { tray = t; index = x; says = bad_answer n }

-- what a frame does, known or not
unfoldable pub heard : List ℕ → List ℕ → ℕ → List ℕ → Turn
heard t x n frame = cond (known frame) (frame_turn t x frame) (ignored t x n)

-- what a frame and a line do in a drawer
abbrev pub heard_in : {n : ℕ} → Drawer n → List ℕ → Turn
heard_in d frame = heard (filled d.tray) (filled d.index) d.number frame

abbrev pub turn_in : {n : ℕ} → Drawer n → List ℕ → Turn
turn_in d line = turn (filled d.tray) (filled d.index) d.number line

-- a line that is well formed is heard, and any other is ignored
pub turn-heard : (t x : List ℕ) (n : ℕ) (line : List ℕ) → formed line ≡ true → turn t x n line ≡ heard t x n (bytes_in line)
unfolding turn heard ignored
turn-heard t x n line e = rw e

pub turn-ignored : (t x : List ℕ) (n : ℕ) (line : List ℕ) → formed line ≡ false → turn t x n line ≡ ignored t x n
unfolding turn ignored
turn-ignored t x n line e = rw e

-- what is known of a line that is well formed
pub record Formed (line : List ℕ) : Type 0 where
  pub some : 1 ≤ length line
  pub even : length line % 2 ≡ 0
  pub short : length line ≤ 32770
  pub digits : all_digits line ≡ true

pub formed-known : (line : List ℕ) → formed line ≡ true → Formed line
unfolding formed
formed-known line e =
    let n = length line in
    let behind = and_right (leb 1 n) _ e in
    let last = and_right (eqb (n % 2) 0) _ behind in
    record {
      some = leb-true 1 n (and_left (leb 1 n) _ e);
      even = eqb-true (n % 2) 0 (and_left (eqb (n % 2) 0) _ behind);
      short = leb-true n 32770 (and_left (leb n 32770) _ last);
      digits = and_right (leb n 32770) _ last;
    }

-- what a frame of each kind does
module _ (t x : List ℕ) (n : ℕ) (frame : List ℕ) where
  pub heard-known : known frame ≡ true → heard t x n frame ≡ frame_turn t x frame
  unfolding heard
  heard-known e = rw e

  pub heard-bad : known frame ≡ false → heard t x n frame ≡ ignored t x n
  unfolding heard
  heard-bad e = rw e

  pub heard-1 : get_or frame 0 0 ≡ 1 → heard t x n frame ≡ after_tray (drop 1 frame) (check_tray_answer (drop 1 frame))
  unfolding heard known frame_turn
  heard-1 e = rw e

  pub heard-2 : get_or frame 0 0 ≡ 2 → length frame ≡ 2 → heard t x n frame ≡ after_build t (get_or frame 1 0) (build_answer t (get_or frame 1 0) room_size)
  unfolding heard known frame_turn
  heard-2 e l = rw (e, l)

  pub heard-3 : get_or frame 0 0 ≡ 3 → length frame ≡ 9 → heard t x n frame ≡ record { tray = t; index = x; says = after_get (get_answer t x (drop 1 frame)) }
  unfolding heard known frame_turn
  heard-3 e l = rw (e, l)

  pub heard-4 : get_or frame 0 0 ≡ 4
      → heard t x n frame ≡ record { tray = t; index = x; says = listed_says t x (drop 1 frame) }
  unfolding heard known frame_turn
  heard-4 e = rw e

  -- and what is no frame
  pub wrong-2 : get_or frame 0 0 ≡ 2 → (length frame ≡ 2 → ⊥) → heard t x n frame ≡ ignored t x n
  unfolding heard known
  wrong-2 e l = rw (e, ne_eqb (length frame) 2 l)

  pub wrong-3 : get_or frame 0 0 ≡ 3 → (length frame ≡ 9 → ⊥) → heard t x n frame ≡ ignored t x n
  unfolding heard known
  wrong-3 e l = rw (e, ne_eqb (length frame) 9 l)

  pub unknown : (get_or frame 0 0 ≡ 1 → ⊥) → (get_or frame 0 0 ≡ 2 → ⊥) → (get_or frame 0 0 ≡ 3 → ⊥) → (get_or frame 0 0 ≡ 4 → ⊥)
      → heard t x n frame ≡ ignored t x n
  unfolding heard known
  unknown a b c d =
      let kind = get_or frame 0 0 in
      rw (ne_eqb kind 1 a, ne_eqb kind 2 b, ne_eqb kind 3 c, ne_eqb kind 4 d)

-- each way out
module _ {m : ℕ} {d d₁ : Drawer m} (number : d₁.number ≡ d.number) where
  pub tray-kept : (bytes : List ℕ) {a : Result ℕ Refusal} {n : ℕ} → a ≡ check_tray_answer bytes → a ≡ Ok n → filled d₁.tray ≡ bytes
      → filled d₁.index ≡ [] → filled d₁.output ≡ filled d.output ++ answer_line (answer 1 0 n [])
      → Turned (after_tray bytes (check_tray_answer bytes)) d d₁
  unfolding after_tray
  tray-kept bytes is e t x s = rw (sym is ∙ e) (record { tray = t; index = x; number = number; said = s })

  pub tray-refused : (bytes : List ℕ) {a : Result ℕ Refusal} {r : Refusal} → a ≡ check_tray_answer bytes → a ≡ Err r → filled d₁.tray ≡ []
      → filled d₁.index ≡ [] → filled d₁.output ≡ filled d.output ++ answer_line (refusal 1 r)
      → Turned (after_tray bytes (check_tray_answer bytes)) d d₁
  unfolding after_tray
  tray-refused bytes is e t x s = rw (sym is ∙ e) (record { tray = t; index = x; number = number; said = s })

  module _ (same_tray : filled d₁.tray ≡ filled d.tray) where
    pub index_kept : {t l : List ℕ} (size : ℕ) {k : ℕ} {a : Result ℕ Refusal} → t ≡ filled d.tray → a ≡ build_answer t size (length d.index.bytes)
        → d₁.index.bytes ≡ build_leaves t size d.index.bytes a → a ≡ Ok k → d₁.index.used ≡ k → l ≡ filled d₁.index
        → filled d₁.output ≡ filled d.output ++ answer_line (answer 2 0 k l)
        → Turned (after_build (filled d.tray) size (build_answer (filled d.tray) size room_size)) d d₁
    unfolding after_build
    index_kept {t} {l} size {k} at is left e used behind s =
        let front = index-front t size d.index.bytes d.index.whole is left e in
        let written : filled d₁.index ≡ index_bytes size (runs_of (filled d.tray)) =
        ap (λ (n : ℕ). take n d₁.index.bytes) used ∙ front.is ∙ ap (λ (t : List ℕ). index_bytes size (runs_of t)) at in
        let answered : build_answer (filled d.tray) size room_size ≡ Ok k =
        ap₂ (λ (t : List ℕ) (n : ℕ). build_answer t size n) (sym at) (sym d.index.whole) ∙ sym is ∙ e in
        rw answered
        (record {
          tray = same_tray;
          index = written;
          number = number;
          said = s ∙ ap (λ (l : List ℕ). filled d.output ++ answer_line (answer 2 0 k l)) (behind ∙ written);
        })

    pub index-refused : {t : List ℕ} (size : ℕ) {a : Result ℕ Refusal} {r : Refusal} → t ≡ filled d.tray
        → a ≡ build_answer t size (length d.index.bytes) → a ≡ Err r → filled d₁.index ≡ []
        → filled d₁.output ≡ filled d.output ++ answer_line (refusal 2 r)
        → Turned (after_build (filled d.tray) size (build_answer (filled d.tray) size room_size)) d d₁
    unfolding after_build
    index-refused size {r = r} at is e none s =
        let answered : build_answer (filled d.tray) size room_size ≡ Err r =
        ap₂ (λ (t : List ℕ) (n : ℕ). build_answer t size n) (sym at) (sym d.index.whole) ∙ sym is ∙ e in
        rw answered (record { tray = same_tray; index = none; number = number; said = s })

    -- what changes nothing that is kept
    pub said-only : {told says : List ℕ} → filled d₁.index ≡ filled d.index → told ≡ says → filled d₁.output ≡ filled d.output ++ answer_line told
        → Turned (saying d says) d d₁
    said-only same e s =
        record { tray = same_tray; index = same; number = number; said = s ∙ ap (λ (l : List ℕ). filled d.output ++ answer_line l) e }

-- what 03 and 04 say
module _ {m : ℕ} (d : Drawer m) {t x : List ℕ} (at : t ≡ filled d.tray) (on : x ≡ filled d.index) where
  pub looked : (key : List ℕ) {g a : Value} → g ≡ get_answer t x key → g ≡ a → after_get a ≡ after_get (get_answer (filled d.tray) (filled d.index) key)
  looked key is e = ap after_get (sym e ∙ is ∙ ap₂ (λ (t x : List ℕ). get_answer t x key) at on)

  module _ (prefix room : List ℕ) {a : Result ℕ Refusal} (size : length room ≡ room_size) (is : a ≡ sheet_answer t x prefix (length room)) where
    answered : {b : Result ℕ Refusal} → a ≡ b → after_sheet (listing (records_of (sheet t x prefix))) b ≡ listed_says (filled d.tray) (filled d.index) prefix
    answered e =
        ap (after_sheet (listing (records_of (sheet t x prefix)))) (sym e ∙ is ∙ ap (sheet_answer t x prefix) size)
        ∙ ap₂ (λ (t x : List ℕ). listed_says t x prefix) at on

    pub listed : {k : ℕ} {room₁ : List ℕ} → room₁ ≡ sheet_leaves t x prefix room a → a ≡ Ok k
        → answer 4 0 k (take (24 * k) room₁) ≡ listed_says (filled d.tray) (filled d.index) prefix
    unfolding after_sheet
    listed {k} left e = ap (answer 4 0 k) (sheet-front t x prefix room size is left e).is ∙ answered e

    pub list-refused : {r : Refusal} → a ≡ Err r → refusal 4 r ≡ listed_says (filled d.tray) (filled d.index) prefix
    unfolding after_sheet
    list-refused e = answered e

-- what stands after the kind, as the code lends it
abbrev pub behind : List ℕ → List ℕ
behind frame = take (length frame - 1) (drop 1 frame)

behind-is : (frame : List ℕ) → behind frame ≡ drop 1 frame
behind-is frame = take_all (length frame - 1) (drop 1 frame) (simp length-drop (omega arith))

behind-long : (frame : List ℕ) → length (behind frame) ≡ length frame - 1
behind-long frame = ap length (behind-is frame) ∙ length-drop 1 frame

-- each way out by kind
module _ {m : ℕ} {d d₁ : Drawer m} (frame : List ℕ) (some : 1 ≤ length frame) where
  instead : {u v : Turn} → v ≡ u → Turned u d d₁ → Turned v d d₁
  instead e h = subst (λ (w : Turn). Turned w d d₁) (sym e) h

  pub turned-1 : get_or frame 0 0 ≡ 1 → Turned (after_tray (behind frame) (check_tray_answer (behind frame))) d d₁ → Turned (heard_in d frame) d d₁
  turned-1 e h = instead (heard-1 (filled d.tray) (filled d.index) d.number frame e) (rw (behind-is frame) at h)

  pub turned-2 : get_or frame 0 0 ≡ 2 → length (behind frame) ≡ 1
      → Turned (after_build (filled d.tray) (get_or (behind frame) 0 0) (build_answer (filled d.tray) (get_or (behind frame) 0 0) room_size)) d d₁
      → Turned (heard_in d frame) d d₁
  turned-2 e l h =
      let size : get_or (behind frame) 0 0 ≡ get_or frame 1 0 = ap (λ (l : List ℕ). get_or l 0 0) (behind-is frame) ∙ get_or-drop 1 frame 0 0 in
      instead (heard-2 (filled d.tray) (filled d.index) d.number frame e (omega (arith, behind-long frame))) (rw size at h)

  pub turned-3 : {key : List ℕ} → get_or frame 0 0 ≡ 3 → length (behind frame) ≡ 8 → key ≡ behind frame
      → Turned (saying d (after_get (get_answer (filled d.tray) (filled d.index) key))) d d₁ → Turned (heard_in d frame) d d₁
  turned-3 e l is h = instead (heard-3 (filled d.tray) (filled d.index) d.number frame e (omega (arith, behind-long frame))) (rw (is, behind-is frame) at h)

  pub turned-4 : get_or frame 0 0 ≡ 4 → Turned (saying d (listed_says (filled d.tray) (filled d.index) (behind frame))) d d₁ → Turned (heard_in d frame) d d₁
  turned-4 e h = instead (heard-4 (filled d.tray) (filled d.index) d.number frame e) (rw (behind-is frame) at h)

  module _ (h : Turned (saying d (bad_answer d.number)) d d₁) where
    as_bad : heard_in d frame ≡ ignored (filled d.tray) (filled d.index) d.number → Turned (heard_in d frame) d d₁
    unfolding ignored
    as_bad e = instead e h

    pub bad-2 : get_or frame 0 0 ≡ 2 → (length (behind frame) ≡ 1 → ⊥) → Turned (heard_in d frame) d d₁
    bad-2 e l = as_bad (wrong-2 (filled d.tray) (filled d.index) d.number frame e (λ z. l (omega (arith, behind-long frame))))

    pub bad-3 : get_or frame 0 0 ≡ 3 → (length (behind frame) ≡ 8 → ⊥) → Turned (heard_in d frame) d d₁
    bad-3 e l = as_bad (wrong-3 (filled d.tray) (filled d.index) d.number frame e (λ z. l (omega (arith, behind-long frame))))

    pub bad-kind : (get_or frame 0 0 ≡ 1 → ⊥) → (get_or frame 0 0 ≡ 2 → ⊥) → (get_or frame 0 0 ≡ 3 → ⊥) → (get_or frame 0 0 ≡ 4 → ⊥)
        → Turned (heard_in d frame) d d₁
    bad-kind a b c e = as_bad (unknown (filled d.tray) (filled d.index) d.number frame a b c e)

-- a line, by whether it is well formed
module _ {m : ℕ} {d d₁ : Drawer m} (line : List ℕ) where
  pub line-heard : {frame : List ℕ} → formed line ≡ true → frame ≡ bytes_in line → Turned (heard_in d frame) d d₁ → Turned (turn_in d line) d d₁
  line-heard e is h =
      subst (λ (u : Turn). Turned u d d₁) (ap (heard_in d) is ∙ sym (turn-heard (filled d.tray) (filled d.index) d.number line e)) h

  pub line-bad : formed line ≡ false → Turned (saying d (bad_answer d.number)) d d₁ → Turned (turn_in d line) d d₁
  unfolding ignored
  line-bad e h = subst (λ (u : Turn). Turned u d d₁) (sym (turn-ignored (filled d.tray) (filled d.index) d.number line e)) h

-- the frame that was decoded stands at the front of its room
pub record Decoded (line frame : List ℕ) : Type 0 where
  pub is : take (length line / 2) frame ≡ bytes_in line
  pub some : 1 ≤ length (take (length line / 2) frame)
  pub short : length (take (length line / 2) frame) ≤ 16385

pub decoded : (line frame : List ℕ) {frame₁ : List ℕ} → formed line ≡ true → length frame ≡ 16385 → frame₁ ≡ put frame 0 (bytes_in line) → Decoded line frame₁
decoded line frame {frame₁} e room is =
    let f = formed-known line e in
    let bytes = bytes_in line in
    let all : 0 + length bytes ≡ length line / 2 = zero-add (length bytes) ∙ length-bytes_in line in
    let front : take (0 + length bytes) frame₁ ≡ bytes = ap (take (0 + length bytes)) is ∙ take_put frame 0 bytes (omega arith) in
    let spelt : take (length line / 2) frame₁ ≡ bytes = rw all at front in
    let long = ap length spelt ∙ length-bytes_in line in
    record { is = spelt; some = omega (arith, long, f.some, f.even); short = omega (arith, long, f.short) }
