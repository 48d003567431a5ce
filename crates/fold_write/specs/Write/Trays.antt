-- The folded tray as the code writes it: each law is a way out of a function.
--     counts-in                        the counts
--     head-put, body-put, tray-put     the head, the body, and the whole tray
--     Laid, laid-parts                 where its parts stand, by the frame, and how long it is
use Rattle.std.specs.Prelude.{◌≡◌, refl, ℕ, suc, ◌+◌, ◌-◌, ◌*◌, ◌≤◌, ◌<◌, List, [], ◌∷◌, ◌++◌, length, set}
use Rattle.std.proofs.Common.{sym, ap, ap₂, ◌∙◌, arith, append_assoc, length-append}
use Rattle.number.specs.Big.{bytes_of, put}
use Rattle.number.proofs.Big.Laws.{length-bytes_of}
use Rattle.number.proofs.Big.Writes.{put-sets}
use Rattle.theory.specs.Records.{Record}
use Rattle.tray.specs.declared.Tray.{Tray}
use Rattle.tray.specs.Frame.{run_count, start_of, Framed}
use Rattle.tray.specs.Frame.Laws.{start_of-zero, start_of-le, start_of-within}
use Rattle.tray.specs.Meaning.{runs_of, records_bytes}
use Rattle.tray.specs.Meaning.Read.{length-records_bytes}
use Rattle.fold_spec.specs.Fold.{folded_run, fold_bytes, fold_size}
use Rattle.fold_write.specs.Write.{head_bytes, body_bytes}
use Rattle.fold_merge.specs.Folding.{between, Folding}
use Rattle.fold_merge.specs.Folding.Keeping.{start-low}
use Rattle.fold_write.specs.Write.Writes.{put_next}
use Rattle.fold_write.specs.Write.Parts.{fold-parts, size-parts, length-head, length-between}

-- the counts lie in the tray
pub counts-in : (tray : Tray) → 4 + 2 * run_count tray.bytes.now ≤ length tray.bytes.now
counts-in tray =
    let t = tray.bytes.now in
    let room : start_of t 0 ≤ length t = start_of-within t tray.frame.at.frame 0 (omega arith) in
    omega (arith, start_of-zero t)

-- the head
pub head-put : {tray : Tray} {a b : ℕ} (g : Folding tray a b) (out : List ℕ) {out₂ out₃ out₄ : List ℕ} (n : ℕ) {v i j k : ℕ}
    → v ≡ run_count tray.bytes.now - (b - a) → 4 + 2 * v ≤ length out → i ≡ a → j ≡ b → k ≡ run_count tray.bytes.now
    → out₂ ≡ put (set (set (set (set out 0 v) 1 0) 2 0) 3 0) 4 (between 4 (4 + 2 * i) tray.bytes.now)
    → out₃ ≡ put out₂ (4 + 2 * i) (bytes_of 2 n) → out₄ ≡ put out₃ (4 + 2 * i + 2) (between (6 + 2 * j) (4 + 2 * k) tray.bytes.now)
    → out₄ ≡ put out 0 (head_bytes tray.bytes.now a b n)
unfolding head_bytes
head-put {tray} {a} {b} g out {out₂} {out₃} {out₄} n {v} {i} {j} {k} e room p q r first second third =
    let t = tray.bytes.now in
    let in-tray = counts-in tray in
    let order : a ≤ b = g.order in
    let within : b < run_count t = g.within in
    let header : List ℕ = v ∷ 0 ∷ 0 ∷ 0 ∷ [] in
    let front = between 4 (4 + 2 * i) t in let back = between (6 + 2 * j) (4 + 2 * k) t in
    let four : set (set (set (set out 0 v) 1 0) 2 0) 3 0 ≡ put out 0 header = put-sets out 0 header (omega arith) in
    let long : length front ≡ 4 + 2 * i - 4 = length-between 4 (4 + 2 * i) t (omega arith) (omega arith) in
    let two : out₂ ≡ put out 0 (header ++ front) = put_next out header front 0 four (omega arith) refl first in
    let long-2 : length (header ++ front) ≡ 4 + 2 * i = length-append header front ∙ omega arith in
    let three : out₃ ≡ put out 0 ((header ++ front) ++ bytes_of 2 n) = put_next out (header ++ front) (bytes_of 2 n) 0 two (omega arith) (omega arith) second in
    let long-3 : length ((header ++ front) ++ bytes_of 2 n) ≡ 4 + 2 * i + 2 =
    length-append (header ++ front) (bytes_of 2 n) ∙ ap₂ (λ (x y : ℕ). x + y) long-2 (length-bytes_of 2 n) in
    let whole : out₄ ≡ put out 0 (((header ++ front) ++ bytes_of 2 n) ++ back) =
    put_next out ((header ++ front) ++ bytes_of 2 n) back 0 three (omega arith) (omega arith) third in
    let joined : ((header ++ front) ++ bytes_of 2 n) ++ back ≡ header ++ (front ++ (bytes_of 2 n ++ back)) = simp append_assoc in
    whole ∙ ap (put out 0) (joined ∙ rw (p, q, r, e))

-- the body
pub body-put : (t out : List ℕ) {front back out₁ out₂ out₃ : List ℕ} (x y z : ℕ) {n at : ℕ} (w : List Record) {p q : ℕ}
    → front ≡ between x y t → back ≡ between z (length t) t → at ≤ length out → n ≡ length w → p ≡ at + length front → q ≡ p + 25 * n
    → out₁ ≡ put out at front → out₂ ≡ put out₁ p (records_bytes w) → out₃ ≡ put out₂ q back
    → out₃ ≡ put out at (body_bytes t x y z w)
unfolding body_bytes
body-put t out {front} {back} x y z {n} {at} w l m room e f g first second third =
    let two = put_next out front (records_bytes w) at first room f second in
    let long : length (front ++ records_bytes w) ≡ length front + 25 * n = simp (length-append, length-records_bytes) (omega arith) in
    put_next out (front ++ records_bytes w) back at two room (omega arith) third
    ∙ ap (put out at) (append_assoc front (records_bytes w) back ∙ rw (l, m))

-- the whole tray
pub tray-put : {tray : Tray} {a b : ℕ} (g : Folding tray a b) (out : List ℕ) {out₁ out₂ : List ℕ} (n : ℕ) {at : ℕ} {w : List Record}
    → n ≡ length w → w ≡ folded_run a b (runs_of tray.bytes.now) → at ≡ 4 + 2 * (run_count tray.bytes.now - (b - a))
    → out₁ ≡ put out 0 (head_bytes tray.bytes.now a b n)
    → out₂ ≡ put out₁ at (body_bytes tray.bytes.now (start_of tray.bytes.now 0) (start_of tray.bytes.now a) (start_of tray.bytes.now (b + 1)) w)
    → out₂ ≡ put out 0 (fold_bytes a b (runs_of tray.bytes.now))
tray-put {tray} {a} {b} g out {out₁} {out₂} n {at} {w} e is k first second =
    let t = tray.bytes.now in
    let f = tray.frame.at.frame in
    let next : b + 1 ≡ suc b = omega arith in
    put_next out (head_bytes t a b n) (body_bytes t (start_of t 0) (start_of t a) (start_of t (b + 1)) w) 0 first (omega arith) (omega (arith, k, length-head f g.bytes g.order g.within n)) second
    ∙ ap (put out 0) (rw (e, is, next) (sym (fold-parts f g.bytes g.order g.within)))

-- a folded tray is not long
tray-low : {t : List ℕ} {a b n : ℕ} (w : List Record) → Framed t → a ≤ b → b < run_count t → n ≡ length w
    → fold_size a b (runs_of t) ≡ 4 + 2 * (run_count t - (b - a)) + ((start_of t a - start_of t 0) + 25 * length w + (length t - start_of t (suc b)))
    → fold_size a b (runs_of t) ≤ 6451330 + 25 * n
tray-low {t} {a} {b} {n} w f order within e size =
    let whole : length t ≡ start_of t (run_count t) = f.whole in
    let up : start_of t a ≤ start_of t (suc b) = start_of-le t a (suc b) (omega arith) in
    let first : start_of t 0 ≤ start_of t a = start_of-le t 0 a (omega arith) in
    let on : start_of t (suc b) ≤ start_of t (run_count t) = start_of-le t (suc b) (run_count t) within in
    let least : start_of t 0 ≡ 4 + 2 * run_count t = start_of-zero t in
    let most : start_of t (run_count t) ≤ 6451330 = start-low f in
    omega arith

-- where the parts of a folded tray of n records stand, and how long it is
pub record Laid (tray : Tray) (a b n : ℕ) : Type 0 where
  pub up : start_of tray.bytes.now 0 ≤ start_of tray.bytes.now a
  pub in-tray : start_of tray.bytes.now a ≤ length tray.bytes.now
  pub in-tray-2 : start_of tray.bytes.now (b + 1) ≤ length tray.bytes.now
  pub counts : 4 + 2 * run_count tray.bytes.now ≤ length tray.bytes.now
  pub front : length (between (start_of tray.bytes.now 0) (start_of tray.bytes.now a) tray.bytes.now) ≡ start_of tray.bytes.now a - start_of tray.bytes.now 0
  pub back : length (between (start_of tray.bytes.now (b + 1)) (length tray.bytes.now) tray.bytes.now) ≡ length tray.bytes.now - start_of tray.bytes.now (b + 1)
  pub size : fold_size a b (runs_of tray.bytes.now)
      ≡ 4 + 2 * (run_count tray.bytes.now - (b - a))
      + ((start_of tray.bytes.now a - start_of tray.bytes.now 0) + 25 * n + (length tray.bytes.now - start_of tray.bytes.now (b + 1)))
  pub low : fold_size a b (runs_of tray.bytes.now) ≤ 6451330 + 25 * n

pub laid-parts : {tray : Tray} {a b n : ℕ} → Folding tray a b → n ≡ length (folded_run a b (runs_of tray.bytes.now)) → Laid tray a b n
laid-parts {tray} {a} {b} {n} g e =
    let t = tray.bytes.now in
    let frame = tray.frame.at.frame in
    let order : a ≤ b = g.order in
    let within : b < run_count t = g.within in
    let next : b + 1 ≡ suc b = omega arith in
    let zeroth : start_of t 0 ≤ length t = start_of-within t frame 0 (omega arith) in
    let whole = size-parts frame g.bytes order within in
    let up = start_of-le t 0 a (omega arith) in
    let in-tray = start_of-within t frame a (omega arith) in
    let in-tray-2 = start_of-within t frame (suc b) within in
    record {
      up = up;
      in-tray = in-tray;
      in-tray-2 = rw next in-tray-2;
      counts = omega (arith, start_of-zero t);
      front = length-between (start_of t 0) (start_of t a) t up in-tray;
      back = rw next (length-between (start_of t (suc b)) (length t) t in-tray-2 (omega arith));
      size = rw (next, e) whole;
      low = tray-low (folded_run a b (runs_of t)) frame order within e whole;
    }
