-- Laws of `put_all`.
--     put_all-more, length-put_all      one record more, and that the output stays as long
--     put_all-written                  from the front on it is the listing of the records
use Rattle.std.specs.Prelude.{◌≡◌, refl, ℕ, suc, ◌+◌, ◌*◌, ◌≤◌, List, [], ◌∷◌, ◌++◌, map, length}
use Rattle.std.proofs.Common.{sym, ap, ◌∙◌, add-zero, arith, append-nil}
use Rattle.std.proofs.Math.Seq.{append_snoc}
use Rattle.number.specs.Big.{put}
use Rattle.number.proofs.Big.Writes.{length-put}
use Rattle.theory.specs.Records.{Record}
use Rattle.tray.specs.Run.{record_from}
use Rattle.walk.specs.Reads.{Written, listed_bytes, write}
use Rattle.walk.specs.Reads.Page.{listing, written}
use Rattle.walk.proofs.ReadsLaws.Page.{length-listed, write-more}
use Rattle.list.specs.Put.{put_all}

pub put_all-more : (t bs : List ℕ) (a count : ℕ) (out : List ℕ)
    → put_all t (bs ++ (a ∷ [])) count out ≡ put (put_all t bs count out) (24 * (count + length bs)) (listed_bytes (record_from t a))
unfolding put_all
put_all-more t [] a count out = ap (λ (k : ℕ). put out (24 * k) (listed_bytes (record_from t a))) (sym (add-zero count))
put_all-more t (b ∷ bs) a count out =
    let next : List ℕ = put out (24 * count) (listed_bytes (record_from t b)) in
    let e : count + 1 + length bs ≡ count + suc (length bs) = omega arith in
    put_all-more t bs a (count + 1) next ∙ ap (λ (k : ℕ). put (put_all t bs (count + 1) next) (24 * k) (listed_bytes (record_from t a))) e

pub length-put_all : (t bs : List ℕ) (count : ℕ) (out : List ℕ) → 24 * (count + length bs) ≤ length out → length (put_all t bs count out) ≡ length out
unfolding put_all
length-put_all t [] count out l = refl
length-put_all t (a ∷ bs) count out l =
    let e : length (listed_bytes (record_from t a)) ≡ 24 = length-listed (record_from t a) in
    let one : length (put out (24 * count) (listed_bytes (record_from t a))) ≡ length out = length-put out (24 * count) (listed_bytes (record_from t a)) (omega arith) in
    length-put_all t bs (count + 1) (put out (24 * count) (listed_bytes (record_from t a))) (omega arith) ∙ one

-- after some that are written
put_all-behind : (t bs : List ℕ) (es : List Record) (out : List ℕ)
    → put_all t bs (length es) (written es out).out ≡ (written (es ++ map (record_from t) bs) out).out
unfolding put_all write written
put_all-behind t [] es out = ap (λ (fs : List Record). (written fs out).out) (sym (append-nil es))
put_all-behind t (a ∷ bs) es out =
    let e = record_from t a in
    ap (λ (w : Written). put_all t bs w.count w.out) (write-more es out e)
    ∙ put_all-behind t bs (es ++ (e ∷ [])) out
    ∙ ap (λ (fs : List Record). (written fs out).out) (append_snoc es e (map (record_from t) bs))

pub put_all-written : (t bs out : List ℕ) → put_all t bs 0 out ≡ (written (map (record_from t) bs) out).out
unfolding written listing
put_all-written t bs out = put_all-behind t bs [] out
