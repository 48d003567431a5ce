-- What the code that writes gathered records needs of the definition.
--     Putting, putting-first, putting-more     the loop that writes
use Rattle.std.specs.Prelude.{◌≡◌, refl, ℕ, ◌+◌, ◌-◌, ◌*◌, ◌≤◌, ◌<◌, List, [], ◌∷◌, ◌++◌, length, get_or, take, drop}
use Rattle.std.proofs.Common.{sym, ap, ap₂, ◌∙◌, add-zero, add-one, arith, take-suc, length-take-le}
use Rattle.number.specs.Big.{put}
use Rattle.number.proofs.Big.Writes.{length-put}
use Rattle.theory.specs.Records.{Record}
use Rattle.tray.specs.Run.{record_from, record_at}
use Rattle.walk.specs.Reads.{listed_bytes}
use Rattle.walk.proofs.ReadsLaws.Page.{length-listed}
use Rattle.list.specs.Stops.Laws.{record-part}
use Rattle.list.specs.Put.{put_all}
use Rattle.list.specs.Put.Laws.{put_all-more}

-- the loop that writes: the first i records are written
pub record Putting (t ats : List ℕ) (count : ℕ) (out₀ : List ℕ) (i : ℕ) (out : List ℕ) : Type 0 where
  pub same : out ≡ put_all t (take i ats) count out₀
  pub kept : length out ≡ length out₀

pub putting-first : (t ats : List ℕ) (count : ℕ) (out : List ℕ) → Putting t ats count out 0 out
unfolding put_all
putting-first t ats count out = record { same = refl; kept = refl }

pub putting-more : {t ats : List ℕ} {count : ℕ} {out₀ : List ℕ} {i : ℕ} {out after : List ℕ} {a e : ℕ} → Putting t ats count out₀ i out → i < length ats
    → 24 * (count + length ats) ≤ length out₀ → a ≡ get_or ats i 0 → e ≡ a + 25
    → after ≡ put out (24 * (count + i)) (listed_bytes (record_at (take (e - a) (drop a t)) 0))
    → Putting t ats count out₀ (i + 1) after
putting-more {t} {ats} {count} {out₀} {i} {out} {after} {a} {e} p l room here end f =
    let kept : length out ≡ length out₀ = p.kept in
    let one : record_at (take (e - a) (drop a t)) 0 ≡ record_from t a = record-part t a (e - a) 0 (omega arith) ∙ ap (record_from t) (add-zero a) in
    let long : length (listed_bytes (record_from t a)) ≡ 24 = length-listed (record_from t a) in
    let done : after ≡ put out (24 * (count + i)) (listed_bytes (record_from t a)) = f ∙ ap (λ (r : Record). put out (24 * (count + i)) (listed_bytes r)) one in
    record {
      same =
          done
          ∙ ap₂ (λ (o : List ℕ) (b : ℕ). put o (24 * (count + b)) (listed_bytes (record_from t a))) p.same (sym (length-take-le i ats (omega arith)))
          ∙ sym (put_all-more t (take i ats) a count out₀)
          ∙ ap (λ (b : ℕ). put_all t (take i ats ++ (b ∷ [])) count out₀) here
          ∙ ap (λ (bs : List ℕ). put_all t bs count out₀) (sym (take-suc ats i 0 l))
          ∙ ap (λ (b : ℕ). put_all t (take b ats) count out₀) (sym (add-one i));
      kept = ap length done ∙ length-put out (24 * (count + i)) (listed_bytes (record_from t a)) (omega arith) ∙ p.kept;
    }
