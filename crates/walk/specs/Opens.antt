-- What the opening of a tray and its index promises (docs/RULES.md, "Refusals by number": 1, then 4).
use Rattle.std.specs.Prelude.{◌≡◌, ℕ, List, Bool, true, cond, Option, Some, None, Result, MatchResult}
use Rattle.std.proofs.Common.{sym, ap, ◌∙◌}
use Rattle.refusal.specs.declared.Refusal.{Refusal}
use Rattle.refusal.specs.declared.Refusal.TheVariants.{TrayFrame, IndexFrame}
use Rattle.tray.specs.Frame.{run_count, framed}
use Rattle.index.specs.Layout.{index_framed}
use Rattle.walk.specs.declared.Indexed.{Indexed}

-- what the frames are refused by, if they are
unfoldable pub frames : List ℕ → List ℕ → Option Refusal
frames t x = cond (framed t) (cond (index_framed (run_count t) x) None (Some IndexFrame)) (Some TrayFrame)

-- the tray and the index where both frames fit, and else what they are refused by
abbrev pub Opens : List ℕ → List ℕ → Result Indexed Refusal → Type 0
Opens t x o =
    MatchResult o (λ (i : Indexed). (frames t x ≡ None) × (i.tray.bytes.now ≡ t) × (i.index.bytes.now ≡ x)) (λ (e : Refusal). frames t x ≡ Some e)

-- the index's part, where the tray's frame fits
pub frames-index : {t : List ℕ} (x : List ℕ) {t' : List ℕ} {h : ℕ} {b : Bool} → framed t ≡ true → t' ≡ t → h ≡ run_count t' → index_framed h x ≡ b → frames t x ≡ cond b None (Some IndexFrame)
unfolding frames
frames-index {t} x {t'} {h} {b} f same runs e = rw f (ap (λ (k : Bool). cond k None (Some IndexFrame)) (ap (λ (k : ℕ). index_framed k x) (sym (runs ∙ ap run_count same)) ∙ e))
