-- What the code of the frame promises, beside the definitions of `Frame.antt`. Its laws: `proofs/FrameCode.antt`.
use Rattle.std.specs.Prelude.{◌≡◌, List, length, get_or, Result, MatchResult}
use Prim.Native.Nat.{ℕ, ◌+◌, ◌*◌, ◌≤◌}
use Rattle.std.proofs.Math.Bool.{true, false}
use Rattle.refusal.specs.declared.Refusal.{Refusal}
use Rattle.refusal.specs.declared.Refusal.TheVariants.{TrayFrame}
use Rattle.tray.specs.declared.Tray.{Tray}
use Rattle.tray.specs.Frame.{header_fits, framed}

module _ (t : List ℕ) where
  -- what a header that fits says
  pub record Header : Type 0 where
    pub fits : header_fits t ≡ true
    pub long : 4 + 2 * get_or t 0 0 ≤ length t
    pub most : get_or t 0 0 ≤ 63

  -- the tray where its frame fits, and else refusal 1
  abbrev pub Opens : Result Tray Refusal → Type 0
  Opens o = MatchResult o (λ (f : Tray). (framed t ≡ true) × (f.bytes.now ≡ t)) (λ (e : Refusal). (framed t ≡ false) × (e ≡ TrayFrame))
