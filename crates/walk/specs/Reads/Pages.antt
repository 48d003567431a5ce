-- Pages put together. Their laws: `proofs/ReadsLaws/Pages.antt`.
use Rattle.std.specs.Prelude.{◌≡◌, take}
use Prim.Native.Nat.{ℕ, suc, ◌*◌}
use mathlib.Core.List.{List, ◌++◌, map}
use Rattle.theory.specs.Records.{Record}
use Rattle.walk.specs.Walk.{Spot, stayed, ended}
use Rattle.walk.specs.Walk.Spots.{Stop}
use Rattle.walk.specs.Reads.Shown.{point_of}
use Rattle.walk.specs.Reads.Page.{room}
use Rattle.walk.specs.Reads.{Written, page}

-- the bytes that a page has written
abbrev pub bytes_in : Written → List ℕ
bytes_in w = take (24 * w.count) w.out

-- pages from a cursor on, page number i into its own output: what they have written, put together
pub data Pages (t x : List ℕ) (outs : ℕ → List ℕ) : ℕ → Spot → List ℕ → Type 0 where
  pages-end : {i : ℕ} {c : Spot} {w : Written} → page t x c (outs i) ≡ ended w → Pages t x outs i c (bytes_in w)
  pages-on : {i : ℕ} {c c' : Spot} {w : Written} {bytes : List ℕ} → page t x c (outs i) ≡ stayed (w, c')
      → Pages t x outs (suc i) c' bytes → Pages t x outs i c (bytes_in w ++ bytes)

-- the records that a page of these stops writes
abbrev pub fitting : List Stop → List ℕ → List Record
fitting qs out = map point_of (take (room out) qs)
