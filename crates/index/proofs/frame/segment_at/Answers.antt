-- `index::frame::segment_at` meets its contract: no product is large.
use Rattle.index.specs.Layout.Code.{size_low}
use Rattle.index.specs.Layout.{segment_at, head_size}
use Prim.Native.Nat.{ℕ, ◌+◌, ◌*◌}
use mathlib.Core.Path.{ap₂}
use native.Mathlib.Omega.{arith}
use Rattle.index.proofs.frame.segment_at.Goals as goal

pub overflow_mul-result-2 : goal.overflow_mul-result-2
overflow_mul-result-2 c =
    let usize-of-u8 = c.from in
    let args = c.args in
    omega (arith, size_low args.g.0 (8 + 2 * usize-of-u8.result + c.from-2.result) (omega arith) (omega arith))

pub overflow_add-result-3 : goal.overflow_add-result-3
overflow_add-result-3 c =
    let usize-of-u8 = c.from in
    let args = c.args in
    omega (arith, size_low args.g.0 (8 + 2 * usize-of-u8.result + c.from-2.result) (omega arith) (omega arith))

pub returns : goal.returns
unfolding segment_at head_size
returns c =
    let usize-of-u8 = c.from in
    let args = c.args in
    ap₂ (λ (a b : ℕ). 8 + args.g.0 * (8 + 2 * a + b)) usize-of-u8.ensures c.from-2.ensures
