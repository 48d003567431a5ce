-- Invariant: all keys before this one are below the bound.
use Rattle.std.proofs.Common.{refl}
use Rattle.sheet_count.specs.Count.Code.{seeking-first, seeking-more, past-here, past_end}
use Rattle.sheet_count.proofs.first_past.Goals as goal

pub loop-i-init : goal.loop-i-init
loop-i-init c = seeking-first _ _ _

pub returns-then-high-key_at : goal.returns-then-high-key_at
returns-then-high-key_at c = past-here c.loop-i.invariant c.loop-i-test.true refl refl c.key_at.ensures c.if-high-key_at.true

pub loop-i-preserved : goal.loop-i-preserved
loop-i-preserved c = seeking-more c.loop-i.invariant c.loop-i-test.true refl refl c.key_at.ensures c.if-high-key_at.false

pub returns : goal.returns
returns c = past_end c.loop-i.invariant c.loop-i-test.false
