-- `scanning::feed_at` meets its contract: the first line feed from the start is the first from the place reached.
use native.Mathlib.Omega.{arith}
use mathlib.Core.Path.{sym, ◌∙◌}
use Rattle.std.proofs.lemmas.Grind.{common_steps}
use Rattle.reading.proofs.Fields.{feed_past, feed_here, feed_none}
use Rattle.scanning.proofs.feed_at.Goals as goal

pub returns-then-s-i-eq10 : goal.returns-then-s-i-eq10
returns-then-s-i-eq10 c = (sym (c.loop-i.invariant.0 ∙ feed_here _ _ c.loop-i-test.true c.if-s-i-eq10.true), omega arith)

pub loop-i-preserved : goal.loop-i-preserved
loop-i-preserved c = (c.loop-i.invariant.0 ∙ feed_past _ _ c.loop-i-test.true c.if-s-i-eq10.false, λ h. omega arith)

pub returns : goal.returns
returns c = (c.max.ensures ∙ sym (c.loop-i.invariant.0 ∙ feed_none _ _ c.loop-i-test.false ∙ grind (arith, common_steps)), grind (arith, common_steps))
