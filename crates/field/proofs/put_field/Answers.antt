-- `field::put_field` meets its contract: what is still to be written, laid over the buffer, is the whole field laid over the lent one.
use Rattle.field.proofs.Writing.{write_last, write_turn, write_ended}
use borrow.Author.Rules.{rules}
use mathlib.Core.Path.{◌∙◌}
use native.Mathlib.Omega.{arith}
use lib.ListN.{length-set}
use Rattle.field.proofs.put_field.Goals as goal

pub loop-i-preserved : goal.loop-i-preserved
loop-i-preserved c = write_turn c.loop-i.out c.args.at c.loop-i.i c.loop-i.rest c.glyph.result _ c.loop-i-test.true (omega (arith, simp length-set at c.loop-i.auto.out)) c.glyph.ensures c.loop-i.invariant

pub returns : goal.returns
returns c = let a = c.args in write_ended c.loop-i.out a.at c.loop-i.i c.loop-i.rest _ c.loop-i-test.false c.loop-i.invariant ∙ write_last a.out.now a.at a.n (search rules)
