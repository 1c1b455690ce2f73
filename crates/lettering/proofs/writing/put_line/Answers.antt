-- `lettering::writing::put_line` meets its contract: the buffer holds the letter and the fields passed.
use Prim.Native.Nat.{◌+◌}
use mathlib.Core.Path.{sym}
use lib.ListN.{length-set}
use native.Mathlib.Omega.{arith}
use Rattle.base.proofs.Buffer.{put_nil}
use Rattle.line.specs.Writing.{fields_of}
use Rattle.line.proofs.Bytes.{small_at, write_more, write_end}
use Rattle.lettering.proofs.writing.put_line.Goals as goal

pub loop-j-init : goal.loop-j-init
unfolding fields_of
loop-j-init c = sym (put_nil _ (c.args.at + 1))

pub loop-j-preserved : goal.loop-j-preserved
loop-j-preserved c =
    let a = c.args in
    write_more _ (a.at + 1) c.loop-j.j a.line.numbers c.loop-j.out _ (omega arith)
    (small_at a.line.numbers _ c.requires.1 c.loop-j.j (omega (arith, c.count_of-count.ensures.0)))
    (simp length-set (omega (arith, c.requires.0, c.count_of-count.ensures.0))) c.loop-j.auto.out c.loop-j.invariant c.write_field.ensures.1

pub returns : goal.returns
returns c =
    let a = c.args in
    write_end a.out.now a.at c.loop-j.j c.count_of-count.result c.byte_of.result a.line c.loop-j.out c.byte_of.ensures c.count_of-count.ensures.0
    (omega arith) c.requires.0 (omega arith) c.loop-j-test.false c.loop-j.invariant
