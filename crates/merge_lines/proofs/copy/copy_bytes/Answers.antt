-- `merge_lines::copy::copy_bytes` meets its contract: each turn copies a byte.
use Prim.Native.Nat.{◌+◌}
use mathlib.Core.Path.{◌∙◌}
use lib.ListN.{get_or, length-set}
use Rattle.merge_lines.proofs.Bytes.{copied_next}
use Rattle.merge_lines.proofs.copy.copy_bytes.Goals as goal

pub loop-i-preserved : goal.loop-i-preserved
loop-i-preserved c =
    let a = c.args in (
      length-set c.loop-i.out (a.at + c.loop-i.i) (get_or a.text.now (a.from + c.loop-i.i) 0) ∙ c.loop-i.invariant.0,
      copied_next a.out.now a.text.now a.at a.from a.n c.requires.0 c.requires.1 c.loop-i.out c.loop-i.i c.loop-i-test.true c.loop-i.invariant.1,
    )
