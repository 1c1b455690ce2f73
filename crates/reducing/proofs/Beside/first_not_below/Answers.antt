-- `reducing::Beside::first_not_below` meets its contract. The invariant: below `low` every density there is below the report, at `high` it is not,
-- unless `high` is the last field.
use Prim.Native.Nat.{◌+◌, ◌/◌}
use native.Mathlib.Omega.{arith}
use Rattle.laboratory.proofs.Neighbours.{mono}
use Rattle.reducing.proofs.Beside.first_not_below.Goals as goal

pub loop-low-preserved : goal.loop-low-preserved
loop-low-preserved c =
    let i = c.loop-low.invariant in
    let middle = (c.loop-low.low + c.loop-low.high) / 2 in (
      omega arith,
      omega arith,
      i.2,
      λ s l h. omega (arith, c.density_there.ensures, c.if-self-density_there.false, mono c.args.self.now.report c.args.self.now.in_range {s = middle} l (omega arith) (omega arith)),
      i.4,
    )
