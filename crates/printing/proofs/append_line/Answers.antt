-- `printing::append_line` meets its contract: a line that has room is written.
use Prim.Native.Nat.{◌+◌}
use mathlib.Core.Path.{ap, ◌∙◌}
use native.Mathlib.Omega.{arith}
use Rattle.printing.proofs.Appending.{laid_width, never_refused, laid_bytes, fits}
use Rattle.printing.proofs.append_line.Goals as goal

pub overflow_add-result : goal.overflow_add-result
overflow_add-result c =
    omega (arith, laid_width c.args.text c.args.at c.args.out.now c.requires c.write_line_at.ensures.0 c.in-Ok.is, fits c.args.text c.args.at c.args.out.now c.requires)

pub returns-in-Ok : goal.returns-in-Ok
returns-in-Ok c = (
  ap (λ n. c.args.at + n) (laid_width c.args.text c.args.at c.args.out.now c.requires c.write_line_at.ensures.0 c.in-Ok.is),
  c.write_line_at.ensures.1 ∙ laid_bytes c.args.text c.args.at c.args.out.now c.requires,
)

pub returns-in-Err : goal.returns-in-Err
returns-in-Err c =
    never_refused c.args.text c.args.at c.args.out.now c.requires c.write_line_at.ensures.0 c.in-Err.is
