-- `tape::tape_allowance` meets its contract: on both sides of the test its result is the formula's answer, which is the list's.
use Prim.Native.Nat.{◌*◌}
use mathlib.Core.Path.{sym, ◌∙◌}
use native.Mathlib.Omega.{arith}
use Rattle.base.specs.Limits.{highest_level, tenths}
use Rattle.base.proofs.Numbers.{inside}
use Rattle.dip.specs.Formula.{formula_answer}
use Rattle.dip.proofs.Formula.{formula_figure, formula_right}
use Rattle.tape.proofs.tape_allowance.Goals as goal

pub returns-then-is_off_tape : goal.returns-then-is_off_tape
unfolding formula_answer
returns-then-is_off_tape c = formula_right (rw (sym c.is_off_tape.ensures ∙ c.if-is_off_tape.true))

pub returns : goal.returns
returns c =
    let on = inside tenths (tenths * highest_level) c.args.level (sym c.is_off_tape.ensures ∙ c.if-is_off_tape.false) in
    formula_right (formula_figure c.args.level on.0 on.1 (omega (arith, on.0)))
