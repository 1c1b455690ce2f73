-- `thermal::steps::exponent` meets its contract: Y is at most 578,270,250, and 8 times its square fits.
use borrow.Author.Rules.{rules}
use native.Mathlib.Nat.{mul-le-mul}
use native.Mathlib.Omega.{arith}
use Rattle.heating.specs.Steps.{exponent}
use Rattle.heating.proofs.Bounds.{exponent_most}
use Rattle.thermal.proofs.steps.exponent.Goals as goal

pub overflow_mul-y-2 : goal.overflow_mul-y-2
overflow_mul-y-2 c = let y = mul-le-mul c.requires.0 c.requires.1 in omega (arith, mul-le-mul y y)

pub overflow_mul-y-3 : goal.overflow_mul-y-3
overflow_mul-y-3 c = let y = mul-le-mul c.requires.0 c.requires.1 in omega (arith, mul-le-mul y y)

pub overflow_add-result : goal.overflow_add-result
unfolding exponent
overflow_add-result c = omega (arith, c.round_half_up.ensures, exponent_most c.requires.0 c.requires.1)

pub returns : goal.returns
unfolding exponent
returns c = search rules
