-- `base::round_half_up` meets its contract: the rest decides whether the whole quotient is the nearest number or the one below it.
use native.Mathlib.Nat.{div-zero}
use Prim.Native.Nat.{◌<◌}
use native.Mathlib.Omega.{arith}
use Rattle.base.specs.Rounding.{rounded}
use Rattle.base.proofs.Rounding.{round_down, round_up}
use Rattle.base.proofs.round_half_up.Goals as goal
use Rattle.base.proofs.round_half_up.Goals.{Else-d-eq0}

-- the divisor is not 0 past the first test
positive : (c : Else-d-eq0) → 0 < c.args.d
positive c = omega (arith, c.if-d-eq0.false)

pub returns-then-d-eq0 : goal.returns-then-d-eq0
unfolding rounded
returns-then-d-eq0 c = simp (c.if-d-eq0.true, div-zero)

pub returns-then-rest-d : goal.returns-then-rest-d
returns-then-rest-d c = round_down _ _ (positive c.before) c.if-rest-d.true

pub returns : goal.returns
returns c = round_up _ _ (positive c.before) c.if-rest-d.false
