-- `thermal::steps::factor_at` meets its contract: B and X are within the bounds of the budget.
use mathlib.Core.Path.{◌≡◌}
use native.Mathlib.Omega.{arith}
use Rattle.heating.specs.Steps
use Rattle.heating.specs.Steps.{factor}
use Rattle.heating.proofs.Bounds.{expansion_most, exponent_most, factor_most}
use Rattle.thermal.proofs.steps.factor_at.Goals as goal

pub exponent-requires : goal.exponent-requires
exponent-requires c = omega (arith, c.args.oil.own, expansion_most c.args.oil.in_range.light)

pub series-requires : goal.series-requires
series-requires c =
    let known = c.args.oil in
    let b = known.own in
    let e : c.exponent.result ≡ Steps.exponent (Steps.expansion c.args.oil.density.0) c.args.d = cc in
    omega (arith, exponent_most (expansion_most known.in_range.light) c.requires)

pub returns : goal.returns
unfolding factor
returns c =
    let known = c.args.oil in
    let b = known.own in
    let e : c.series.result ≡ Steps.factor c.args.oil.density.0 c.args.d = cc in
    (e, omega (arith, factor_most known.in_range.light c.requires))
