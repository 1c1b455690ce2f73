-- `thermal::steps::density_at` meets its contract: the product of a density and E fits.
use mathlib.Core.Path.{◌≡◌}
use native.Mathlib.Omega.{arith}
use Rattle.heating.specs.Steps
use Rattle.heating.specs.Steps.{density_at}
use Rattle.heating.proofs.Bounds.{density_most}
use Rattle.thermal.proofs.steps.density_at.Goals as goal

pub overflow_cast-result : goal.overflow_cast-result
unfolding density_at
overflow_cast-result c =
    let e : c.round_half_up.result ≡ Steps.density_at c.args.oil.density.0 c.args.d = cc in
    omega (arith, density_most c.args.oil.in_range c.requires)

pub returns : goal.returns
unfolding density_at
returns c = cc
