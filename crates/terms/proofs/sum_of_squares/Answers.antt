-- `terms::sum_of_squares` meets its contract: each term is below its bound, and so is the sum of their squares.
use Prim.Native.Nat.{ℕ, ◌+◌, ◌*◌, ◌≤◌}
use mathlib.Core.Path.{◌≡◌}
use native.Mathlib.Omega.{arith}
use Rattle.base.specs.Total.{total}
use Rattle.accuracy.specs.Terms.{temperature_term, density_factor, times_factor, terms, sum_of_squares}
use Rattle.accuracy.specs.Inner.{most_sum}
use Rattle.accuracy.proofs.Bounds.{density_term_most, density_temperature_term_most, sum_most}
use Rattle.terms.proofs.sum_of_squares.Goals as goal
use Rattle.terms.proofs.sum_of_squares.Goals.{After-struct_known-3-1, Start}

-- past the six terms
module _ (c : After-struct_known-3-1) where
  abbrev start : Start
  start = c.before.before.before.before.before.before.before.before

  abbrev factor : ℕ
  factor = c.density_factor-factor.result

  abbrev density : ℕ
  density = c.times_factor-density.result

  abbrev before-factor : ℕ
  before-factor = c.temperature_term.result

  abbrev density_temperature : ℕ
  density_temperature = c.times_factor-density_temperature.result

  abbrev oil_temperature : ℕ
  oil_temperature = c.temperature_term-oil_temperature.result

  density-is : density ≡ times_factor start.args.e.density factor
  density-is = c.times_factor-density.ensures

  density-temperature-is : density_temperature ≡ times_factor before-factor factor
  density-temperature-is = c.times_factor-density_temperature.ensures

  factor-is : factor ≡ density_factor start.args.b start.args.temperature
  factor-is = c.density_factor-factor.ensures.0

  -- what the code adds up
  abbrev added : ℕ
  added =
      let e = start.args.e in
      e.capacity * e.capacity + start.args.level * start.args.level + density * density + density_temperature * density_temperature + oil_temperature * oil_temperature + e.processing * e.processing

  whole : added ≤ most_sum
  whole =
      let r = start.requires.0 in
      let g = c.density_factor-factor.ensures.1 in
      let d : density ≤ 11_130 = omega (arith, density-is, density_term_most r.density g) in
      let t : density_temperature ≤ 1_716 = omega (arith, density-temperature-is, density_temperature_term_most c.temperature_term.ensures.1 g) in
      sum_most r.capacity start.requires.1 d t c.temperature_term-oil_temperature.ensures.1 r.processing

  same : added ≡ sum_of_squares (terms start.args.e start.args.level start.args.b start.args.temperature)
  unfolding terms total
  same =
      let o : oil_temperature ≡ temperature_term start.args.b start.args.e.oil_temperature = c.temperature_term-oil_temperature.ensures.0 in
      let t : before-factor ≡ temperature_term start.args.b start.args.e.density_temperature = c.temperature_term.ensures.0 in
      rw (← factor-is, ← t, ← o, ← density-is, ← density-temperature-is) (omega arith)

pub overflow_mul-result-3 : goal.overflow_mul-result-3
overflow_mul-result-3 c = omega (arith, whole c)

pub overflow_add-result-2 : goal.overflow_add-result-2
overflow_add-result-2 c = omega (arith, whole c)

pub overflow_mul-result-4 : goal.overflow_mul-result-4
overflow_mul-result-4 c = omega (arith, whole c)

pub overflow_add-result-3 : goal.overflow_add-result-3
overflow_add-result-3 c = omega (arith, whole c)

pub overflow_add-result-4 : goal.overflow_add-result-4
overflow_add-result-4 c = omega (arith, whole c)

pub overflow_add-result-5 : goal.overflow_add-result-5
overflow_add-result-5 c = omega (arith, whole c)

pub returns : goal.returns
unfolding terms total
returns c = (same c, omega (arith, whole c))
