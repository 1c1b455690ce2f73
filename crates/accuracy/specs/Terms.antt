-- The terms of the permitted error, each in 0.0001 % and taken by R: request (c) of document 02, after formulas (17) and (20) of document 003.
use Rattle.std.specs.Prelude.{ℕ, ◌+◌, ◌*◌, ◌-◌, List, [], ◌∷◌}
use Rattle.base.specs.Rounding.{rounded}
use Rattle.base.specs.Total.{total}
use Rattle.gauging.specs.Capacity.{Gap}
use Rattle.heating.specs.Steps.{unity}
use Rattle.accuracy.specs.declared.Errors.{Errors}

-- from one row to the next: mm, and dm³
abbrev pub level_step : Gap → ℕ
level_step g = g.high.level - g.low.level

abbrev pub capacity_step : Gap → ℕ
capacity_step g = g.high.capacity - g.low.capacity

-- of the level error e, in 0.1 mm, between the two rows g, for the volume v, which is V0, in 0.01 dm³
unfoldable pub level_term : ℕ → Gap → ℕ → ℕ
level_term e g v = rounded (10_000_000 * e * capacity_step g) (level_step g * v)

-- of a temperature error e, in 0.1 °C, with b for B, in 10⁻⁹ per °C
unfoldable pub temperature_term : ℕ → ℕ → ℕ
temperature_term b e = rounded (b * e) 10_000

-- G of formula (17), in millionths: the oil temperature t above the line and 15 °C below, both in 0.1 °C
unfoldable pub density_factor : ℕ → ℕ → ℕ
density_factor b t = rounded (1_000_000 * (unity + 2 * (b * t))) (unity + 2 * (b * 150))

-- a term that was taken by R, times the factor g, which is G, by R again
unfoldable pub times_factor : ℕ → ℕ → ℕ
times_factor term g = rounded (term * g) 1_000_000

-- the terms of capacity, level, density, density temperature, oil temperature and processing, for the level term l
unfoldable pub terms : Errors → ℕ → ℕ → ℕ → List ℕ
terms e l b t =
    e.capacity
    ∷ l
    ∷ times_factor e.density (density_factor b t)
    ∷ times_factor (temperature_term b e.density_temperature) (density_factor b t)
    ∷ temperature_term b e.oil_temperature
    ∷ e.processing
    ∷ []

abbrev pub sum_of_squares : List ℕ → ℕ
sum_of_squares ts = total (λ x. x * x) ts
