-- What refusals 18 to 20 leave of a car's fields, for inner functions that ask for it; it is no part of what the refusals mean.
use Rattle.std.specs.Prelude.{ℕ, ◌+◌, ◌≤◌}
use Rattle.heating.specs.Limits.{lowest_temperature, highest_temperature, DensityInRange}

-- the temperature t, the density r at 15 °C, water w and impurities i are in range
pub record FieldsInRange (t r w i : ℕ) : Type 0 where
  pub warm : lowest_temperature ≤ t
  pub hot : t ≤ highest_temperature
  pub density : DensityInRange r
  pub oil : w + i ≤ 10_000
