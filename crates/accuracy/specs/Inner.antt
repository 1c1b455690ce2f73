-- What inner functions ask for and keep; it is no part of what the permitted error means.
use Rattle.std.specs.Prelude.{ℕ, ◌≤◌}
use Rattle.accuracy.specs.declared.Errors.{Errors}
use Rattle.accuracy.specs.Permitted.{most_share, most_temperature_error, most_level_error}

-- errors to which 24 does not apply
pub record ErrorsInRange (e : Errors) : Type 0 where
  pub capacity : e.capacity ≤ most_share
  pub density : e.density ≤ most_share
  pub processing : e.processing ≤ most_share
  pub density_temperature : e.density_temperature ≤ most_temperature_error
  pub oil_temperature : e.oil_temperature ≤ most_temperature_error
  pub level : e.level ≤ most_level_error

-- The most of a temperature term, of G in millionths, of the sum of squares, and of the limit.

abbrev pub most_temperature_term : ℕ
most_temperature_term = 1_542

abbrev pub most_density_factor : ℕ
most_density_factor = 1_113_039

abbrev pub most_sum : ℕ
most_sum = 429_199_320

abbrev pub most_limit : ℕ
most_limit = 22_789
