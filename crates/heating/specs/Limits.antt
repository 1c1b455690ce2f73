-- The limits of temperature and of density at 15 °C, and refusals 18, where no grade is given, and 19 of document 01.
use Rattle.std.specs.Prelude.{ℕ, ◌≤◌, Bool, List, [], ◌∷◌}
use Rattle.base.specs.Answer.{Test, refuse_if}
use Rattle.base.specs.Numbers.{outside}

-- the temperatures of every grade, in 0.1 °C
abbrev pub lowest_temperature : ℕ
lowest_temperature = 200

abbrev pub highest_temperature : ℕ
highest_temperature = 900

-- the densities at 15 °C, in 0.1 kg/m³
abbrev pub lowest_density : ℕ
lowest_density = 9_000

abbrev pub highest_density : ℕ
highest_density = 9_900

-- 18: the temperature t, where no grade is given
abbrev pub temperature_bad_any_grade : ℕ → Bool
temperature_bad_any_grade t = outside lowest_temperature highest_temperature t

abbrev pub temperature_tests_any_grade : ℕ → List Test
temperature_tests_any_grade t = refuse_if 18 (temperature_bad_any_grade t) ∷ []

-- 19: the density r at 15 °C
abbrev pub density_bad : ℕ → Bool
density_bad r = outside lowest_density highest_density r

abbrev pub density_tests : ℕ → List Test
density_tests r = refuse_if 19 (density_bad r) ∷ []

-- the density r at 15 °C is in the range of 19
pub record DensityInRange (r : ℕ) : Type 0 where
  pub light : lowest_density ≤ r
  pub dense : r ≤ highest_density
