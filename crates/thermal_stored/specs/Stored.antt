-- The stored coefficients of request (j) of document 02: B of step 4 for every density field.
use Rattle.std.specs.Prelude.{ℕ, ◌-◌, ◌≡◌, List, length, get_or}
use Rattle.heating.specs.Limits.{lowest_density, DensityInRange}
use Rattle.heating.specs.Steps.{expansion}

-- how many density fields there are from 9,000 to 9,900
abbrev pub field_count : ℕ
field_count = 901

-- a number for each density field, from the lowest on, and each is B of its field
pub record Stored (bs : List ℕ) : Type 0 where
  pub count : length bs ≡ field_count
  pub each : (r : ℕ) → DensityInRange r → get_or bs (r - lowest_density) 0 ≡ expansion r
