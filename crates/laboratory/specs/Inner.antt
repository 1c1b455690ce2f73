-- What inner functions ask for; it is no part of what request (d) means.
use Rattle.std.specs.Prelude.{ℕ, ◌≤◌, ◌<◌}
use Rattle.heating.specs.Limits.{lowest_density, highest_density, DensityInRange}
use Rattle.laboratory.specs.declared.Report.{Report}
use Rattle.laboratory.specs.Nearest.{density_there}

-- r is the first field whose density there is not below the report, or the last where there is none
pub record NotBelow (p : Report) (r : ℕ) : Type 0 where
  pub field : DensityInRange r
  pub before : (s : ℕ) → lowest_density ≤ s → s < r → density_there p s < p.density
  pub reached : r < highest_density → p.density ≤ density_there p r
