-- `reducing::Beside::first_not_below` meets its contract. The invariant: below `low` every density there is below the report, at `high` it is not,
-- unless `high` is the last field.
use Prim.Native.Nat.{ℕ, ◌-◌, ◌≤◌, ◌<◌}
use Rattle.heating.specs.Limits.{lowest_density, highest_density}
use Rattle.laboratory.specs.Nearest.{density_there}
use Rattle.reducing.proofs.Beside.first_not_below.Given as goal

abbrev pub invariant-loop-low : goal.invariant-loop-low
invariant-loop-low l =
    (lowest_density ≤ l.low)
    × (l.low ≤ l.high)
    × (l.high ≤ highest_density)
    × ((s : ℕ) → lowest_density ≤ s → s < l.low → density_there l.self.report s < l.self.report.density)
    × (l.high < highest_density → l.self.report.density ≤ density_there l.self.report l.high)

abbrev pub decreases-loop-low : goal.decreases-loop-low
decreases-loop-low l = l.high - l.low
