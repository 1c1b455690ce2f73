-- How the figures that are shown hang together, said without the search for the rows: the limit and whether it is within, from V0 and the gross
-- mass as shown; and that nothing is cut off at 0 where rows are subtracted.
use Rattle.std.specs.Prelude.{ℕ, ◌+◌, ◌≤◌, ◌<◌, ◌≡◌, List, ◌∷◌, ◌++◌, get_or}
use Rattle.base.specs.Limits.{in_tenths}
use Rattle.base.specs.Numbers.{one_if}
use Rattle.base.specs.Answer.{Answer, figures, refusal}
use Rattle.table.specs.Table.{Row, Table}
use Rattle.gauging.specs.Capacity.{Gap}
use Rattle.heating.specs.Steps.{expansion}
use Rattle.car.specs.Measured.{rows}
use Rattle.car.specs.Car.{Intake, measured_of}
use Rattle.accuracy.specs.declared.Errors.{Errors}
use Rattle.accuracy.specs.Terms.{level_step, capacity_step, level_term, terms, sum_of_squares}
use Rattle.accuracy.specs.Limit.{IsLimit, within}

-- two rows that follow one another, the lower below the level and the higher not: on a row, the lower pair
pub record Around (rows : List Row) (level : ℕ) (g : Gap) : Type 0 where
  pub before : List Row
  pub after : List Row
  pub neighbours : rows ≡ before ++ (g.low ∷ g.high ∷ after)
  pub passed : in_tenths g.low.level < level
  pub reached : level ≤ in_tenths g.high.level

-- of the figures of a car with these errors: V0 stands third, gross fifth, the limit seventh, whether it is within eighth
pub record FiguresRight (ts : List Table) (c : Intake) (e : Errors) (values : List ℕ) : Type 0 where
  pub gap : Gap
  pub around : Around (rows ts (measured_of c)) (measured_of c).level gap
  pub limit : IsLimit (sum_of_squares (terms e (level_term e.level gap (get_or values 2 0)) (expansion (measured_of c).density.0) (measured_of c).temperature)) (get_or values 6 0)
  pub within : get_or values 7 0 ≡ one_if (within (get_or values 6 0) (get_or values 4 0))
  -- a difference that was cut off does not add up again
  pub levels : gap.low.level + level_step gap ≡ gap.high.level
  pub capacities : gap.low.capacity + capacity_step gap ≡ gap.high.capacity

-- of an answer, where it shows figures
abbrev pub ShownRight : List Table → Intake → Errors → Answer → Type 0
ShownRight ts c e (figures values) = FiguresRight ts c e values
ShownRight ts c e (refusal n) = Unit {0}
