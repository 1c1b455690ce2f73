-- What inner functions ask for; it is no part of what a capacity or a volume means.
use Rattle.std.specs.Prelude.{ℕ, ◌+◌, ◌≤◌, ◌<◌, ◌≡◌, false, List, [], ◌∷◌, get_or, Result, Ok}
use Rattle.base.specs.Limits.{tenths, in_tenths}
use Rattle.base.specs.Answer.{Answer, first, answer}
use Rattle.base.specs.Refusal.{told}
use Rattle.base.specs.declared.refusal.Refusal.{Refusal}
use Rattle.table.specs.Table.{Table, row_of, rows_of, later_row_bad}
use Rattle.gauging.specs.Capacity.{Gap, rows_around, reach_tests}
use Rattle.gauging.specs.declared.Neighbours.{Neighbours}

-- the least whole mm that reaches a level: the level is at most `inTenths h` exactly where mm is at most h
pub record Reaches (level mm : ℕ) : Type 0 where
  pub enough : level ≤ in_tenths mm
  pub least : in_tenths mm < level + tenths

-- a row from `low` to `last` that is `low` or does not reach `reach` mm
pub record RowBelow (levels : List ℕ) (low last reach r : ℕ) : Type 0 where
  pub from : low ≤ r
  pub to : r ≤ last
  pub below : low < r → get_or levels r 0 < reach

-- row i and the next
abbrev pub gap_at : List ℕ → List ℕ → ℕ → Gap
gap_at levels capacities i =
    record { low = row_of (get_or levels i 0) (get_or capacities i 0); high = row_of (get_or levels (i + 1) 0) (get_or capacities (i + 1) 0) }

-- two neighbouring rows as the code hands them on
abbrev pub gap_of : Neighbours → Gap
gap_of n = record { low = row_of n.low_level n.low_capacity; high = row_of n.high_level n.high_capacity }

-- two rows as they follow one another in a table that is not refused, and a level from the lower to the higher
pub record Between (g : Gap) (level : ℕ) : Type 0 where
  pub follows : later_row_bad g.low g.high ≡ false
  pub passed : in_tenths g.low.level ≤ level
  pub reached : level ≤ in_tenths g.high.level

-- the rows around a level by their four numbers, on tables that are not refused
abbrev pub gap_numbers : Gap → List ℕ
gap_numbers g = g.low.level ∷ g.low.capacity ∷ g.high.level ∷ g.high.capacity ∷ []

abbrev pub around_answer : List Table → ℕ → ℕ → Answer
around_answer ts kind level = answer (first (reach_tests ts kind level)) (gap_numbers (rows_around (rows_of kind ts) level))

-- what a result of the code says of them
abbrev pub around_told : Result Neighbours Refusal → Answer
around_told = told (λ n. gap_numbers (gap_of n))

-- what the search for them hands back
pub record RowsFound (ts : List Table) (kind level : ℕ) (r : Result Neighbours Refusal) : Type 0 where
  pub told : around_told r ≡ around_answer ts kind level
  pub between : (n : Neighbours) → r ≡ Ok n → Between (gap_of n) level
