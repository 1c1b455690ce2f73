-- The capacity at a level, and the volume of oil between two levels: step 2 of document 01, with refusals 12, 16 and 17.
-- A row and a water level are in mm; every other level is in tenths of a mm, of which `in_tenths` gives those of a level in mm.
use Rattle.std.specs.Prelude.{ℕ, ◌+◌, ◌-◌, ◌*◌, Bool, cond, ◌||◌, List, [], ◌∷◌, ◌++◌, ltb, leb, eqb}
use Rattle.base.specs.Limits.{in_tenths}
use Rattle.base.specs.Rounding.{rounded}
use Rattle.base.specs.Answer.{Test, refuse_if, first, Answer, answer}
use Rattle.table.specs.Table.{Row, row_of, Table, unknown, rows_of, last_level, tables_tests}

-- two rows, one above the other
pub record Gap : Type 0 where
  pub low : Row
  pub high : Row

-- of the rows after `low`, the first that reaches the level, with the row before it; the last row twice where none does
abbrev pub gap_after : Row → List Row → ℕ → Gap
gap_after low [] level = record { low = low; high = low }
gap_after low (high ∷ rows) level =
    cond (leb level (in_tenths high.level)) (record { low = low; high = high }) (gap_after high rows level)

-- the rows around a level: the first that reaches it, and the one below; two rows of 0 where there are none
abbrev pub rows_around : List Row → ℕ → Gap
rows_around [] level = record { low = row_of 0 0; high = row_of 0 0 }
rows_around (row ∷ rows) level = gap_after row rows level

-- R of 100 times the capacity at a level, linear between two rows, in 0.01 dm³
unfoldable pub interpolated : Gap → ℕ → ℕ
interpolated g level =
    let low = in_tenths g.low.level in
    let span = in_tenths g.high.level - low in
    rounded (100 * (g.low.capacity * span + (g.high.capacity - g.low.capacity) * (level - low))) span

-- R of 100 times the capacity at a level
unfoldable pub capacity_at : List Row → ℕ → ℕ
capacity_at rows level = interpolated (rows_around rows level) level

-- V0: from the water level to the mean level, each capacity rounded by itself
unfoldable pub v0 : List Row → ℕ → ℕ → ℕ
v0 rows mean water = capacity_at rows mean - capacity_at rows (in_tenths water)

-- a level above the table's last level
abbrev pub above : List Row → ℕ → Bool
above rows level = ltb (in_tenths (last_level rows)) level

-- 16: the mean level is 0 or above the table's last level
abbrev pub level_bad : List Row → ℕ → Bool
level_bad rows mean = eqb mean 0 || above rows mean

-- 17: the water level is not below the mean level
abbrev pub water_bad : ℕ → ℕ → Bool
water_bad mean water = leb mean (in_tenths water)

-- the tests of a type, and of a mean level and a water level on the rows of that type
abbrev pub kind_tests : List Table → ℕ → List Test
kind_tests ts kind = refuse_if 12 (unknown kind ts) ∷ []

abbrev pub level_tests : List Row → ℕ → ℕ → List Test
level_tests rows mean water = refuse_if 16 (level_bad rows mean) ∷ refuse_if 17 (water_bad mean water) ∷ []

-- both, on tables that are not refused
abbrev pub volume_tests : List Table → ℕ → ℕ → ℕ → List Test
volume_tests ts kind mean water = kind_tests ts kind ++ level_tests (rows_of kind ts) mean water

-- one level, which may be 0, on tables that are not refused
abbrev pub reach_tests : List Table → ℕ → ℕ → List Test
reach_tests ts kind level = kind_tests ts kind ++ (refuse_if 16 (above (rows_of kind ts) level) ∷ [])

-- the capacity at such a level
abbrev pub capacity_answer : List Table → ℕ → ℕ → Answer
capacity_answer ts kind level = answer (first (reach_tests ts kind level)) (capacity_at (rows_of kind ts) level ∷ [])

-- V0 on tables that are not refused
unfoldable pub volume_on : List Table → ℕ → ℕ → ℕ → Answer
volume_on ts kind mean water = answer (first (volume_tests ts kind mean water)) (v0 (rows_of kind ts) mean water ∷ [])

-- V0 on any tables: 7 and 8 before the others
unfoldable pub volume_answer : List Table → ℕ → ℕ → ℕ → Answer
volume_answer ts kind mean water =
    answer (first (tables_tests ts ++ volume_tests ts kind mean water)) (v0 (rows_of kind ts) mean water ∷ [])
