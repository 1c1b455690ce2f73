-- What is measured of a car, on its tables: refusals 12, 13 and 16 to 21 of document 01 in the listed order, and steps 2 to 8.
use Rattle.std.specs.Prelude.{ℕ, List, [], ◌∷◌, ◌++◌}
use Rattle.base.specs.Answer.{Test}
use Rattle.table.specs.Table.{Row, Table, rows_of}
use Rattle.gauging.specs.Capacity.{kind_tests, level_tests}
use Rattle.gauging.specs.Capacity as capacity
use Rattle.grading.specs.Grades.{code_tests, oil_tests}
use Rattle.kilograms.specs.Steps.{stick_coefficient, volume15_of, gross_of, net_of}
use Rattle.car.specs.declared.Measured.{Measured}

-- the rows of its type
abbrev pub rows : List Table → Measured → List Row
rows ts m = rows_of m.kind ts

-- The refusals, on tables that are not refused. Those of the readings, where there are any, stand between.

-- 12 and 13
abbrev pub early_tests : List Table → Measured → List Test
early_tests ts m = kind_tests ts m.kind ++ code_tests m.grade m.stick

-- 16 to 21
abbrev pub late_tests : List Table → Measured → List Test
late_tests ts m =
    level_tests (rows ts m) m.level m.water_level
    ++ oil_tests m.grade m.temperature m.density.0 m.water m.impurities

unfoldable pub measured_tests : List Table → List Test → Measured → List Test
measured_tests ts readings m = early_tests ts m ++ (readings ++ late_tests ts m)

-- The figures: the mean level in tenths of a mm, V0 and V15 in 0.01 dm³, gross and net in kg.

unfoldable pub v0 : List Table → Measured → ℕ
v0 ts m = capacity.v0 (rows ts m) m.level m.water_level

-- of a volume v at the table, which is V0
abbrev pub v15_from : Measured → ℕ → ℕ
v15_from m v = volume15_of v (stick_coefficient m.stick) m.temperature m.density.0

abbrev pub gross_from : Measured → ℕ → ℕ
gross_from m v = gross_of v (stick_coefficient m.stick) m.temperature m.density.0

abbrev pub net_from : Measured → ℕ → ℕ
net_from m v = net_of v (stick_coefficient m.stick) m.temperature m.density.0 m.water m.impurities

-- the two masses that are shown of a car
pub data Mass : Type 0 where
  gross net : Mass

unfoldable pub mass : Mass → List Table → Measured → ℕ
mass gross ts m = gross_from m (v0 ts m)
mass net ts m = net_from m (v0 ts m)

-- the six figures of a car of this number, in the order of an A line
abbrev pub figures_from : ℕ → Measured → ℕ → List ℕ
figures_from number m v = number ∷ m.level ∷ v ∷ v15_from m v ∷ gross_from m v ∷ net_from m v ∷ []

unfoldable pub six_figures : List Table → ℕ → Measured → List ℕ
six_figures ts number m = figures_from number m (v0 ts m)
