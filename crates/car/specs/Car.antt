-- A car, dipped or read by a probe: refusals 10 and 12 to 21 of document 01, with 23 between 15 and 16, and 31 and 32 before all, in one list, and its
-- answer.
use Rattle.std.specs.Prelude.{ℕ, List, [], ◌∷◌, ◌++◌, get_or, Result}
use Rattle.base.specs.Limits.{largest}
use Rattle.base.specs.Answer.{Test, refuse_if, first, Answer, answer}
use Rattle.base.specs.Refusal.{told}
use Rattle.base.specs.declared.refusal.Refusal.{Refusal}
use Rattle.base.specs.Numbers.{outside}
use Rattle.dip.specs.Level.{mean_level, readings_tests}
use Rattle.probe_spec.specs.declared.ProbeSet.{ProbeSet}
use Rattle.probe_spec.specs.Tenths.{tenths_of, set_tests}
use Rattle.table.specs.Table.{Table, tables_tests}
use Rattle.car.specs.declared.Car.{Car}
use Rattle.car.specs.declared.ProbeCar.{ProbeCar}
use Rattle.car.specs.declared.Measured.{Measured}
use Rattle.car.specs.declared.Figures.{Figures}
use Rattle.car.specs.Measured.{measured_tests, six_figures}

-- a car by the fourteen numbers of its C line
abbrev pub car_of : List ℕ → Car
car_of ns = record {
  number = get_or ns 0 0;
  kind = get_or ns 1 0;
  grade = get_or ns 2 0;
  stick = get_or ns 3 0;
  count = get_or ns 4 0;
  readings = get_or ns 5 0 ∷ get_or ns 6 0 ∷ get_or ns 7 0 ∷ get_or ns 8 0 ∷ [];
  water_level = get_or ns 9 0;
  temperature = get_or ns 10 0;
  density = record { 0 = get_or ns 11 0 };
  water = get_or ns 12 0;
  impurities = get_or ns 13 0;
}

-- a probe's car by its seven numbers, car number, type, grade, stick, water level, water and impurities, and its set
abbrev pub probe_car_of : List ℕ → ProbeSet → ProbeCar
probe_car_of ns s = record {
  number = get_or ns 0 0;
  kind = get_or ns 1 0;
  grade = get_or ns 2 0;
  stick = get_or ns 3 0;
  water_level = get_or ns 4 0;
  water = get_or ns 5 0;
  impurities = get_or ns 6 0;
  set = s;
}

-- 10: the car number is outside 1 to 99,999,999
abbrev pub number_tests : ℕ → List Test
number_tests number = refuse_if 10 (outside 1 largest number) ∷ []

-- what is measured of the car: step 1 gives the mean level
abbrev pub measured : Car → Measured
measured c = record {
  kind = c.kind;
  grade = c.grade;
  stick = c.stick;
  level = mean_level c.readings;
  water_level = c.water_level;
  temperature = c.temperature;
  density = c.density;
  water = c.water;
  impurities = c.impurities;
}

-- what is measured of a probe's car: the level of its set, in tenths, stands for the mean level
abbrev pub probed_measured : ProbeCar → Measured
probed_measured c = record {
  kind = c.kind;
  grade = c.grade;
  stick = c.stick;
  level = tenths_of c.set.level;
  water_level = c.water_level;
  temperature = tenths_of c.set.temperature;
  density = record { 0 = tenths_of c.set.density };
  water = c.water;
  impurities = c.impurities;
}

-- What is handed in of a car, as its answers go by it: its number, tests that stand before all others, those of its readings, and what is measured of it.

-- a car with readings, or one that a probe read
pub data Intake : Type 0 where
  dipped : Car → Intake
  probed : ProbeCar → Intake

abbrev pub intake_number : Intake → ℕ
intake_number (dipped c) = c.number
intake_number (probed c) = c.number

-- before all others: 31 and 32 of a probe's set
abbrev pub before_tests : Intake → List Test
before_tests (dipped c) = []
before_tests (probed c) = set_tests c.set

-- 14, 15 and 23: a probe's car has no readings
abbrev pub dip_tests : Intake → List Test
dip_tests (dipped c) = readings_tests c.count c.readings
dip_tests (probed c) = []

abbrev pub measured_of : Intake → Measured
measured_of (dipped c) = measured c
measured_of (probed c) = probed_measured c

-- 12 to 21, on tables that are not refused
unfoldable pub car_tests : List Table → Intake → List Test
car_tests ts h = measured_tests ts (dip_tests h) (measured_of h)

-- the six figures
abbrev pub figures_of : List Table → Intake → List ℕ
figures_of ts h = six_figures ts (intake_number h) (measured_of h)

-- the answer on tables that are not refused, to a car whose number is in range and new
unfoldable pub own_answer : List Table → Intake → Answer
own_answer ts h = answer (first (car_tests ts h)) (figures_of ts h)

-- a car alone: its tables, its number, its own tests; no earlier cars, so never 11
unfoldable pub alone_tests : List Table → Intake → List Test
alone_tests ts h = before_tests h ++ (tables_tests ts ++ (number_tests (intake_number h) ++ car_tests ts h))

unfoldable pub alone_answer : List Table → Intake → Answer
alone_answer ts h = answer (first (alone_tests ts h)) (figures_of ts h)

-- what the code's answer says
abbrev pub car_told : Result Figures Refusal → Answer
car_told = told (λ f. f.number ∷ f.level ∷ f.v0 ∷ f.v15 ∷ f.gross ∷ f.net ∷ [])
