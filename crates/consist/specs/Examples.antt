-- Examples of trains on the rack card's table: that demand 3 speaks of something.
use Rattle.std.specs.Prelude.{ℕ, zero, suc, ◌+◌, ◌≡◌, List, [], ◌∷◌, ◌++◌, replicate}
use Rattle.base.specs.Answer.{Verdict, accepts, refuses}
use Rattle.table.specs.Table.{Table}
use Rattle.car.specs.Car.{car_of, Intake, dipped, measured_of, alone_answer}
use Rattle.car.specs.Card.{card_tables}
use Rattle.summing.specs.declared.Totals.{Totals}
use Rattle.summing.specs.declared.Sums.{Sums}
use Rattle.summing.specs.Sums.{totals_from, no_totals}
use Rattle.consist.specs.Train.{empty_train}
use Rattle.consist.specs.Book.{Item, car, Entry, alone, loaded, load_of, book_from, verdicts_from}
use Rattle.consist.specs.Demand3.{train_from, Comparable}

-- the first car of document 01's sheet, with a number, a type and a temperature in 0.1 °C
abbrev pub example_car : ℕ → ℕ → ℕ → Intake
example_car number kind temperature =
    dipped (car_of (number ∷ kind ∷ 3 ∷ 1 ∷ 2 ∷ 1_500 ∷ 1_500 ∷ 0 ∷ 0 ∷ 0 ∷ temperature ∷ 9_500 ∷ 50 ∷ 20 ∷ []))

-- a table whose second row does not rise
abbrev pub bad_tables : List Table
bad_tables = record { kind = 1; rows = record { level = 0; capacity = 0 } ∷ record { level = 0; capacity = 5 } ∷ [] } ∷ []

-- of all cars, and of grades 1 to 4
abbrev pub sums_from : Totals → Totals → Totals → Totals → Totals → Sums
sums_from all a b c d = record { all = all; grades = a ∷ b ∷ c ∷ d ∷ [] }

-- 1. A list with an accepted car, a car refused late, a repeated number, the number 0, bad tables, cars that fill the train, and a sixty-first.

abbrev pub ordinary : ℕ → Item
ordinary number = car card_tables (example_car number 1 600)

abbrev pub too_cold : ℕ → Item
too_cold number = car card_tables (example_car number 1 399)

-- n cars too cold, with numbers from `from` on, and as many entries of their numbers alone
abbrev pub cold_from : ℕ → ℕ → List Item
cold_from from zero = []
cold_from from (suc n) = too_cold from ∷ cold_from (from + 1) n

abbrev pub numbers_from : ℕ → ℕ → List Entry
numbers_from from zero = []
numbers_from from (suc n) = alone from ∷ numbers_from (from + 1) n

unfoldable pub list : List Item
list = ordinary 1 ∷ too_cold 2 ∷ ordinary 1 ∷ ordinary 0 ∷ car bad_tables (example_car 3 1 600) ∷ (cold_from 101 58 ++ (ordinary 4 ∷ []))

-- its book, the verdicts and the train's sums, written out
unfoldable pub list_book : List Entry
list_book = loaded (load_of card_tables (example_car 1 1 600)) ∷ alone 2 ∷ numbers_from 101 58

unfoldable pub list_verdicts : List Verdict
list_verdicts = accepts ∷ refuses 18 ∷ refuses 11 ∷ refuses 10 ∷ refuses 8 ∷ (replicate 58 (refuses 18) ++ (refuses 9 ∷ []))

unfoldable pub list_sums : Sums
list_sums = sums_from (totals_from 1 32_229 32_003) no_totals no_totals (totals_from 1 32_229 32_003) no_totals

pub record BookExample : Type 0 where
  pub book : book_from [] list ≡ list_book
  pub verdicts : verdicts_from [] list ≡ list_verdicts
  pub sums : (train_from empty_train list).sums ≡ list_sums

-- cars of all grades at several levels, the last above the table's
abbrev pub grade_car : ℕ → ℕ → ℕ → Intake
grade_car number grade level = dipped (car_of (number ∷ 1 ∷ grade ∷ 1 ∷ 2 ∷ level ∷ level ∷ 0 ∷ 0 ∷ 0 ∷ 600 ∷ 9_500 ∷ 30 ∷ 10 ∷ []))

abbrev pub of_grade : ℕ → ℕ → ℕ → Item
of_grade number grade level = car card_tables (grade_car number grade level)

unfoldable pub mixed : List Item
mixed = of_grade 1 4 1_000 ∷ of_grade 2 1 1_500 ∷ of_grade 3 3 2_000 ∷ of_grade 4 4 1_200 ∷ of_grade 5 2 800 ∷ of_grade 6 1 3_001 ∷ []

-- the sums of the train that they make
pub record GradesExample : Type 0 where
  pub sums : (train_from empty_train mixed).sums
      ≡ sums_from (totals_from 5 135_361 134_819) (totals_from 1 32_229 32_100) (totals_from 1 14_733 14_674) (totals_from 1 46_041 45_857) (totals_from 2 42_358 42_188)

-- 2. Two cars that the filling order compares, of two and of four readings, at levels less than a millimetre apart, the second on another list of tables.

abbrev pub other_tables : List Table
other_tables = record { kind = 7; rows = record { level = 0; capacity = 0 } ∷ record { level = 9; capacity = 90 } ∷ [] } ∷ card_tables

abbrev pub four_readings : Intake
four_readings = dipped (car_of (7 ∷ 1 ∷ 3 ∷ 1 ∷ 4 ∷ 1_500 ∷ 1_502 ∷ 1_500 ∷ 1_501 ∷ 0 ∷ 600 ∷ 9_500 ∷ 50 ∷ 20 ∷ []))

pub record OrderExample : Type 0 where
  pub comparable : Comparable card_tables other_tables (measured_of (example_car 1 1 600)) (measured_of four_readings)
      (alone_answer card_tables (example_car 1 1 600)) (alone_answer other_tables four_readings)
  pub lower : (measured_of (example_car 1 1 600)).level ≡ 15_000
  pub higher : (measured_of four_readings).level ≡ 15_003
