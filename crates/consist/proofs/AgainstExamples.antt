-- The examples, computed from the definitions.
use mathlib.Core.Path.{◌≡◌, refl}
use mathlib.Core.List.{[]}
use Rattle.base.specs.Rounding.{rounded}
use Rattle.base.specs.Total.{total}
use Rattle.dip.specs.Level.{mean_level}
use Rattle.gauging.specs.Capacity.{interpolated, capacity_at}
use Rattle.gauging.specs.Capacity as capacity
use Rattle.heating.specs.Steps as thermal
use Rattle.kilograms.specs.Steps as steps
use Rattle.car.specs.Measured.{measured_tests, v0, mass, six_figures}
use Rattle.car.specs.Car.{car_tests, alone_tests, alone_answer}
use Rattle.summing.specs.Sums.{totals_of, sums_of}
use Rattle.consist.specs.Train.{empty_train, unsound, full, admission_tests, enter_tests, enter_answer, enter_train, strike_tests, strike_answer, strike_train}
use Rattle.consist.specs.Book.{book_admission, book_strike, book_from, verdicts_from}
use Rattle.consist.specs.Demand3.{answers_from, train_from, standing}
use Rattle.consist.specs.Examples.{list, list_book, list_verdicts, list_sums, BookExample, mixed, GradesExample, OrderExample}
use Rattle.consist.specs.StrikeExamples.{shunted, shunted_answers, shunted_book, shunted_standing, shunted_train, crowded, crowded_answers, crowded_book, crowded_train, StrikesExample}
use Rattle.consist.specs.HandedInExamples.{unsound_trains, entered_cars, EnterOrder, StrikeOrder}

-- One figure to a declaration: where one fails, the others are not computed again.

list_book_lem : book_from [] list ≡ list_book
unfolding list list_book book_admission car_tests measured_tests rounded mean_level interpolated capacity_at capacity.v0 thermal.expansion thermal.exponent thermal.term thermal.series thermal.factor thermal.density_at
list_book_lem = refl

list_verdicts_lem : verdicts_from [] list ≡ list_verdicts
unfolding list list_verdicts book_admission car_tests measured_tests rounded mean_level interpolated capacity_at capacity.v0 thermal.expansion thermal.exponent thermal.term thermal.series thermal.factor thermal.density_at
list_verdicts_lem = refl

list_sums_lem : (train_from empty_train list).sums ≡ list_sums
unfolding list list_sums total totals_of sums_of unsound full admission_tests enter_train car_tests measured_tests rounded mean_level interpolated capacity_at capacity.v0 thermal.expansion thermal.exponent thermal.term thermal.series thermal.factor thermal.density_at steps.stick_coefficient steps.hot_volume steps.cold_volume steps.gross steps.net steps.volume15_of steps.gross_of steps.net_of v0 mass
list_sums_lem = refl

pub book_example : BookExample
book_example = record { book = list_book_lem; verdicts = list_verdicts_lem; sums = list_sums_lem }

pub grades_example : GradesExample
unfolding total totals_of sums_of mixed unsound full admission_tests enter_train car_tests measured_tests rounded mean_level interpolated capacity_at capacity.v0 thermal.expansion thermal.exponent thermal.term thermal.series thermal.factor thermal.density_at steps.stick_coefficient steps.hot_volume steps.cold_volume steps.gross steps.net steps.volume15_of steps.gross_of steps.net_of v0 mass
grades_example = record { sums = refl }

pub order_example : OrderExample
unfolding alone_answer alone_tests car_tests measured_tests rounded mean_level interpolated capacity_at thermal.expansion thermal.exponent thermal.term thermal.series thermal.factor thermal.density_at
order_example = record {
  comparable = record {
    first = refl;
    second = refl;
    table = record { kind = refl; rows = refl };
    alike = record { grade = refl; stick = refl; water_level = refl; temperature = refl; density = refl; water = refl; impurities = refl };
  };
  lower = refl;
  higher = refl;
}

shunted_book_lem : book_from [] shunted ≡ shunted_book
unfolding shunted shunted_book book_strike book_admission car_tests measured_tests rounded mean_level interpolated capacity_at capacity.v0 thermal.expansion thermal.exponent thermal.term thermal.series thermal.factor thermal.density_at
shunted_book_lem = refl

shunted_answers_lem : answers_from empty_train shunted ≡ shunted_answers
unfolding shunted shunted_answers strike_answer enter_tests enter_answer total totals_of sums_of strike_tests strike_train unsound full admission_tests enter_train car_tests measured_tests rounded mean_level interpolated capacity_at capacity.v0 thermal.expansion thermal.exponent thermal.term thermal.series thermal.factor thermal.density_at steps.stick_coefficient steps.hot_volume steps.cold_volume steps.gross steps.net steps.volume15_of steps.gross_of steps.net_of v0 mass six_figures
shunted_answers_lem = refl

shunted_history : standing shunted shunted_answers ≡ shunted_standing
unfolding shunted shunted_answers shunted_standing
shunted_history = refl

shunted_train_lem : train_from empty_train shunted ≡ shunted_train
unfolding shunted shunted_train total totals_of sums_of strike_tests strike_train unsound full admission_tests enter_train car_tests measured_tests rounded mean_level interpolated capacity_at capacity.v0 thermal.expansion thermal.exponent thermal.term thermal.series thermal.factor thermal.density_at steps.stick_coefficient steps.hot_volume steps.cold_volume steps.gross steps.net steps.volume15_of steps.gross_of steps.net_of v0 mass
shunted_train_lem = refl

crowded_book_lem : book_from [] crowded ≡ crowded_book
unfolding crowded crowded_book book_strike book_admission car_tests measured_tests rounded mean_level interpolated capacity_at capacity.v0 thermal.expansion thermal.exponent thermal.term thermal.series thermal.factor thermal.density_at
crowded_book_lem = refl

crowded_answers_lem : answers_from empty_train crowded ≡ crowded_answers
unfolding crowded crowded_answers strike_answer enter_tests enter_answer total totals_of sums_of strike_tests strike_train unsound full admission_tests enter_train car_tests measured_tests rounded mean_level interpolated capacity_at capacity.v0 thermal.expansion thermal.exponent thermal.term thermal.series thermal.factor thermal.density_at steps.stick_coefficient steps.hot_volume steps.cold_volume steps.gross steps.net steps.volume15_of steps.gross_of steps.net_of v0 mass six_figures
crowded_answers_lem = refl

crowded_train_lem : train_from empty_train crowded ≡ crowded_train
unfolding crowded crowded_train total totals_of sums_of strike_tests strike_train unsound full admission_tests enter_train car_tests measured_tests rounded mean_level interpolated capacity_at capacity.v0 thermal.expansion thermal.exponent thermal.term thermal.series thermal.factor thermal.density_at steps.stick_coefficient steps.hot_volume steps.cold_volume steps.gross steps.net steps.volume15_of steps.gross_of steps.net_of v0 mass
crowded_train_lem = refl

pub strikes_example : StrikesExample
strikes_example = record {
  book = shunted_book_lem;
  answers = shunted_answers_lem;
  history = shunted_history;
  train = shunted_train_lem;
  crowded_book_lem = crowded_book_lem;
  crowded_answers_lem = crowded_answers_lem;
  crowded_train_lem = crowded_train_lem;
}

pub enter_order : EnterOrder
unfolding total totals_of sums_of entered_cars unsound_trains unsound full admission_tests enter_tests enter_answer enter_train car_tests measured_tests
enter_order = record {
  each = (refl, (refl, (refl, (refl, (refl, (refl, (refl, (refl, tt))))))));
  nine = ((refl, refl), ((refl, refl), ((refl, refl), ((refl, refl), ((refl, refl), ((refl, refl), ((refl, refl), ((refl, refl), ((refl, refl), ((refl, refl), ((refl, refl), ((refl, refl), ((refl, refl), ((refl, refl), ((refl, refl), ((refl, refl), tt))))))))))))))));
}

pub strike_order : StrikeOrder
unfolding total totals_of sums_of unsound_trains unsound strike_tests strike_answer strike_train
strike_order = record {
  nine = ((refl, refl), ((refl, refl), ((refl, refl), ((refl, refl), ((refl, refl), ((refl, refl), ((refl, refl), ((refl, refl), ((refl, refl), ((refl, refl), ((refl, refl), ((refl, refl), ((refl, refl), ((refl, refl), ((refl, refl), ((refl, refl), tt))))))))))))))));
  thirty = ((refl, refl), ((refl, refl), ((refl, refl), tt)));
  empty = refl;
  full = refl;
  most = refl;
  none = refl;
  long = refl;
  accepted = refl;
  refused = refl;
  past = refl;
}
