-- The examples of cars that a probe read, computed from the definitions; one figure to a declaration, as in AgainstExamples.
use mathlib.Core.Path.{◌≡◌, refl}
use mathlib.Core.List.{[]}
use lib.Ieee.{of_bits}
use Rattle.base.specs.Rounding.{rounded}
use Rattle.base.specs.Total.{total}
use Rattle.dip.specs.Level.{mean_level}
use Rattle.probe_spec.specs.Tenths.{no_number, tenths_of, set_tests}
use Rattle.gauging.specs.Capacity.{interpolated, capacity_at}
use Rattle.gauging.specs.Capacity as capacity
use Rattle.heating.specs.Steps as thermal
use Rattle.kilograms.specs.Steps as steps
use Rattle.car.specs.Measured.{measured_tests, v0, mass, six_figures}
use Rattle.car.specs.Car.{car_tests, alone_tests, alone_answer}
use Rattle.summing.specs.Sums.{totals_of, sums_of}
use Rattle.consist.specs.Train.{empty_train, unsound, full, admission_tests, enter_tests, enter_answer, enter_train, strike_tests, strike_answer, strike_train}
use Rattle.consist.specs.Book.{book_admission, book_strike, book_from}
use Rattle.consist.specs.Demand3.{answers_from, train_from, standing}
use Rattle.consist.specs.HandedInExamples.{unsound_trains}
use Rattle.consist.specs.ProbeExamples.{probes, probes_answers, probes_book, probes_standing, probes_train, ProbesExample, turned_away, ProbeOrder, ProbeBeside}

probes_book_lem : book_from [] probes ≡ probes_book
unfolding probes probes_book book_strike book_admission of_bits no_number tenths_of set_tests car_tests measured_tests rounded mean_level interpolated capacity_at capacity.v0 thermal.expansion thermal.exponent thermal.term thermal.series thermal.factor thermal.density_at
probes_book_lem = refl

probes_answers_lem : answers_from empty_train probes ≡ probes_answers
unfolding probes probes_answers strike_answer enter_tests enter_answer total totals_of sums_of strike_tests strike_train unsound full admission_tests enter_train of_bits no_number tenths_of set_tests car_tests measured_tests rounded mean_level interpolated capacity_at capacity.v0 thermal.expansion thermal.exponent thermal.term thermal.series thermal.factor thermal.density_at steps.stick_coefficient steps.hot_volume steps.cold_volume steps.gross steps.net steps.volume15_of steps.gross_of steps.net_of v0 mass six_figures
probes_answers_lem = refl

probes_history : standing probes probes_answers ≡ probes_standing
unfolding probes probes_answers probes_standing
probes_history = refl

probes_train_lem : train_from empty_train probes ≡ probes_train
unfolding probes probes_train total totals_of sums_of strike_tests strike_train unsound full admission_tests enter_train of_bits no_number tenths_of set_tests car_tests measured_tests rounded mean_level interpolated capacity_at capacity.v0 thermal.expansion thermal.exponent thermal.term thermal.series thermal.factor thermal.density_at steps.stick_coefficient steps.hot_volume steps.cold_volume steps.gross steps.net steps.volume15_of steps.gross_of steps.net_of v0 mass
probes_train_lem = refl

pub probes_example : ProbesExample
probes_example = record { book = probes_book_lem; answers = probes_answers_lem; history = probes_history; train = probes_train_lem }

pub probe_order : ProbeOrder
unfolding total totals_of sums_of turned_away unsound_trains of_bits no_number tenths_of set_tests rounded unsound full admission_tests enter_tests enter_answer enter_train car_tests measured_tests
probe_order = record {
  each = ((refl, refl), ((refl, refl), ((refl, refl), ((refl, refl), ((refl, refl), ((refl, refl), ((refl, refl), ((refl, refl), ((refl, refl), ((refl, refl), tt))))))))));
  nine = ((refl, refl), ((refl, refl), ((refl, refl), ((refl, refl), ((refl, refl), ((refl, refl), ((refl, refl), ((refl, refl), ((refl, refl), ((refl, refl), ((refl, refl), ((refl, refl), ((refl, refl), ((refl, refl), ((refl, refl), ((refl, refl), tt))))))))))))))));
  thirty_one = ((refl, refl), ((refl, refl), ((refl, refl), ((refl, refl), ((refl, refl), ((refl, refl), ((refl, refl), ((refl, refl), ((refl, refl), ((refl, refl), ((refl, refl), ((refl, refl), ((refl, refl), ((refl, refl), ((refl, refl), ((refl, refl), tt))))))))))))))));
}

pub probe_beside : ProbeBeside
unfolding of_bits no_number tenths_of set_tests alone_answer alone_tests car_tests measured_tests rounded mean_level interpolated capacity_at thermal.expansion thermal.exponent thermal.term thermal.series thermal.factor thermal.density_at
probe_beside = record {
  comparable = record {
    first = refl;
    second = refl;
    table = record { kind = refl; rows = refl };
    alike = record { grade = refl; stick = refl; water_level = refl; temperature = refl; density = refl; water = refl; impurities = refl };
  };
  level_with = record {
    first = refl;
    second = refl;
    table = record { kind = refl; rows = refl };
    alike = record { grade = refl; stick = refl; water_level = refl; temperature = refl; density = refl; water = refl; impurities = refl };
  };
  lower = refl;
  higher = refl;
  same = refl;
}
