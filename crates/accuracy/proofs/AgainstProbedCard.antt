-- The rack card of the permitted error of a probe's car, computed from the definitions.
use mathlib.Core.Path.{refl}
use lib.Ieee.{of_bits}
use Rattle.base.specs.Rounding.{rounded}
use Rattle.base.specs.Total.{total}
use Rattle.probe_spec.specs.Tenths.{no_number, tenths_of, set_tests}
use Rattle.gauging.specs.Capacity.{interpolated, capacity_at}
use Rattle.gauging.specs.Capacity as capacity
use Rattle.heating.specs.Steps as thermal
use Rattle.kilograms.specs.Steps as steps
use Rattle.car.specs.Measured.{measured_tests, v0, mass, six_figures}
use Rattle.car.specs.Car.{car_tests, alone_tests}
use Rattle.accuracy.specs.Terms.{level_term, temperature_term, density_factor, times_factor, terms}
use Rattle.accuracy.specs.Permitted.{level_term_of, terms_of, permitted_tests}
use Rattle.accuracy.specs.ProbedCard.{probed_card, ProbedPermittedRight}
use Rattle.accuracy.proofs.Answers.{by_test, turned_away_lem}

pub probed_permitted_right : ProbedPermittedRight
unfolding probed_card of_bits no_number tenths_of set_tests rounded total interpolated capacity_at capacity.v0 thermal.expansion thermal.exponent thermal.term thermal.series thermal.factor thermal.density_at steps.stick_coefficient steps.hot_volume steps.cold_volume steps.gross steps.net steps.volume15_of steps.gross_of steps.net_of measured_tests car_tests alone_tests v0 mass six_figures level_term temperature_term density_factor times_factor terms level_term_of terms_of permitted_tests
probed_permitted_right = record {
  each = (by_test 6_511 refl refl refl, (by_test 6_511 refl refl refl, (by_test 6_729 refl refl refl, (by_test 7_674 refl refl refl, (by_test 0 refl refl refl, (turned_away_lem refl, (turned_away_lem refl, (turned_away_lem refl, (turned_away_lem refl, (turned_away_lem refl, (turned_away_lem refl, (turned_away_lem refl, (turned_away_lem refl, (turned_away_lem refl, tt))))))))))))));
}
