-- The rack card of the permitted error, computed from the definitions.
use mathlib.Core.Path.{refl}
use Rattle.base.specs.Rounding.{rounded}
use Rattle.base.specs.Total.{total}
use Rattle.dip.specs.Level.{mean_level}
use Rattle.gauging.specs.Capacity.{interpolated, capacity_at}
use Rattle.gauging.specs.Capacity as capacity
use Rattle.heating.specs.Steps as thermal
use Rattle.kilograms.specs.Steps as steps
use Rattle.car.specs.Measured.{measured_tests, v0, mass, six_figures}
use Rattle.car.specs.Car.{car_tests, alone_tests}
use Rattle.accuracy.specs.Terms.{level_term, temperature_term, density_factor, times_factor, terms}
use Rattle.accuracy.specs.Permitted.{level_term_of, terms_of, permitted_tests}
use Rattle.accuracy.specs.Card.{terms_card, within_card, card, PermittedRight}
use Rattle.accuracy.proofs.Answers.{by_test, turned_away_lem}

pub permitted_right : PermittedRight
unfolding terms_card within_card card rounded total mean_level interpolated capacity_at capacity.v0 thermal.expansion thermal.exponent thermal.term thermal.series thermal.factor thermal.density_at steps.stick_coefficient steps.hot_volume steps.cold_volume steps.gross steps.net steps.volume15_of steps.gross_of steps.net_of measured_tests car_tests alone_tests v0 mass six_figures level_term temperature_term density_factor times_factor terms level_term_of terms_of permitted_tests
permitted_right = record {
  terms = (refl, (refl, (refl, (refl, (refl, (refl, (refl, (refl, (refl, (refl, (refl, (refl, tt))))))))))));
  within = (refl, (refl, (refl, (refl, (refl, (refl, (refl, tt)))))));
  each = (by_test 6_511 refl refl refl, (by_test 6_729 refl refl refl, (by_test 7_672 refl refl refl, (by_test 7_669 refl refl refl, (by_test 3_163 refl refl refl, (by_test 5_877 refl refl refl, (by_test 0 refl refl refl, (by_test 2 refl refl refl, (by_test 11 refl refl refl, (by_test 6_500 refl refl refl, (by_test 6_501 refl refl refl, (by_test 6_500 refl refl refl, (by_test 5_001 refl refl refl, (by_test 5_000 refl refl refl, (by_test 19_803 refl refl refl, (turned_away_lem refl, (turned_away_lem refl, (turned_away_lem refl, (turned_away_lem refl, (turned_away_lem refl, (turned_away_lem refl, (by_test 11_000 refl refl refl, (turned_away_lem refl, (turned_away_lem refl, (by_test 11_000 refl refl refl, (turned_away_lem refl, (turned_away_lem refl, (turned_away_lem refl, (turned_away_lem refl, (by_test 0 refl refl refl, (turned_away_lem refl, (turned_away_lem refl, (turned_away_lem refl, (turned_away_lem refl, (turned_away_lem refl, (turned_away_lem refl, (turned_away_lem refl, (turned_away_lem refl, tt))))))))))))))))))))))))))))))))))))));
}
