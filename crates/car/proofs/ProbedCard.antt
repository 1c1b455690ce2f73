-- The figures of the card of a probe's car, computed from the definitions.
use mathlib.Core.Path.{refl}
use lib.Ieee.{of_bits}
use Rattle.base.specs.Rounding.{rounded}
use Rattle.probe_spec.specs.Tenths.{no_number, tenths_of, set_tests}
use Rattle.gauging.specs.Capacity.{interpolated, capacity_at}
use Rattle.gauging.specs.Capacity as capacity
use Rattle.heating.specs.Steps as thermal
use Rattle.kilograms.specs.Steps as steps
use Rattle.car.specs.Measured.{measured_tests, v0, six_figures}
use Rattle.car.specs.Car.{car_tests, alone_tests, alone_answer}
use Rattle.car.specs.ProbedCard.{probed_card, ProbedRight}

pub probed_right : ProbedRight
unfolding probed_card of_bits no_number tenths_of set_tests rounded interpolated capacity_at capacity.v0 thermal.expansion thermal.exponent thermal.term thermal.series thermal.factor thermal.density_at steps.stick_coefficient steps.hot_volume steps.cold_volume steps.gross steps.net steps.volume15_of steps.gross_of steps.net_of measured_tests car_tests alone_tests alone_answer v0 six_figures
probed_right = record { each = (refl, (refl, (refl, (refl, (refl, (refl, (refl, (refl, (refl, (refl, (refl, (refl, (refl, (refl, (refl, (refl, (refl, (refl, (refl, (refl, (refl, (refl, (refl, (refl, (refl, (refl, (refl, (refl, (refl, (refl, (refl, (refl, (refl, (refl, (refl, (refl, (refl, (refl, (refl, (refl, (refl, (refl, (refl, (refl, (refl, (refl, (refl, (refl, (refl, (refl, (refl, (refl, tt)))))))))))))))))))))))))))))))))))))))))))))))))))) }
