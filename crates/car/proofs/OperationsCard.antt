-- The figures of the card of single operations, computed from the definitions.
use mathlib.Core.Path.{refl}
use Rattle.base.specs.Rounding.{rounded}
use Rattle.dip.specs.Level.{mean_level, mean_level_answer}
use Rattle.dip.specs.Tape.{allowance_answer}
use Rattle.gauging.specs.Capacity.{interpolated, capacity_at, volume_answer}
use Rattle.gauging.specs.Capacity as capacity
use Rattle.heating.specs.Steps as thermal
use Rattle.car.specs.OperationsCard.{card, OperationsRight}

pub operations_right : OperationsRight
unfolding card rounded mean_level mean_level_answer allowance_answer interpolated capacity_at volume_answer capacity.v0 thermal.expansion thermal.exponent thermal.term thermal.series thermal.factor thermal.density_at
operations_right = record { each = (refl, (refl, (refl, (refl, (refl, (refl, (refl, (refl, (refl, (refl, (refl, (refl, (refl, (refl, (refl, (refl, (refl, (refl, (refl, (refl, (refl, (refl, (refl, (refl, (refl, (refl, (refl, (refl, (refl, (refl, (refl, (refl, (refl, (refl, (refl, (refl, (refl, (refl, (refl, (refl, (refl, (refl, (refl, (refl, (refl, (refl, (refl, (refl, (refl, (refl, (refl, (refl, (refl, (refl, (refl, (refl, (refl, (refl, (refl, tt))))))))))))))))))))))))))))))))))))))))))))))))))))))))))) }
