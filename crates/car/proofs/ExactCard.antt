-- The exact masses of the card's car, computed from the definitions.
use lib.Dec.{lit≤}
use Rattle.base.specs.Fraction.{whole, ◌+ᶠ◌, ◌-ᶠ◌, ◌*ᶠ◌, ◌/ᶠ◌}
use Rattle.base.specs.Rounding.{rounded}
use Rattle.dip.specs.Level.{mean_level}
use Rattle.gauging.specs.Exact.{interpolatedˣ, capacity_atˣ, v0ˣ}
use Rattle.heating.specs.Exact as thermal
use Rattle.kilograms.specs.Steps.{stick_coefficient}
use Rattle.kilograms.specs.Exact as mass
use Rattle.car.specs.Exact.{volumeˣ, massˣ}
use Rattle.car.specs.ExactCard.{weights, ExactRight}

pub exact_right : ExactRight
unfolding weights rounded mean_level interpolatedˣ capacity_atˣ v0ˣ thermal.expansion thermal.exponent thermal.term thermal.terms thermal.series thermal.factor stick_coefficient mass.hot_volume mass.cold_volume mass.gross mass.net mass.volume15_of mass.gross_of mass.net_of volumeˣ massˣ whole ◌+ᶠ◌ ◌-ᶠ◌ ◌*ᶠ◌ ◌/ᶠ◌
exact_right = record { each = (record { least = record { le = lit≤ tt }; most = record { le = lit≤ tt } }, (record { least = record { le = lit≤ tt }; most = record { le = lit≤ tt } }, (record { least = record { le = lit≤ tt }; most = record { le = lit≤ tt } }, (record { least = record { le = lit≤ tt }; most = record { le = lit≤ tt } }, (record { least = record { le = lit≤ tt }; most = record { le = lit≤ tt } }, (record { least = record { le = lit≤ tt }; most = record { le = lit≤ tt } }, (record { least = record { le = lit≤ tt }; most = record { le = lit≤ tt } }, (record { least = record { le = lit≤ tt }; most = record { le = lit≤ tt } }, tt)))))))) }
