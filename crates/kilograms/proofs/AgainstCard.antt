-- The rack card's figures from V0 on, computed from the rules, and the exact gross mass of the listing's car.
use mathlib.Core.Path.{◌≡◌, refl}
use mathlib.Core.List.{[], ◌∷◌}
use native.Mathlib.Omega.{arith}
use lib.Dec.{lit≤}
use Rattle.base.specs.Rounding.{rounded}
use Rattle.base.specs.Fraction.{whole, ◌+ᶠ◌, ◌-ᶠ◌, ◌*ᶠ◌, ◌/ᶠ◌, ◌≤ᶠ◌}
use Rattle.heating.specs.Steps as thermal
use Rattle.heating.specs.Exact as thermalˣ
use Rattle.heating.specs.Exact.{seven, eight}
use Rattle.kilograms.specs.Steps
use Rattle.kilograms.specs.Exact
use Rattle.kilograms.specs.Steps.{stick_coefficient}
use Rattle.kilograms.specs.Inner.{InRange}

-- Vt, V15, gross and net of V0 3,500,000 with a steel stick at 60 °C, density 9,500, water 50 and impurities 20
pub numbers_right : Steps.hot_volume 3_500_000 (stick_coefficient 1) 600 ∷ Steps.volume15_of 3_500_000 (stick_coefficient 1) 600 9_500
    ∷ Steps.gross_of 3_500_000 (stick_coefficient 1) 600 9_500 ∷ Steps.net_of 3_500_000 (stick_coefficient 1) 600 9_500 50 20 ∷ []
    ≡ 3_507_000 ∷ 3_392_515 ∷ 32_229 ∷ 32_003 ∷ []
unfolding stick_coefficient thermal.expansion thermal.exponent thermal.term thermal.series thermal.factor Steps.hot_volume Steps.cold_volume Steps.gross Steps.net Steps.volume15_of Steps.gross_of Steps.net_of rounded
numbers_right = refl

-- Vt with an aluminium stick, which is not taken for steel, and c of a stick that there is not
pub sticks_right : Steps.hot_volume 3_500_000 (stick_coefficient 2) 600 ∷ stick_coefficient 0 ∷ stick_coefficient 3 ∷ [] ≡ 3_508_470 ∷ 0 ∷ 0 ∷ []
unfolding stick_coefficient Steps.hot_volume rounded
sticks_right = refl

-- Beside the card: net is taken from the gross as shown, where 0.993 of 32,229.111 kg would be 32,004.
pub net_of_shown : Steps.net_of 3_500_024 (stick_coefficient 1) 600 9_500 50 20 ≡ 32_003
unfolding stick_coefficient thermal.expansion thermal.exponent thermal.term thermal.series thermal.factor Steps.hot_volume Steps.cold_volume Steps.gross Steps.net Steps.volume15_of Steps.gross_of Steps.net_of rounded
net_of_shown = refl

-- the listing's car is in range
pub listed : InRange 3_500_000 600 9_500 50 20
listed = omega arith

-- its exact gross mass is 32,228.890698003086.. kg to power 7 and 32,228.890698003087.. kg to power 8
pub exact : (whole 32_228_890_698_003_086 ≤ᶠ Exact.gross_of seven (whole 3_500_000) (stick_coefficient 1) 600 9_500 *ᶠ whole 1_000_000_000_000)
    × (Exact.gross_of seven (whole 3_500_000) (stick_coefficient 1) 600 9_500 *ᶠ whole 1_000_000_000_000 ≤ᶠ whole 32_228_890_698_003_087)
    × (whole 32_228_890_698_003_087 ≤ᶠ Exact.gross_of eight (whole 3_500_000) (stick_coefficient 1) 600 9_500 *ᶠ whole 1_000_000_000_000)
    × (Exact.gross_of eight (whole 3_500_000) (stick_coefficient 1) 600 9_500 *ᶠ whole 1_000_000_000_000 ≤ᶠ whole 32_228_890_698_003_088)
unfolding stick_coefficient thermalˣ.expansion thermalˣ.exponent thermalˣ.term thermalˣ.terms thermalˣ.series thermalˣ.factor Exact.hot_volume Exact.cold_volume Exact.gross Exact.volume15_of Exact.gross_of whole ◌+ᶠ◌ ◌-ᶠ◌ ◌*ᶠ◌ ◌/ᶠ◌
exact = (record { le = lit≤ tt }, record { le = lit≤ tt }, record { le = lit≤ tt }, record { le = lit≤ tt })
