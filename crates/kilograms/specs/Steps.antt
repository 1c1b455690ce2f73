-- Steps 3, 7 and 8 of document 01: from the volume at 20 °C to kilograms, each quotient rounded by R.
-- Volumes are in 0.01 dm³, temperatures in 0.1 °C, densities in 0.1 kg/m³, masses in kg, water and impurities in 0.01 %.
use Rattle.std.specs.Prelude.{ℕ, ◌+◌, ◌*◌, ◌-◌, cond, eqb}
use Rattle.base.specs.Rounding.{rounded}
use Rattle.heating.specs.Steps.{unity, factor}
use Rattle.grading.specs.Grades.{oil_share}

-- step 3: c for a stick, in 1 / 20,000,000 per 0.1 °C: 1 is steel, 2 is aluminium
unfoldable pub stick_coefficient : ℕ → ℕ
stick_coefficient stick = cond (eqb stick 1) 100 (cond (eqb stick 2) 121 0)

-- step 3: Vt, the volume v, which is V0, at temperature t, with c for the stick
unfoldable pub hot_volume : ℕ → ℕ → ℕ → ℕ
hot_volume v c t = rounded (v * (20_000_000 + c * (t - 200))) 20_000_000

-- step 7: V15, the volume v, which is Vt, brought from temperature t to 15 °C
unfoldable pub cold_volume : ℕ → ℕ → ℕ → ℕ
cold_volume v r t = rounded (v * factor r (t - 150)) unity

-- step 8: the gross mass of the volume v, which is V15
unfoldable pub gross : ℕ → ℕ → ℕ
gross v r = rounded (v * r) 1_000_000

-- step 8: the net mass of the gross mass m with water w and impurities i
unfoldable pub net : ℕ → ℕ → ℕ → ℕ
net m w i = rounded (m * oil_share w i) 10_000

-- Steps 3 to 8 in a row, from V0, with c for the stick.

unfoldable pub volume15_of : ℕ → ℕ → ℕ → ℕ → ℕ
volume15_of v c t r = cold_volume (hot_volume v c t) r t

unfoldable pub gross_of : ℕ → ℕ → ℕ → ℕ → ℕ
gross_of v c t r = gross (volume15_of v c t r) r

unfoldable pub net_of : ℕ → ℕ → ℕ → ℕ → ℕ → ℕ → ℕ
net_of v c t r w i = net (gross_of v c t r) w i
