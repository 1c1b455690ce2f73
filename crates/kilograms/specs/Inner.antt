-- What `masses_of` asks for and keeps, and what bounds its steps; it is no part of what steps 3, 7 and 8 mean.
use Rattle.std.specs.Prelude.{ℕ, ◌≤◌, ◌≡◌}
use Rattle.grading.specs.Inner.{FieldsInRange}
use Rattle.kilograms.specs.Steps.{stick_coefficient, volume15_of, gross_of, net_of}
use Rattle.kilograms.specs.Distance.{greatest_volume, GrossWithin, NetWithin}
use Rattle.kilograms.specs.Uncut.{NothingCut}
use Rattle.kilograms.specs.declared.Masses.{Masses}

-- the volume v in 0.01 dm³, the temperature t, the density r at 15 °C, water w and impurities i are in range
pub record InRange (v t r w i : ℕ) : Type 0 where
  pub full : v ≤ greatest_volume
  pub fields : FieldsInRange t r w i

-- m is V15, gross and net by steps 3 to 8, lies within the distances of the exact value, and nothing was cut off on the way
pub record MassesWorked (v stick t r w i : ℕ) (m : Masses) : Type 0 where
  pub v15 : m.v15 ≡ volume15_of v (stick_coefficient stick) t r
  pub gross : m.gross ≡ gross_of v (stick_coefficient stick) t r
  pub net : m.net ≡ net_of v (stick_coefficient stick) t r w i
  pub gross_within : GrossWithin m.gross v (stick_coefficient stick) t r
  pub net_within : NetWithin m.net v (stick_coefficient stick) t r w i
  pub uncut : NothingCut t r w i

-- The most of c, of Vt and V15 in 0.01 dm³, and of what an accepted car weighs, in kg.

abbrev pub most_coefficient : ℕ
most_coefficient = 121

abbrev pub most_hot_volume : ℕ
most_hot_volume = 20_084_701

abbrev pub most_cold_volume : ℕ
most_cold_volume = 20_121_473

abbrev pub most_in_car : ℕ
most_in_car = 199_203
