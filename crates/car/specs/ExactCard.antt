-- The exact gross and net of a car whose V0 is not a whole number, to both powers of the series, within 10⁻¹² kg.
use Rattle.std.specs.Prelude.{ℕ, ◌+◌, List, [], ◌∷◌}
use Rattle.base.specs.Fraction.{whole, ◌*ᶠ◌, ◌≤ᶠ◌}
use Rattle.base.specs.Lists.{Each}
use Rattle.table.specs.Table.{Table}
use Rattle.heating.specs.Exact.{Power, seven, eight}
use Rattle.car.specs.declared.Measured.{Measured}
use Rattle.car.specs.Measured.{Mass, gross, net}
use Rattle.car.specs.Car.{car_of, measured}
use Rattle.car.specs.Exact.{massˣ}

-- a table with rows 7 mm apart; 1,003.3 mm, which is the mean of 1,003, 1,003 and 1,004 to a tenth, lie between them, so that V0 is 13,999,630 / 7 units of
-- 0.01 dm³ over 5 mm of water
abbrev exact_tables : List Table
exact_tables =
    record {
      kind = 1;
      rows =
          record { level = 0; capacity = 0 }
          ∷ record { level = 1_000; capacity = 20_000 }
          ∷ record { level = 1_007; capacity = 20_211 }
          ∷ record { level = 3_000; capacity = 70_000 }
          ∷ [];
    }
    ∷ []

-- with a stick
abbrev exact_car : ℕ → Measured
exact_car stick = measured (car_of (1 ∷ 1 ∷ 3 ∷ stick ∷ 4 ∷ 1_003 ∷ 1_005 ∷ 1_003 ∷ 1_004 ∷ 5 ∷ 613 ∷ 9_541 ∷ 33 ∷ 7 ∷ []))

-- a mass with that stick to that power, in whole 10⁻¹² kg, what is left being cut off
pub record Weight : Type 0 where
  pub stick : ℕ
  pub mass : Mass
  pub power : Power
  pub trillionths : ℕ

abbrev weight : ℕ → Mass → Power → ℕ → Weight
weight s k p n = record { stick = s; mass = k; power = p; trillionths = n }

unfoldable pub weights : List Weight
weights =
    weight 1 gross seven 18_482_098_139_177_512
    ∷ weight 1 gross eight 18_482_098_139_177_513
    ∷ weight 1 net seven 18_408_169_746_620_802
    ∷ weight 1 net eight 18_408_169_746_620_803
    ∷ weight 2 gross seven 18_490_096_384_658_648
    ∷ weight 2 gross eight 18_490_096_384_658_649
    ∷ weight 2 net seven 18_416_135_999_120_013
    ∷ weight 2 net eight 18_416_135_999_120_014
    ∷ []

pub record Lies (w : Weight) : Type 0 where
  pub least : whole w.trillionths ≤ᶠ massˣ w.mass w.power exact_tables (exact_car w.stick) *ᶠ whole 1_000_000_000_000
  pub most : massˣ w.mass w.power exact_tables (exact_car w.stick) *ᶠ whole 1_000_000_000_000 ≤ᶠ whole (w.trillionths + 1)

pub record ExactRight : Type 0 where
  pub each : Each Lies weights
