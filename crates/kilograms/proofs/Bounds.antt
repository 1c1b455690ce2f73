-- How large each rounded step is at most: the bounds of the budget, for a volume that is itself the exact one.
use Prim.Native.Nat.{ℕ, ◌≤◌}
use native.Mathlib.Nat.{mul-le-mul_left}
use native.Mathlib.Omega.{arith}
use lib.Dec.{eqb, lit≤}
use Rattle.base.proofs.Choice.{cond_either}
use Rattle.base.proofs.Near.{near_self, near_weaken}
use Rattle.base.proofs.Rounding.{round_le}
use Rattle.heating.specs.Exact.{seven}
use Rattle.heating.specs.Limits.{highest_temperature, lowest_density, highest_density}
use Rattle.grading.specs.Grades.{oil_share}
use Rattle.kilograms.specs.Distance.{greatest_volume}
use Rattle.kilograms.specs.Inner.{most_coefficient, most_hot_volume, most_cold_volume, most_in_car}
use Rattle.kilograms.specs.Steps
use Rattle.kilograms.specs.Steps.{stick_coefficient}
use Rattle.kilograms.proofs.Budget.{hot_volume_near, cold_volume_near, gross_near}

pub stick_coefficient_most : (stick : ℕ) → stick_coefficient stick ≤ most_coefficient
unfolding stick_coefficient
stick_coefficient_most stick =
    cond_either (λ (n : ℕ). n ≤ most_coefficient) (eqb stick 1) 100 _ (λ _. lit≤ tt)
    (λ _. cond_either (λ (n : ℕ). n ≤ most_coefficient) (eqb stick 2) 121 0 (λ _. lit≤ tt) (λ _. lit≤ tt))

module _ {v : ℕ} where
  pub hot_volume_most : {c t : ℕ} → c ≤ most_coefficient → t ≤ highest_temperature → v ≤ greatest_volume → Steps.hot_volume v c t ≤ most_hot_volume
  hot_volume_most {c} {t} hc ht h = (hot_volume_near c t hc ht (near_weaken greatest_volume 100 h (omega arith) (near_self v))).most

  pub cold_volume_most : {r t : ℕ} → lowest_density ≤ r → t ≤ highest_temperature → v ≤ most_hot_volume → Steps.cold_volume v r t ≤ most_cold_volume
  cold_volume_most {r} {t} hr ht h = (cold_volume_near seven r t hr ht (near_weaken most_hot_volume 151 h (omega arith) (near_self v))).most

  pub gross_most : {r : ℕ} → r ≤ highest_density → v ≤ most_cold_volume → Steps.gross v r ≤ most_in_car
  gross_most {r} hr h = (gross_near r hr (near_weaken most_cold_volume 290 h (omega arith) (near_self v))).most

-- the net mass is no more than the gross mass
pub net_le_gross : (m w i : ℕ) → Steps.net m w i ≤ m
unfolding Steps.net
net_le_gross m w i = round_le m (omega arith) (mul-le-mul_left {m = oil_share w i} m (omega arith))
