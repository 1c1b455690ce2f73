-- From a volume near the exact one the gross mass lies within 0.55 kg of the exact gross and the net mass within 1.1 kg of the exact net.
use Prim.Native.Nat.{ℕ, ◌≤◌}
use native.Mathlib.Omega.{arith}
use Rattle.base.specs.Fraction.{Frac}
use Rattle.base.proofs.Near.{Near, within_weaken}
use Rattle.heating.specs.Exact.{Power}
use Rattle.heating.specs.Limits.{highest_temperature, DensityInRange}
use Rattle.kilograms.specs.Steps
use Rattle.kilograms.specs.Exact
use Rattle.kilograms.specs.Steps.{stick_coefficient}
use Rattle.kilograms.specs.Distance.{greatest_volume, gross_distance, net_distance, Shows, GrossWithin, NetWithin}
use Rattle.kilograms.specs.Inner.{InRange, most_coefficient, most_cold_volume, most_in_car}
use Rattle.kilograms.proofs.Budget.{hot_volume_near, cold_volume_near, gross_near, net_near}
use Rattle.kilograms.proofs.Bounds.{stick_coefficient_most, hot_volume_most, cold_volume_most, gross_most, net_le_gross}

-- the volume shown and the exact one, as the calculus of distances has them
near_shown : {v : ℕ} {x : Frac} → Shows v x → Near 100 greatest_volume 100 v x
near_shown h = record { most = h.most; bound = h.bound; within = h.within }

pub shown_near : {v : ℕ} {x : Frac} → Near 100 greatest_volume 100 v x → Shows v x
shown_near h = record { most = h.most; bound = h.bound; within = h.within }

module _ {v : ℕ} {x : Frac} (p : Power) (c t r : ℕ) (hc : c ≤ most_coefficient) (ht : t ≤ highest_temperature) (hr : DensityInRange r) (h : Near 100 greatest_volume 100 v x) where
  gross_of_near : Near 100 most_in_car 53 (Steps.gross_of v c t r) (Exact.gross_of p x c t r)
  unfolding Steps.gross_of Exact.gross_of Steps.volume15_of Exact.volume15_of
  gross_of_near = gross_near r hr.dense (cold_volume_near p r t hr.light ht (hot_volume_near c t hc ht h))

  net_of_near : (w i : ℕ) → Near 100 most_in_car 103 (Steps.net_of v c t r w i) (Exact.net_of p x c t r w i)
  unfolding Steps.net_of Exact.net_of
  net_of_near w i = net_near w i 103 (omega arith) gross_of_near

-- the distances, of a car in range with any stick
module _ (v stick t r w i : ℕ) (h : InRange v t r w i) where
  pub gross_within_lem : GrossWithin (Steps.gross_of v (stick_coefficient stick) t r) v (stick_coefficient stick) t r
  gross_within_lem x s p =
      within_weaken gross_distance (omega arith)
      (gross_of_near p (stick_coefficient stick) t r (stick_coefficient_most stick) h.fields.hot h.fields.density (near_shown s)).within

  pub net_within_lem : NetWithin (Steps.net_of v (stick_coefficient stick) t r w i) v (stick_coefficient stick) t r w i
  net_within_lem x s p =
      within_weaken net_distance (omega arith)
      (net_of_near p (stick_coefficient stick) t r (stick_coefficient_most stick) h.fields.hot h.fields.density (near_shown s) w i).within

  pub volume15_below : Steps.volume15_of v (stick_coefficient stick) t r ≤ most_cold_volume
  unfolding Steps.volume15_of
  volume15_below =
      let f = h.fields in
      cold_volume_most f.density.light f.hot (hot_volume_most (stick_coefficient_most stick) f.hot h.full)

  -- no car in range weighs more
  pub gross_below : Steps.gross_of v (stick_coefficient stick) t r ≤ most_in_car
  unfolding Steps.gross_of
  gross_below = gross_most h.fields.density.dense volume15_below

  pub net_below : Steps.net_of v (stick_coefficient stick) t r w i ≤ Steps.gross_of v (stick_coefficient stick) t r
  unfolding Steps.net_of
  net_below = net_le_gross _ w i
