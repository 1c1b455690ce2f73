-- How far Vt, V15, gross and net lie from the exact ones, in hundredths of each one's unit, by how far what goes into it lies.
use Prim.Native.Nat.{ℕ, ◌+◌, ◌*◌, ◌-◌, ◌≤◌}
use native.Mathlib.Nat.{mul-le-mul}
use native.Mathlib.Omega.{arith}
use Rattle.base.specs.Fraction.{Frac}
use Rattle.base.proofs.Near.{Near, near_whole, near_mul, near_round, near_quotient}
use Rattle.heating.specs.Exact.{Power}
use Rattle.heating.specs.Limits.{highest_temperature, lowest_density, highest_density}
use Rattle.heating.specs.Steps.{unity}
use Rattle.heating.proofs.Budget.{factor_near}
use Rattle.kilograms.specs.Distance.{greatest_volume}
use Rattle.kilograms.specs.Inner.{most_coefficient, most_hot_volume, most_cold_volume, most_in_car}
use Rattle.kilograms.specs.Steps
use Rattle.kilograms.specs.Exact

-- the swelling of step 3, in 1 / 20,000,000
pub swelling_most : {c t : ℕ} → c ≤ most_coefficient → t ≤ highest_temperature → 20_000_000 + c * (t - 200) ≤ 20_084_700
swelling_most {c} {t} hc ht = omega (arith, mul-le-mul {n₁ = c} {m₁ = t - 200} {m₂ = 700} hc (omega arith))

module _ {v : ℕ} {x : Frac} where
  -- Vt
  pub hot_volume_near : (c t : ℕ) → c ≤ most_coefficient → t ≤ highest_temperature → Near 100 greatest_volume 100 v x
      → Near 100 most_hot_volume 151 (Steps.hot_volume v c t) (Exact.hot_volume x c t)
  unfolding Steps.hot_volume Exact.hot_volume
  hot_volume_near c t hc ht h =
      near_quotient 20_000_000 (omega arith)
      (near_mul h (near_whole 20_084_700 (swelling_most hc ht)))

  -- V15
  pub cold_volume_near : (p : Power) (r t : ℕ) → lowest_density ≤ r → t ≤ highest_temperature → Near 100 most_hot_volume 151 v x
      → Near 100 most_cold_volume 290 (Steps.cold_volume v r t) (Exact.cold_volume p x r t)
  unfolding Steps.cold_volume Exact.cold_volume
  cold_volume_near p r t hr ht h =
      near_quotient unity (omega arith)
      (near_mul h (factor_near p r (t - 150) hr (omega arith)))

  -- gross
  pub gross_near : (r : ℕ) → r ≤ highest_density → Near 100 most_cold_volume 290 v x → Near 100 most_in_car 53 (Steps.gross v r) (Exact.gross x r)
  unfolding Steps.gross Exact.gross
  gross_near r hr h = near_quotient 1_000_000 (omega arith) (near_mul h (near_whole highest_density hr))

  -- net, whatever the distance e of gross
  pub net_near : {m e : ℕ} (w i f : ℕ) → e + 50 ≤ f → Near 100 m e v x → Near 100 m f (Steps.net v w i) (Exact.net x w i)
  unfolding Steps.net Exact.net
  net_near {m} w i f he h =
      near_round 10_000 m f (omega arith) (omega arith) (omega arith) (near_mul h (near_whole 10_000 (omega arith)))
