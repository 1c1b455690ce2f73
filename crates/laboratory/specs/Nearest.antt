-- The field, a density at 15 °C, that comes nearest to what a laboratory reports at its own temperature.
use Rattle.std.specs.Prelude.{ℕ, ◌-◌, ◌≤◌, ◌≡◌}
use Rattle.base.specs.Numbers.{difference}
use Rattle.heating.specs.Limits.{DensityInRange}
use Rattle.heating.specs.Steps.{density_at}
use Rattle.laboratory.specs.declared.Report.{Report}

abbrev pub report_of : ℕ → ℕ → Report
report_of density temperature = record { density = density; temperature = temperature }

-- the density that the field r has at the laboratory's temperature, R(r × E(d) / 10¹⁰) with d the temperature less 150
unfoldable pub density_there : Report → ℕ → ℕ
density_there p r = density_at r (p.temperature - 150)

-- how far it lies from the density reported
abbrev pub distance : Report → ℕ → ℕ
distance p r = difference p.density (density_there p r)

-- r is the field: none lies nearer, and of those that lie as near none is smaller
pub record Nearest (p : Report) (r : ℕ) : Type 0 where
  pub field : DensityInRange r
  pub none_nearer : (s : ℕ) → DensityInRange s → distance p r ≤ distance p s
  pub smallest : (s : ℕ) → DensityInRange s → distance p s ≡ distance p r → r ≤ s
