-- What is handed back, said without tests and their order: of a field, that none lies nearer and that it lies near enough; of 27, that
-- every field lies too far off, which is so exactly where the report lies beyond the first field or the last.
use Rattle.std.specs.Prelude.{ℕ, ◌+◌, ◌≤◌, ◌<◌, ◌≡◌, ◌⊎◌, Result, Ok, Err}
use Rattle.base.specs.Refusal.{refusal_number}
use Rattle.base.specs.declared.refusal.Refusal.{Refusal}
use Rattle.heating.specs.declared.Density15.{Density15}
use Rattle.heating.specs.Limits.{lowest_density, highest_density, DensityInRange}
use Rattle.laboratory.specs.declared.Report.{Report}
use Rattle.laboratory.specs.Nearest.{density_there, distance, Nearest}
use Rattle.laboratory.specs.Answers.{coldest, hottest, report_told}

-- the temperature is in the range of 26
pub record TemperatureInRange (p : Report) : Type 0 where
  pub warm : coldest ≤ p.temperature
  pub hot : p.temperature ≤ hottest

-- a field is handed back
pub record FieldRight (p : Report) (r : ℕ) : Type 0 where
  pub temperature : TemperatureInRange p
  pub nearest : Nearest p r
  pub close : distance p r ≤ 1
  pub not_below : density_there p lowest_density ≤ p.density + 1
  pub not_above : p.density ≤ density_there p highest_density + 1

-- 26 is handed back
abbrev pub TemperatureOutside : Report → Type 0
TemperatureOutside p = (p.temperature < coldest) ⊎ (hottest < p.temperature)

-- 27 is handed back
pub record FarOff (p : Report) : Type 0 where
  pub temperature : TemperatureInRange p
  pub every : (s : ℕ) → DensityInRange s → 1 < distance p s
  pub beyond : (p.density + 1 < density_there p lowest_density) ⊎ (density_there p highest_density + 1 < p.density)

abbrev pub ToldRight : Report → Result Density15 Refusal → Type 0
ToldRight p (Ok r) = FieldRight p r.0
ToldRight p (Err e) = ((refusal_number e ≡ 26) × TemperatureOutside p) ⊎ ((refusal_number e ≡ 27) × FarOff p)

-- a is right so, and whatever else is says the same
pub record ToldOnly (p : Report) (a : Result Density15 Refusal) : Type 0 where
  pub right : ToldRight p a
  pub only : (b : Result Density15 Refusal) → ToldRight p b → report_told b ≡ report_told a
