-- The answers of the operations open to callers, in document 01's numbers: a figure, or the first refusal of the fields that they take.
use Rattle.std.specs.Prelude.{ℕ, ◌-◌, [], ◌∷◌, ◌++◌, Result}
use Rattle.base.specs.Answer.{Answer, answer, first}
use Rattle.base.specs.Refusal.{told}
use Rattle.base.specs.declared.refusal.Refusal.{Refusal}
use Rattle.heating.specs.Steps.{expansion, factor, density20}
use Rattle.heating.specs.Limits.{temperature_tests_any_grade, density_tests}
use Rattle.heating.specs.declared.Density20.{Density20}

-- B, in 10⁻⁹ per °C, of the density r at 15 °C: 19
abbrev pub expansion_answer : ℕ → Answer
expansion_answer r = answer (first (density_tests r)) (expansion r ∷ [])

-- E, in 10⁻¹⁰, from temperature t to 15 °C: 18, 19
abbrev pub factor_answer : ℕ → ℕ → Answer
factor_answer r t = answer (first (temperature_tests_any_grade t ++ density_tests r)) (factor r (t - 150) ∷ [])

-- the density at 20 °C, in 0.1 kg/m³: 19
abbrev pub density20_told : Result Density20 Refusal → Answer
density20_told = told (λ r. r.0 ∷ [])

abbrev pub density20_answer : ℕ → Answer
density20_answer r = answer (first (density_tests r)) (density20 r ∷ [])
