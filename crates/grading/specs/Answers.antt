-- The answers of the operations open to callers, in document 01's numbers: a figure, or the first refusal of the fields that they take.
use Rattle.std.specs.Prelude.{ℕ, [], ◌∷◌, ◌++◌}
use Rattle.base.specs.Answer.{Answer, answer, first}
use Rattle.heating.specs.Limits.{density_tests}
use Rattle.heating.specs.Steps.{density20}
use Rattle.grading.specs.Grades.{grade_tests, content_tests, content_tests_any_grade, density20_tests, oil_share}

-- the density at 20 °C, in 0.1 kg/m³, of the density r at 15 °C, for a grade: 13, 19, 21
abbrev pub grade_density20_answer : ℕ → ℕ → Answer
grade_density20_answer grade r = answer (first (grade_tests grade ++ density_tests r ++ density20_tests grade r)) (density20 r ∷ [])

-- the share of oil, in 0.01 %, beside water w and impurities i: 13, 20; without a grade 20
abbrev pub grade_oil_answer : ℕ → ℕ → ℕ → Answer
grade_oil_answer grade w i = answer (first (grade_tests grade ++ content_tests grade w i)) (oil_share w i ∷ [])

abbrev pub oil_answer : ℕ → ℕ → Answer
oil_answer w i = answer (first (content_tests_any_grade w i)) (oil_share w i ∷ [])
