-- The rack card's limits, computed from the rules, and the first of 18 to 21 where more than one applies.
use mathlib.Core.Path.{◌≡◌, refl}
use mathlib.Core.List.{[], ◌∷◌, ◌++◌, map}
use Rattle.base.specs.Rounding.{rounded}
use Rattle.base.specs.Answer.{figures, refusal, first_number}
use Rattle.heating.specs.Steps
use Rattle.grading.specs.Grades.{code_tests, content_tests, content_tests_any_grade, oil_tests}
use Rattle.grading.specs.Answers.{grade_density20_answer, grade_oil_answer}

-- 13 of a grade alone; the density at 20 °C of grade 1 up to its limit, above it, and of grade 3, which has none; water 100 and 101 of grade 3
pub answers_right : grade_density20_answer 0 9_500 ∷ grade_oil_answer 5 0 0 ∷ grade_density20_answer 1 9_584 ∷ grade_density20_answer 1 9_585 ∷ grade_density20_answer 3 9_900 ∷ grade_oil_answer 3 100 20 ∷ grade_oil_answer 3 101 20 ∷ []
    ≡ refusal 13 ∷ refusal 13 ∷ figures (9_550 ∷ []) ∷ refusal 21 ∷ figures (9_866 ∷ []) ∷ figures (9_880 ∷ []) ∷ refusal 20 ∷ []
unfolding Steps.expansion Steps.exponent Steps.term Steps.series Steps.factor Steps.density_at rounded
answers_right = refl

-- 13: grades 1 to 4, sticks 1 and 2
pub codes_right : first_number (code_tests 0 1) ∷ first_number (code_tests 1 1) ∷ first_number (code_tests 4 2) ∷ first_number (code_tests 5 1)
    ∷ first_number (code_tests 3 0) ∷ first_number (code_tests 3 3) ∷ []
    ≡ 13 ∷ 0 ∷ 0 ∷ 13 ∷ 13 ∷ 13 ∷ []
codes_right = refl

-- 18 by grade, just outside and just inside, at 9,000 with no water and no impurities
pub temperatures_right : map (λ t. first_number (oil_tests 1 t 9_000 0 0)) (199 ∷ 200 ∷ 900 ∷ 901 ∷ []) ++ map (λ t. first_number (oil_tests 2 t 9_000 0 0)) (199 ∷ 200 ∷ 900 ∷ 901 ∷ [])
    ++ map (λ t. first_number (oil_tests 3 t 9_000 0 0)) (399 ∷ 400 ∷ 900 ∷ 901 ∷ []) ++ map (λ t. first_number (oil_tests 4 t 9_000 0 0)) (399 ∷ 400 ∷ 900 ∷ 901 ∷ [])
    ≡ 18 ∷ 0 ∷ 0 ∷ 18 ∷ 18 ∷ 0 ∷ 0 ∷ 18 ∷ 18 ∷ 0 ∷ 0 ∷ 18 ∷ 18 ∷ 0 ∷ 0 ∷ 18 ∷ []
unfolding Steps.expansion Steps.exponent Steps.term Steps.series Steps.factor Steps.density_at rounded
temperatures_right = refl

-- 20 by grade: at the limits, one more of water, one more of impurities; then where no grade is given
pub contents_right : first_number (content_tests 1 30 10) ∷ first_number (content_tests 1 31 10) ∷ first_number (content_tests 1 30 11)
    ∷ first_number (content_tests 2 30 12) ∷ first_number (content_tests 2 31 12) ∷ first_number (content_tests 2 30 13)
    ∷ first_number (content_tests 3 100 50) ∷ first_number (content_tests 3 101 50) ∷ first_number (content_tests 3 100 51)
    ∷ first_number (content_tests 4 100 100) ∷ first_number (content_tests 4 101 100) ∷ first_number (content_tests 4 100 101)
    ∷ first_number (content_tests_any_grade 100 100) ∷ first_number (content_tests_any_grade 101 100) ∷ first_number (content_tests_any_grade 100 101) ∷ []
    ≡ 0 ∷ 20 ∷ 20 ∷ 0 ∷ 20 ∷ 20 ∷ 0 ∷ 20 ∷ 20 ∷ 0 ∷ 20 ∷ 20 ∷ 0 ∷ 20 ∷ 20 ∷ []
contents_right = refl

-- 21 of grades 1 and 2, and of grade 3, which has no limit; of several refusals the first is given
pub numbers_right : first_number (oil_tests 1 600 9_584 0 0) ∷ first_number (oil_tests 1 600 9_585 0 0) ∷ first_number (oil_tests 2 600 9_634 0 0) ∷ first_number (oil_tests 2 600 9_635 0 0)
    ∷ first_number (oil_tests 3 600 9_900 0 0) ∷ first_number (oil_tests 3 399 8_999 101 20) ∷ first_number (oil_tests 3 400 8_999 101 20) ∷ first_number (oil_tests 1 200 9_585 31 0) ∷ []
    ≡ 0 ∷ 21 ∷ 0 ∷ 21 ∷ 0 ∷ 18 ∷ 19 ∷ 20 ∷ []
unfolding Steps.expansion Steps.exponent Steps.term Steps.series Steps.factor Steps.density_at rounded
numbers_right = refl
