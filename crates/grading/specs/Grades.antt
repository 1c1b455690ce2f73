-- The grades' limits, and refusals 13 and 18 to 21 of document 01, in the pieces of a car's list of tests.
-- A grade outside 1 to 4 has the limit 0; refusal 13 comes before those that ask for a limit.
use Rattle.std.specs.Prelude.{ℕ, ◌-◌, Bool, false, cond, ◌||◌, List, [], ◌∷◌, ◌++◌, ltb, get_or}
use Rattle.base.specs.Limits.{grade_count}
use Rattle.base.specs.Answer.{Test, refuse_if}
use Rattle.base.specs.Numbers.{outside}
use Rattle.heating.specs.Limits.{highest_temperature, density_tests}
use Rattle.heating.specs.Steps.{density20}

-- 13: grades are 1 to 4, sticks 1 and 2
abbrev pub grade_bad : ℕ → Bool
grade_bad grade = outside 1 grade_count grade

abbrev pub stick_bad : ℕ → Bool
stick_bad stick = outside 1 2 stick

-- 13 of a grade alone, and of a car's grade and stick
abbrev pub grade_tests : ℕ → List Test
grade_tests grade = refuse_if 13 (grade_bad grade) ∷ []

abbrev pub code_tests : ℕ → ℕ → List Test
code_tests grade stick = refuse_if 13 (grade_bad grade || stick_bad stick) ∷ []

-- Limits by grade, from grade 1 on (20: 002, table 5).

-- the lowest temperature, in 0.1 °C
abbrev pub lowest_temperatures : List ℕ
lowest_temperatures = 200 ∷ 200 ∷ 400 ∷ 400 ∷ []

-- the greatest water content and the greatest content of impurities, in 0.01 %
abbrev pub water_limits : List ℕ
water_limits = 30 ∷ 30 ∷ 100 ∷ 100 ∷ []

abbrev pub impurity_limits : List ℕ
impurity_limits = 10 ∷ 12 ∷ 50 ∷ 100 ∷ []

-- the greatest of either where no grade is given
abbrev pub content_limit : ℕ
content_limit = 100

-- the greatest density at 20 °C, in 0.1 kg/m³, which only grades 1 and 2 have
abbrev pub density20_limits : List ℕ
density20_limits = 9_550 ∷ 9_600 ∷ []

abbrev pub by_grade : List ℕ → ℕ → ℕ
by_grade limits grade = cond (grade_bad grade) 0 (get_or limits (grade - 1) 0)

-- 18: the temperature t
abbrev pub temperature_bad : ℕ → ℕ → Bool
temperature_bad grade t = outside (by_grade lowest_temperatures grade) highest_temperature t

abbrev pub temperature_tests : ℕ → ℕ → List Test
temperature_tests grade t = refuse_if 18 (temperature_bad grade t) ∷ []

-- 20: water w and impurities i, for a grade and without one
abbrev pub content_bad : ℕ → ℕ → ℕ → Bool
content_bad grade w i = ltb (by_grade water_limits grade) w || ltb (by_grade impurity_limits grade) i

abbrev pub content_tests : ℕ → ℕ → ℕ → List Test
content_tests grade w i = refuse_if 20 (content_bad grade w i) ∷ []

abbrev pub content_tests_any_grade : ℕ → ℕ → List Test
content_tests_any_grade w i = refuse_if 20 (ltb content_limit w || ltb content_limit i) ∷ []

-- 21: the density at 20 °C of the density r at 15 °C
abbrev pub density20_bad : ℕ → ℕ → Bool
density20_bad grade r = cond (outside 1 2 grade) false (ltb (get_or density20_limits (grade - 1) 0) (density20 r))

abbrev pub density20_tests : ℕ → ℕ → List Test
density20_tests grade r = refuse_if 21 (density20_bad grade r) ∷ []

-- 18 to 20 of a car's oil: temperature t, density r at 15 °C, water w and impurities i
abbrev pub range_tests : ℕ → ℕ → ℕ → ℕ → ℕ → List Test
range_tests grade t r w i = temperature_tests grade t ++ density_tests r ++ content_tests grade w i

-- 18 to 21
abbrev pub oil_tests : ℕ → ℕ → ℕ → ℕ → ℕ → List Test
oil_tests grade t r w i = range_tests grade t r w i ++ density20_tests grade r

-- step 8: what is left beside water w and impurities i, all in 0.01 %
abbrev pub oil_share : ℕ → ℕ → ℕ
oil_share w i = 10_000 - w - i
