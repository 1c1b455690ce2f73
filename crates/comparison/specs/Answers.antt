-- The check of a stick against a tape: 28, then 29, else the difference, whether it passes, and the tape allowance for the stick level.
use Rattle.std.specs.Prelude.{ℕ, Bool, ◌||◌, List, [], ◌∷◌, Result, take}
use Rattle.base.specs.Answer.{Test, refuse_if, first, Answer, answer}
use Rattle.base.specs.declared.refusal.Refusal.{Refusal}
use Rattle.base.specs.Refusal.{told}
use Rattle.base.specs.Limits.{highest_level}
use Rattle.base.specs.Numbers.{outside, one_if, any}
use Rattle.base.specs.Total.{total}
use Rattle.dip.specs.Tape.{listed, off_tape}
use Rattle.comparison.specs.declared.Comparison.{Comparison}
use Rattle.comparison.specs.Difference.{difference_of, passes_for}

-- the fewest readings of the tape, and the most, which is also how many places are handed in
abbrev pub fewest_readings : ℕ
fewest_readings = 10

abbrev pub most_readings : ℕ
most_readings = 20

-- the readings given, in mm: the first `count` of the places
abbrev pub given : ℕ → List ℕ → List ℕ
given count places = take count places

-- their sum, in mm
abbrev pub sum_of : List ℕ → ℕ
sum_of readings = total (λ (mm : ℕ). mm) readings

-- 28
abbrev pub count_bad : ℕ → Bool
count_bad count = outside fewest_readings most_readings count

-- a reading is outside 1 to 3,600 mm
abbrev pub reading_bad : List ℕ → Bool
reading_bad readings = any (outside 1 highest_level) readings

-- 29: a given reading is outside 1 to 3,600 mm, or the stick level outside 10 to 36,000 tenths
abbrev pub level_bad : ℕ → List ℕ → Bool
level_bad stick readings = reading_bad readings || off_tape stick

-- the refusals, in the listed order
abbrev pub check_tests : ℕ → ℕ → List ℕ → List Test
check_tests stick count places =
    refuse_if 28 (count_bad count)
    ∷ refuse_if 29 (level_bad stick (given count places))
    ∷ []

-- the comparison of a stick level with m readings, by their sum in mm, and an allowance in 0.01 mm beside it
abbrev pub comparison_at : ℕ → ℕ → ℕ → ℕ → Comparison
comparison_at stick sum m allowance = record { difference = difference_of stick sum m; passes = passes_for stick sum m; allowance = allowance }

-- that with the readings given, and the tape allowance for the stick level
abbrev pub comparison_of : ℕ → ℕ → List ℕ → Comparison
comparison_of stick count places = comparison_at stick (sum_of (given count places)) count (listed stick)

-- as numbers: 1 for a negative difference and 0 for any other, its size, 1 where it passes and 0 where not, the allowance
abbrev pub four_figures : Comparison → List ℕ
four_figures x = one_if x.difference.negative ∷ x.difference.size ∷ one_if x.passes ∷ x.allowance ∷ []

unfoldable pub check_answer : ℕ → ℕ → List ℕ → Answer
check_answer stick count places = answer (first (check_tests stick count places)) (four_figures (comparison_of stick count places))

-- what the code's answer says
abbrev pub check_told : Result Comparison Refusal → Answer
check_told = told four_figures
