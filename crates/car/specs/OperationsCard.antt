-- The rack card of the operations that take some of a car's fields: each refusal just outside, each of two faults the first in the list.
use Rattle.std.specs.Prelude.{◌≡◌, List, [], ◌∷◌}
use Rattle.base.specs.Answer.{figures, refusal}
use Rattle.base.specs.Lists.{Each}
use Rattle.dip.specs.Level.{mean_level_answer}
use Rattle.dip.specs.Tape.{allowance_answer}
use Rattle.gauging.specs.Capacity.{capacity_answer, volume_answer}
use Rattle.heating.specs.Answers.{expansion_answer, factor_answer, density20_answer}
use Rattle.grading.specs.Answers.{grade_density20_answer, grade_oil_answer, oil_answer}
use Rattle.car.specs.Card.{card_tables, bad_type, bad_row, Figure, gives}

unfoldable pub card : List Figure
card =
    -- the tape allowance, at the ends of each metre, in tenths of a mm; a level in 64 bits of which 32 would be 10,000
    gives (allowance_answer 0) (refusal 16)
    ∷ gives (allowance_answer 9) (refusal 16)
    ∷ gives (allowance_answer 10) (figures (30 ∷ []))
    ∷ gives (allowance_answer 10_000) (figures (30 ∷ []))
    ∷ gives (allowance_answer 10_001) (figures (45 ∷ []))
    ∷ gives (allowance_answer 20_000) (figures (45 ∷ []))
    ∷ gives (allowance_answer 20_001) (figures (60 ∷ []))
    ∷ gives (allowance_answer 30_000) (figures (60 ∷ []))
    ∷ gives (allowance_answer 30_001) (figures (75 ∷ []))
    ∷ gives (allowance_answer 36_000) (figures (75 ∷ []))
    ∷ gives (allowance_answer 36_001) (refusal 16)
    ∷ gives (allowance_answer 4_294_977_296) (refusal 16)
    -- the mean level in tenths, whichever reading is greater; 14 before 15, 23 and 16; three of four that are 0, and levels below 1 mm; a caller's highest
    ∷ gives (mean_level_answer 2 (1_501 ∷ 1_500 ∷ 0 ∷ 0 ∷ [])) (figures (15_005 ∷ []))
    ∷ gives (mean_level_answer 2 (1_500 ∷ 1_502 ∷ 1 ∷ 0 ∷ [])) (refusal 14)
    ∷ gives (mean_level_answer 1 (0 ∷ 0 ∷ 0 ∷ 0 ∷ [])) (refusal 14)
    ∷ gives (mean_level_answer 2 (1_500 ∷ 1_502 ∷ 0 ∷ 0 ∷ [])) (refusal 15)
    ∷ gives (mean_level_answer 3 (1_500 ∷ 1_510 ∷ 1_520 ∷ 1_530 ∷ [])) (refusal 14)
    ∷ gives (mean_level_answer 4 (1_500 ∷ 1_510 ∷ 1_520 ∷ 1_530 ∷ [])) (refusal 23)
    ∷ gives (mean_level_answer 4 (1_500 ∷ 1_503 ∷ 1_501 ∷ 1_504 ∷ [])) (figures (15_013 ∷ []))
    ∷ gives (mean_level_answer 4 (0 ∷ 4 ∷ 0 ∷ 4 ∷ [])) (refusal 23)
    ∷ gives (mean_level_answer 4 (0 ∷ 4 ∷ 0 ∷ 0 ∷ [])) (refusal 16)
    ∷ gives (mean_level_answer 2 (0 ∷ 0 ∷ 0 ∷ 0 ∷ [])) (refusal 16)
    ∷ gives (mean_level_answer 4 (0 ∷ 2 ∷ 0 ∷ 1 ∷ [])) (figures (3 ∷ []))
    ∷ gives (mean_level_answer 2 (0 ∷ 1 ∷ 0 ∷ 0 ∷ [])) (figures (5 ∷ []))
    ∷ gives (mean_level_answer 2 (1_500 ∷ 1_500 ∷ 0 ∷ 0 ∷ [])) (figures (15_000 ∷ []))
    ∷ gives (mean_level_answer 4 (4_294_967_295 ∷ 4_294_967_293 ∷ 4_294_967_295 ∷ 4_294_967_295 ∷ [])) (figures (42_949_672_950 ∷ []))
    -- the capacity at a level in tenths, and V0 over water in mm: 7 and 8 before 12, 12 before 16, 16 before 17
    ∷ gives (capacity_answer card_tables 2 30_001) (refusal 12)
    ∷ gives (capacity_answer card_tables 1 30_001) (refusal 16)
    ∷ gives (capacity_answer card_tables 1 0) (figures (0 ∷ []))
    ∷ gives (capacity_answer card_tables 1 5) (figures (1_000 ∷ []))
    ∷ gives (volume_answer (bad_type ∷ []) 2 0 0) (refusal 7)
    ∷ gives (volume_answer (bad_row ∷ []) 2 0 0) (refusal 8)
    ∷ gives (volume_answer card_tables 2 0 0) (refusal 12)
    ∷ gives (volume_answer card_tables 1 0 0) (refusal 16)
    ∷ gives (volume_answer card_tables 1 30_000 0) (figures (7_000_000 ∷ []))
    ∷ gives (volume_answer card_tables 1 30_001 0) (refusal 16)
    ∷ gives (volume_answer card_tables 1 30_001 3_001) (refusal 16)
    ∷ gives (volume_answer card_tables 1 15_000 1_500) (refusal 17)
    ∷ gives (volume_answer card_tables 1 15_001 1_500) (figures (300 ∷ []))
    ∷ gives (volume_answer card_tables 1 15_000 500) (figures (2_500_000 ∷ []))
    -- numbers that would be in range where bits past 32 were cut off: a level, and ten times a water level
    ∷ gives (volume_answer card_tables 1 4_294_982_296 0) (refusal 16)
    ∷ gives (volume_answer card_tables 1 15_000 429_496_730) (refusal 17)
    -- B, E and the density at 20 °C without a grade: 18 before 19
    ∷ gives (expansion_answer 8_999) (refusal 19)
    ∷ gives (expansion_answer 9_901) (refusal 19)
    ∷ gives (factor_answer 9_500 199) (refusal 18)
    ∷ gives (factor_answer 9_500 901) (refusal 18)
    ∷ gives (factor_answer 8_999 199) (refusal 18)
    ∷ gives (factor_answer 8_999 600) (refusal 19)
    ∷ gives (density20_answer 8_999) (refusal 19)
    -- the density at 20 °C for a grade: 13 before 19, 19 before 21
    ∷ gives (grade_density20_answer 5 8_999) (refusal 13)
    ∷ gives (grade_density20_answer 1 9_901) (refusal 19)
    ∷ gives (grade_density20_answer 1 9_585) (refusal 21)
    ∷ gives (grade_density20_answer 3 9_585) (figures (9_551 ∷ []))
    -- the share of oil: 13 before 20, and without a grade
    ∷ gives (grade_oil_answer 5 101 0) (refusal 13)
    ∷ gives (grade_oil_answer 1 31 0) (refusal 20)
    ∷ gives (grade_oil_answer 3 50 20) (figures (9_930 ∷ []))
    ∷ gives (oil_answer 100 100) (figures (9_800 ∷ []))
    ∷ gives (oil_answer 101 0) (refusal 20)
    ∷ gives (oil_answer 0 101) (refusal 20)
    ∷ []

-- the rules give each figure of the card
pub record OperationsRight : Type 0 where
  pub each : Each (λ f. f.reckoned ≡ f.card) card
