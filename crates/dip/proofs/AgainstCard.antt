-- Figures of the rack card on mean level and tape allowance, each by computation.
use Prim.Native.Nat.{ℕ}
use mathlib.Core.Path.{◌≡◌, refl}
use mathlib.Core.List.{[], ◌∷◌}
use Rattle.base.specs.Rounding.{rounded}
use Rattle.base.specs.Answer.{Answer, figures, refusal}
use Rattle.dip.specs.Level.{mean_level, mean_level_answer}
use Rattle.dip.specs.Tape.{allowance_answer}
use Rattle.dip.specs.Formula.{formula_answer}

-- The number of readings, the readings in mm, and the answer, a mean level in tenths of a mm.

-- the three closest are 1,500, 1,501 and 1,502: a mean of 1,501.0
pub closest_three : mean_level_answer 4 (1_500 ∷ 1_504 ∷ 1_501 ∷ 1_502 ∷ []) ≡ figures (15_010 ∷ [])
unfolding mean_level_answer mean_level rounded
closest_three = refl

-- two triples as close: the lower one, 1,500 to 1,502
pub lower_triple : mean_level_answer 4 (1_500 ∷ 1_503 ∷ 1_501 ∷ 1_502 ∷ []) ≡ figures (15_010 ∷ [])
unfolding mean_level_answer mean_level rounded
lower_triple = refl

pub two_apart : mean_level_answer 2 (1_500 ∷ 1_502 ∷ 0 ∷ 0 ∷ []) ≡ refusal 15
unfolding mean_level_answer mean_level rounded
two_apart = refl

-- two apart and an unused one that is not 0
pub fourteen_first : mean_level_answer 2 (1_500 ∷ 1_502 ∷ 1 ∷ 0 ∷ []) ≡ refusal 14
unfolding mean_level_answer mean_level rounded
fourteen_first = refl

-- 1,500.5
pub two_agree : mean_level_answer 2 (1_500 ∷ 1_501 ∷ 0 ∷ 0 ∷ []) ≡ figures (15_005 ∷ [])
unfolding mean_level_answer mean_level rounded
two_agree = refl

-- 23: the three used span 3 mm, then 4 mm: the lower three, the upper three, and of two triples as close. Means of 1,501.33, of 1,506.67, which goes up,
-- and of 1,501.33
pub three_mm_apart :
    (mean_level_answer 4 (1_500 ∷ 1_503 ∷ 1_501 ∷ 1_509 ∷ []) ≡ figures (15_013 ∷ []))
    × (mean_level_answer 4 (1_500 ∷ 1_507 ∷ 1_505 ∷ 1_508 ∷ []) ≡ figures (15_067 ∷ []))
    × (mean_level_answer 4 (1_500 ∷ 1_503 ∷ 1_501 ∷ 1_504 ∷ []) ≡ figures (15_013 ∷ []))
unfolding mean_level_answer mean_level rounded
three_mm_apart = (refl, refl, refl)

pub four_mm_apart :
    (mean_level_answer 4 (1_500 ∷ 1_504 ∷ 1_501 ∷ 1_509 ∷ []) ≡ refusal 23)
    × (mean_level_answer 4 (1_500 ∷ 1_508 ∷ 1_505 ∷ 1_509 ∷ []) ≡ refusal 23)
    × (mean_level_answer 4 (1_500 ∷ 1_504 ∷ 1_501 ∷ 1_505 ∷ []) ≡ refusal 23)
unfolding mean_level_answer mean_level rounded
four_mm_apart = (refl, refl, refl)

-- the first two agree: the others are not looked at
pub others_wild : mean_level_answer 4 (1_500 ∷ 1_501 ∷ 0 ∷ 99_999_999 ∷ []) ≡ figures (15_005 ∷ [])
unfolding mean_level_answer mean_level rounded
others_wild = refl

-- 0 is refused; below 1 mm dips reach 0.33, 0.5 and 0.67
pub level_nought : mean_level_answer 2 (0 ∷ 0 ∷ 0 ∷ 0 ∷ []) ≡ refusal 16
unfolding mean_level_answer mean_level rounded
level_nought = refl

pub below_a_millimetre :
    (mean_level_answer 4 (0 ∷ 2 ∷ 0 ∷ 1 ∷ []) ≡ figures (3 ∷ []))
    × (mean_level_answer 2 (0 ∷ 1 ∷ 0 ∷ 0 ∷ []) ≡ figures (5 ∷ []))
    × (mean_level_answer 4 (0 ∷ 2 ∷ 1 ∷ 1 ∷ []) ≡ figures (7 ∷ []))
unfolding mean_level_answer mean_level rounded
below_a_millimetre = (refl, refl, refl)

-- the highest readings of a caller: past 32 bits
pub highest_readings : mean_level_answer 2 (4_294_967_295 ∷ 4_294_967_295 ∷ 0 ∷ 0 ∷ []) ≡ figures (42_949_672_950 ∷ [])
unfolding mean_level_answer mean_level rounded
highest_readings = refl

-- Levels in tenths of a mm and tape allowances in 0.01 mm, by the list and by the formula.

abbrev Both : ℕ → Answer → Type 0
Both level a = (allowance_answer level ≡ a) × (formula_answer level ≡ a)

pub first_metre_lem : Both 10 (figures (30 ∷ [])) × Both 10_000 (figures (30 ∷ []))
unfolding allowance_answer formula_answer
first_metre_lem = ((refl, refl), (refl, refl))

pub second_metre_begun : Both 10_001 (figures (45 ∷ [])) × Both 20_000 (figures (45 ∷ []))
unfolding allowance_answer formula_answer
second_metre_begun = ((refl, refl), (refl, refl))

pub third_metre_begun : Both 20_001 (figures (60 ∷ [])) × Both 30_000 (figures (60 ∷ []))
unfolding allowance_answer formula_answer
third_metre_begun = ((refl, refl), (refl, refl))

pub fourth_metre_begun : Both 30_001 (figures (75 ∷ [])) × Both 36_000 (figures (75 ∷ []))
unfolding allowance_answer formula_answer
fourth_metre_begun = ((refl, refl), (refl, refl))

pub below_first_level : Both 0 (refusal 16) × Both 9 (refusal 16)
unfolding allowance_answer formula_answer
below_first_level = ((refl, refl), (refl, refl))

pub above_last_level : Both 36_001 (refusal 16)
unfolding allowance_answer formula_answer
above_last_level = (refl, refl)
