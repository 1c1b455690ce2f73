-- The rack card's B, X, E and density at 20 °C, computed from the rules, and the exact E of the listing's car.
use mathlib.Core.Path.{◌≡◌, refl}
use mathlib.Core.List.{[], ◌∷◌}
use lib.Dec.{lit≤}
use Rattle.base.specs.Rounding.{rounded}
use Rattle.base.specs.Fraction.{whole, ◌+ᶠ◌, ◌-ᶠ◌, ◌*ᶠ◌, ◌/ᶠ◌, ◌≤ᶠ◌}
use Rattle.base.specs.Answer.{figures, refusal}
use Rattle.heating.specs.Exact.{seven, eight}
use Rattle.heating.specs.Steps
use Rattle.heating.specs.Exact
use Rattle.heating.specs.Answers.{expansion_answer, factor_answer, density20_answer}

-- X at 9,500 and 60 °C
pub exponent_right : Steps.exponent 718_937 450 ≡ 331_894_951
unfolding Steps.exponent rounded
exponent_right = refl

-- B, and B of an exact half; E at 60 °C; the density at 20 °C; 18 before 19
pub answers_right : expansion_answer 9_500 ∷ expansion_answer 9_600 ∷ factor_answer 9_500 600 ∷ density20_answer 9_500 ∷ density20_answer 9_585 ∷ factor_answer 8_999 199 ∷ []
    ≡ figures (718_937 ∷ []) ∷ figures (709_313 ∷ []) ∷ figures (9_673_552_332 ∷ []) ∷ figures (9_466 ∷ []) ∷ figures (9_551 ∷ []) ∷ refusal 18 ∷ []
unfolding Steps.expansion Steps.exponent Steps.term Steps.series Steps.factor Steps.density_at rounded
answers_right = refl

-- the limits of 19, and of 18 where no grade is given
pub limits_right : expansion_answer 8_999 ∷ expansion_answer 9_000 ∷ expansion_answer 9_900 ∷ expansion_answer 9_901
    ∷ factor_answer 9_500 199 ∷ factor_answer 9_500 200 ∷ factor_answer 9_500 900 ∷ factor_answer 9_500 901 ∷ []
    ≡ refusal 19 ∷ figures (771_027 ∷ []) ∷ figures (681_857 ∷ []) ∷ refusal 19
    ∷ refusal 18 ∷ figures (9_964_014_679 ∷ []) ∷ figures (9_453_063_804 ∷ []) ∷ refusal 18 ∷ []
unfolding Steps.expansion Steps.exponent Steps.term Steps.series Steps.factor rounded
limits_right = refl

-- the exact E at 60 °C is 9,673,552,353.339362347.. to power 7 and 9,673,552,353.339362712.. to power 8
pub exact : (whole 9_673_552_353_339_362_347 ≤ᶠ Exact.factor seven 9_500 450 *ᶠ whole 1_000_000_000)
    × (Exact.factor seven 9_500 450 *ᶠ whole 1_000_000_000 ≤ᶠ whole 9_673_552_353_339_362_348)
    × (whole 9_673_552_353_339_362_712 ≤ᶠ Exact.factor eight 9_500 450 *ᶠ whole 1_000_000_000)
    × (Exact.factor eight 9_500 450 *ᶠ whole 1_000_000_000 ≤ᶠ whole 9_673_552_353_339_362_713)
unfolding Exact.expansion Exact.exponent Exact.term Exact.terms Exact.series Exact.factor whole ◌+ᶠ◌ ◌-ᶠ◌ ◌*ᶠ◌ ◌/ᶠ◌
exact = (record { le = lit≤ tt }, record { le = lit≤ tt }, record { le = lit≤ tt }, record { le = lit≤ tt })
