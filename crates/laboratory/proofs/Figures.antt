-- Of the card of reports: the densities there; fields that are not the nearest, told by one that is nearer, or as near and smaller; verdicts.
use mathlib.Core.Path.{◌≡◌, refl}
use native.Mathlib.Omega.{arith}
use Rattle.base.specs.Rounding.{rounded}
use Rattle.base.specs.Lists.{Each}
use Rattle.heating.specs.Steps.{expansion, exponent, term, series, factor, density_at}
use Rattle.laboratory.specs.Nearest.{density_there, Nearest}
use Rattle.laboratory.specs.Card.{DensityCase, OtherCase, VerdictCase, density_card, other_card, verdict_card}

pub densities_right : Each (λ (c : DensityCase). c.reckoned ≡ c.card) density_card
unfolding density_card density_there expansion exponent term series factor density_at rounded
densities_right = (refl, (refl, (refl, (refl, (refl, (refl, tt))))))

pub others_right : Each (λ (c : OtherCase). Nearest c.report c.field → ⊥) other_card
unfolding other_card density_there expansion exponent term series factor density_at rounded
others_right = (
  λ n. omega (arith, n.none_nearer 9_540 record { light = omega arith; dense = omega arith }),
  (
    λ n. omega (arith, n.none_nearer 9_540 record { light = omega arith; dense = omega arith }),
    (
      λ n. omega (arith, n.smallest 9_207 record { light = omega arith; dense = omega arith } refl),
      (
        λ n. omega (arith, n.none_nearer 9_000 record { light = omega arith; dense = omega arith }),
        (
          λ n. omega (arith, n.none_nearer 9_900 record { light = omega arith; dense = omega arith }),
          (
            λ n. omega (arith, n.field.light),
            (
              λ n. omega (arith, n.field.dense),
              tt,
            ),
          ),
        ),
      ),
    ),
  ),
)

pub verdicts_right : Each (λ (c : VerdictCase). c.reckoned ≡ c.card) verdict_card
unfolding verdict_card density_there expansion exponent term series factor density_at rounded
verdicts_right = (refl, (refl, (refl, (refl, (refl, (refl, (refl, tt)))))))
