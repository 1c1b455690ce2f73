-- The rack card of a stick against the tape, computed from the definitions.
use mathlib.Core.Path.{refl}
use Rattle.base.specs.Rounding.{rounded}
use Rattle.base.specs.Total.{total}
use Rattle.comparison.specs.Difference.{signed, close}
use Rattle.comparison.specs.Answers.{check_answer}
use Rattle.comparison.specs.Card.{check_card, ChecksRight}

pub checks_right : ChecksRight
unfolding check_card check_answer signed close rounded total
checks_right = record {
  answers = (refl, (refl, (refl, (refl, (refl, (refl, (refl, (refl, (refl, (refl, (refl, (refl, (refl, (refl, (refl, (refl, (refl, (refl, (refl, (refl, (refl, (refl, (refl, (refl, (refl, (refl, (refl, (refl, (refl, (refl, (refl, (refl, (refl, (refl, (refl, (refl, (refl, tt)))))))))))))))))))))))))))))))))))));
}
