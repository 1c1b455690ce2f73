-- The card, computed from the definitions.
use mathlib.Core.Path.{refl}
use lib.Ieee.{of_bits}
use Rattle.base.specs.Rounding.{rounded}
use Rattle.probe_spec.specs.Tenths.{no_number, tenths_of, tenths_answer, set_tests, set_answer}
use Rattle.probe_spec.specs.ProbeCard.{probe_card, ProbeRight}

pub probe_right : ProbeRight
unfolding probe_card tenths_answer no_number tenths_of rounded set_tests set_answer of_bits
probe_right = record { each = (refl, (refl, (refl, (refl, (refl, (refl, (refl, (refl, (refl, (refl, (refl, (refl, (refl, (refl, (refl, (refl, (refl, (refl, (refl, (refl, (refl, (refl, (refl, (refl, (refl, (refl, (refl, (refl, (refl, (refl, (refl, (refl, (refl, (refl, (refl, (refl, (refl, (refl, (refl, (refl, (refl, (refl, (refl, (refl, tt)))))))))))))))))))))))))))))))))))))))))))) }
