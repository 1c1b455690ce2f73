-- A probe's numbers in tenths: refusals 31 and 32 of document 02, for every f32. A float is not a number, an infinity, or the number num / den, which is
-- m * 2 ^ e, with a sign.
use Rattle.std.specs.Prelude.{ℕ, ◌*◌, Bool, true, ◌&&◌, List, [], ◌∷◌, ◌++◌, ltb, Float, Result}
use Rattle.std.specs.Float.{nan, inf, fin}
use Rattle.std.specs.Float.Ieee.Positive.{num, den}
use Rattle.base.specs.Limits.{largest, tenths}
use Rattle.base.specs.Rounding.{rounded}
use Rattle.base.specs.Answer.{Test, refuse_if, first, Answer, answer}
use Rattle.base.specs.Refusal.{told}
use Rattle.base.specs.declared.refusal.Refusal.{Refusal}
use Rattle.probe_spec.specs.declared.ProbeReading.{ProbeReading}
use Rattle.probe_spec.specs.declared.ProbeReading.TheVariants.{Level, Temperature, Density}
use Rattle.probe_spec.specs.declared.ProbeSet.{ProbeSet}
use Rattle.probe_spec.specs.declared.SetTenths.{SetTenths}

-- 31: negative, infinite or not a number; minus zero, where m is 0, is zero
unfoldable pub no_number : Float → Bool
no_number nan = true
no_number (inf s) = true
no_number (fin s m e) = s && ltb 0 m

-- the exact binary number times ten, a half going up
unfoldable pub tenths_of : Float → ℕ
tenths_of x = rounded (tenths * num x) (den x)

-- 31, then 32
abbrev pub float_tests : Float → List Test
float_tests x =
    refuse_if 31 (no_number x)
    ∷ refuse_if 32 (ltb largest (tenths_of x))
    ∷ []

unfoldable pub tenths_answer : Float → Answer
tenths_answer x = answer (first (float_tests x)) (tenths_of x ∷ [])

-- the number of a reading, whichever it is
abbrev pub value_of : ProbeReading → Float
value_of (Level x) = x
value_of (Temperature x) = x
value_of (Density x) = x

-- 31 and 32 of the level, of the temperature, of the density
unfoldable pub set_tests : ProbeSet → List Test
set_tests s = float_tests s.level ++ (float_tests s.temperature ++ float_tests s.density)

unfoldable pub set_answer : ProbeSet → Answer
set_answer s = answer (first (set_tests s)) (tenths_of s.level ∷ tenths_of s.temperature ∷ tenths_of s.density ∷ [])

-- what the code's answer to a set says
abbrev pub set_told : Result SetTenths Refusal → Answer
set_told = told (λ t. t.level ∷ t.temperature ∷ t.density.0 ∷ [])
