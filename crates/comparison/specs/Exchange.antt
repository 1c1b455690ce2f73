-- A stick and a tape whose readings are all alike: where they are exchanged, the difference turns its sign, and verdict and refusals stay.
use Rattle.std.specs.Prelude.{ℕ, ◌≡◌, false, cond, not, List, Result, Ok, Err, eqb, length}
use Rattle.base.specs.declared.refusal.Refusal.{Refusal}
use Rattle.base.specs.Refusal.{refusal_number}
use Rattle.base.specs.Limits.{in_tenths}
use Rattle.base.specs.Lists.{Each}
use Rattle.dip.specs.Tape.{listed}
use Rattle.comparison.specs.declared.Difference.{Difference}
use Rattle.comparison.specs.declared.Comparison.{Comparison}
use Rattle.comparison.specs.Answers.{most_readings, given, check_answer, check_told}

-- the other sign; 0 has none
abbrev pub turned : Difference → Difference
turned d = record { negative = cond (eqb d.size 0) false (not d.negative); size = d.size }

-- y beside x, the stick of y standing at a level in mm
pub record ComparisonTurned (level : ℕ) (x y : Comparison) : Type 0 where
  pub difference : y.difference ≡ turned x.difference
  pub passes : y.passes ≡ x.passes
  pub allowance : y.allowance ≡ listed (in_tenths level)

abbrev pub Turned : ℕ → Result Comparison Refusal → Result Comparison Refusal → Type 0
Turned level (Ok x) (Ok y) = ComparisonTurned level x y
Turned level (Err r) (Err s) = refusal_number s ≡ refusal_number r
Turned level (Ok x) (Err r) = ⊥
Turned level (Err r) (Ok y) = ⊥

-- all given readings are this one, in mm
abbrev pub AllAt : ℕ → ℕ → List ℕ → Type 0
AllAt level count places = Each (λ (mm : ℕ). mm ≡ level) (given count places)

-- a answers a stick that stood at a level in mm beside a tape that read another in each place given; b is any answer for a stick that stands where the
-- tape read, and as many readings, handed in as `others`, of where the stick stood
abbrev pub ExchangeRight : ℕ → ℕ → List ℕ → Result Comparison Refusal → Type 0
ExchangeRight stick count places a =
    (stood read : ℕ) (others : List ℕ) (b : Result Comparison Refusal)
    → stick ≡ in_tenths stood
    → AllAt read count places
    → AllAt stood count others
    → length others ≡ most_readings
    → check_told b ≡ check_answer (in_tenths read) count others
    → Turned read a b
