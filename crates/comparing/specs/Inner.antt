-- What inner functions ask for and hand on; it is no part of what request (f) means.
use Rattle.std.specs.Prelude.{ℕ, ◌*◌, ◌≤◌, ◌≡◌, true, false, List, [], ◌∷◌, Result, Ok, Err}
use Rattle.base.specs.Answer.{refuse_if, first, answer}
use Rattle.base.specs.declared.refusal.Refusal.{Refusal}
use Rattle.base.specs.declared.refusal.Refusal.TheVariants.{TapeReading}
use Rattle.base.specs.Limits.{highest_level, tenths}
use Rattle.dip.specs.Tape.{listed, off_tape}
use Rattle.comparison.specs.declared.Comparison.{Comparison}
use Rattle.comparison.specs.Answers.{sum_of, reading_bad, comparison_at, four_figures, check_told}
use Rattle.comparison.specs.Told.{CountInRange}

-- the sum of readings that are all in range
pub record InRange (readings : List ℕ) (sum : ℕ) : Type 0 where
  pub none : reading_bad readings ≡ false
  pub same : sum ≡ sum_of readings

-- or 29
abbrev pub SumRight : List ℕ → Result ℕ Refusal → Type 0
SumRight readings (Ok sum) = InRange readings sum
SumRight readings (Err r) = (r ≡ TapeReading) × (reading_bad readings ≡ true)

-- as many readings as 28 takes, and a sum that is not above that of as many highest levels
pub record TapeInRange (sum m : ℕ) : Type 0 where
  pub counted : CountInRange m
  pub most : sum ≤ highest_level * m

-- and a stick level that is not above the highest
pub record BothInRange (stick sum m : ℕ) : Type 0 where
  pub tape : TapeInRange sum m
  pub most : stick ≤ tenths * highest_level

-- the comparison where the tape takes the stick level, else 29
abbrev pub OnTape : ℕ → ℕ → ℕ → Result Comparison Refusal → Type 0
OnTape stick sum m r = check_told r ≡ answer (first (refuse_if 29 (off_tape stick) ∷ [])) (four_figures (comparison_at stick sum m (listed stick)))
