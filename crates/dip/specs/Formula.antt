-- The tape allowance by the rule of GOST 7502, which request (e) of document 02 puts in the place of the list: it gives the same.
use Rattle.std.specs.Prelude.{ℕ, ◌+◌, ◌-◌, ◌*◌, ◌/◌, ◌≤◌, ◌≡◌, [], ◌∷◌}
use Rattle.base.specs.Limits.{highest_level, tenths}
use Rattle.base.specs.Answer.{refuse_if, first, Answer, answer}
use Rattle.dip.specs.Tape.{metre, listed, off_tape, allowance_answer}

-- the metres that a level has begun: a level of just so many metres has begun no further one
abbrev pub metres_begun : ℕ → ℕ
metres_begun level = (level + (metre - 1)) / metre

-- 0.01 mm, for the first metre begun and for each further one
abbrev pub first_metre : ℕ
first_metre = 30

abbrev pub further_metre : ℕ
further_metre = 15

abbrev pub by_formula : ℕ → ℕ
by_formula level = first_metre + further_metre * (metres_begun level - 1)

unfoldable pub formula_answer : ℕ → Answer
formula_answer level = answer (first (refuse_if 16 (off_tape level) ∷ [])) (by_formula level ∷ [])

-- the answer a to a level is the formula's; at every level of 10 to 36,000 tenths the formula gives the list's number, and at every level whatever, 16
-- included, the list's answer
pub record FormulaRight (level : ℕ) (a : Answer) : Type 0 where
  pub answered : a ≡ formula_answer level
  pub number : (l : ℕ) → tenths ≤ l → l ≤ tenths * highest_level → by_formula l ≡ listed l
  pub same : (l : ℕ) → formula_answer l ≡ allowance_answer l
