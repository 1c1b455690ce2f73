-- The formula of the tape allowance gives the list's number at every level that a tape takes, and the list's answer at every level.
use Prim.Native.Nat.{ℕ, zero, suc, ◌+◌, ◌-◌, ◌*◌, ◌/◌, ◌≤◌}
use mathlib.Core.Path.{◌≡◌, refl, ap, ◌∙◌}
use mathlib.Core.Bool.{Bool, true, false}
use mathlib.Core.List.{[], ◌∷◌}
use native.Mathlib.Omega.{arith}
use lib.ListN.{get_or}
use Rattle.base.specs.Limits.{highest_level, tenths}
use Rattle.base.specs.Answer.{refuse_if, first, Answer, figures, answer}
use Rattle.base.proofs.Numbers.{inside, inside_back}
use Rattle.dip.specs.Tape.{metre, allowances, listed, off_tape, allowance_answer}
use Rattle.dip.specs.Formula.{metres_begun, first_metre, further_metre, by_formula, formula_answer, FormulaRight}

-- the metres begun behind the first are the whole ones before the level's last tenth
further : (level : ℕ) → 1 ≤ level → metres_begun level - 1 ≡ (level - 1) / metre
further level h = omega arith

-- the list by the metres begun behind the first
by_metres : (k : ℕ) → k ≤ 3 → first_metre + further_metre * k ≡ get_or allowances k 0
by_metres zero h = refl
by_metres (suc zero) h = refl
by_metres (suc (suc zero)) h = refl
by_metres (suc (suc (suc zero))) h = refl
by_metres (suc (suc (suc (suc k)))) h = absurd (omega arith)

formula_listed : (level : ℕ) → tenths ≤ level → level ≤ tenths * highest_level → by_formula level ≡ listed level
formula_listed level h k = ap (λ (n : ℕ). first_metre + further_metre * n) (further level (omega arith)) ∙ by_metres ((level - 1) / metre) (omega arith)

formula_same : (level : ℕ) → formula_answer level ≡ allowance_answer level
unfolding formula_answer allowance_answer
formula_same level = go (off_tape level) refl
  where
    go : (b : Bool) → off_tape level ≡ b → answer (first (refuse_if 16 b ∷ [])) (by_formula level ∷ []) ≡ answer (first (refuse_if 16 b ∷ [])) (listed level ∷ [])
    go true e = refl
    go false e = let h = inside tenths (tenths * highest_level) level e in rw (formula_listed level h.0 h.1) refl

-- a number worked out by the formula, for a level that a tape takes
pub formula_figure : (level : ℕ) {n : ℕ} → tenths ≤ level → level ≤ tenths * highest_level → n ≡ by_formula level → figures (n ∷ []) ≡ formula_answer level
unfolding formula_answer
formula_figure level h k e = rw (inside_back tenths (tenths * highest_level) level h k, e) refl

pub formula_right : {level : ℕ} {a : Answer} → a ≡ formula_answer level → (a ≡ allowance_answer level) × FormulaRight level a
formula_right {level} e = (e ∙ formula_same level, record { answered = e; number = formula_listed; same = formula_same })
