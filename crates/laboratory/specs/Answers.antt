-- The answer to a report: 26, then 27, else the field. There is one only.
use Rattle.std.specs.Prelude.{ℕ, ◌≡◌, Bool, List, [], ◌∷◌, ltb, Result}
use Rattle.base.specs.Answer.{Test, refuse_if, first, Answer, answer}
use Rattle.base.specs.Numbers.{outside}
use Rattle.base.specs.Refusal.{told}
use Rattle.base.specs.declared.refusal.Refusal.{Refusal}
use Rattle.heating.specs.declared.Density15.{Density15}
use Rattle.laboratory.specs.declared.Report.{Report}
use Rattle.laboratory.specs.Nearest.{distance, Nearest}

-- the laboratory's temperatures, in 0.1 °C
abbrev pub coldest : ℕ
coldest = 200

abbrev pub hottest : ℕ
hottest = 900

-- 26
abbrev pub temperature_bad : Report → Bool
temperature_bad p = outside coldest hottest p.temperature

-- 27: even the nearest field r differs by more than 1
abbrev pub far_off : Report → ℕ → Bool
far_off p r = ltb 1 (distance p r)

-- the report has no range of its own
abbrev pub report_tests : Report → ℕ → List Test
report_tests p r =
    refuse_if 26 (temperature_bad p)
    ∷ refuse_if 27 (far_off p r)
    ∷ []

-- a is the answer
pub record ReportAnswer (p : Report) (a : Answer) : Type 0 where
  pub field : ℕ
  pub nearest : Nearest p field
  pub answered : a ≡ answer (first (report_tests p field)) (field ∷ [])

-- and there is no other
pub record OnlyAnswer (p : Report) (a : Answer) : Type 0 where
  pub right : ReportAnswer p a
  pub only : (b : Answer) → ReportAnswer p b → b ≡ a

-- what the code's answer says
abbrev pub report_told : Result Density15 Refusal → Answer
report_told = told (λ r. r.0 ∷ [])
