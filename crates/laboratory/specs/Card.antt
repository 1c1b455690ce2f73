-- The rack card of laboratory reports: the pairs that the standards print, the edges of 26 and 27, a tie; before them the densities that
-- some fields have at some temperatures, fields that are not the nearest, and verdicts.
use Rattle.std.specs.Prelude.{ℕ, ◌≡◌, List, [], ◌∷◌}
use Rattle.base.specs.Answer.{Verdict, accepts, refuses, first, Answer, figures, refusal}
use Rattle.base.specs.Lists.{Each}
use Rattle.laboratory.specs.declared.Report.{Report}
use Rattle.laboratory.specs.Nearest.{report_of, density_there, Nearest}
use Rattle.laboratory.specs.Answers.{report_tests, ReportAnswer}

-- 1. The density that a field has at a temperature: the first field and the last at 20 °C and at 90 °C, and the two beside the tie.

pub record DensityCase : Type 0 where
  pub reckoned : ℕ
  pub card : ℕ

abbrev has : ℕ → ℕ → ℕ → DensityCase
has r t card = record { reckoned = density_there (report_of 0 t) r; card = card }

unfoldable pub density_card : List DensityCase
density_card =
    has 9_000 200 8_965
    ∷ has 9_900 200 9_866
    ∷ has 9_000 900 8_472
    ∷ has 9_900 900 9_387
    ∷ has 9_207 200 9_172
    ∷ has 9_208 200 9_174
    ∷ []

-- 2. Fields that are not the nearest to a report.

pub record OtherCase : Type 0 where
  pub report : Report
  pub field : ℕ

abbrev is_not : ℕ → ℕ → ℕ → OtherCase
is_not density t r = record { report = report_of density t; field = r }

-- the two beside the nearest; the larger of two that lie as near; beyond the ends the second field and the last but one, and one past each end
unfoldable pub other_card : List OtherCase
other_card =
    is_not 9_300 500 9_541
    ∷ is_not 9_300 500 9_539
    ∷ is_not 9_173 200 9_208
    ∷ is_not 8_964 200 9_001
    ∷ is_not 9_867 200 9_899
    ∷ is_not 8_964 200 8_999
    ∷ is_not 9_867 200 9_901
    ∷ []

-- 3. The verdict on a report, by its nearest field.

pub record VerdictCase : Type 0 where
  pub reckoned : Verdict
  pub card : Verdict

abbrev judged : ℕ → ℕ → ℕ → Verdict → VerdictCase
judged density t r card = record { reckoned = first (report_tests (report_of density t) r); card = card }

unfoldable pub verdict_card : List VerdictCase
verdict_card =
    judged 8_963 200 9_000 (refuses 27)
    ∷ judged 8_964 200 9_000 accepts
    ∷ judged 9_388 900 9_900 accepts
    ∷ judged 9_389 900 9_900 (refuses 27)
    ∷ judged 8_966 199 9_000 (refuses 26)
    ∷ judged 9_387 901 9_900 (refuses 26)
    ∷ judged 0 199 9_000 (refuses 26)
    ∷ []

-- 4. The answers.

pub record ReportCase : Type 0 where
  pub report : Report
  pub card : Answer

abbrev gives : ℕ → ℕ → ℕ → ReportCase
gives density t r = record { report = report_of density t; card = figures (r ∷ []) }

abbrev refused_by : ℕ → ℕ → ℕ → ReportCase
refused_by n density t = record { report = report_of density t; card = refusal n }

unfoldable pub report_card : List ReportCase
report_card =
    -- annexes Б.2 and Д of 002
    gives 9_300 500 9_540
    ∷ gives 9_400 500 9_640
    ∷ gives 9_300 510 9_547
    ∷ gives 9_400 510 9_647
    ∷ gives 9_330 503 9_572
    ∷ gives 9_460 402 9_632
    -- the first field and the last at 20 °C, and 27 beyond
    ∷ refused_by 27 8_963 200
    ∷ gives 8_964 200 9_000
    ∷ gives 8_965 200 9_000
    ∷ gives 9_866 200 9_900
    ∷ gives 9_867 200 9_900
    ∷ refused_by 27 9_868 200
    -- the same at 90 °C
    ∷ refused_by 27 8_470 900
    ∷ gives 8_471 900 9_000
    ∷ gives 9_388 900 9_900
    ∷ refused_by 27 9_389 900
    -- a tie
    ∷ gives 9_173 200 9_207
    -- 26, also before 27
    ∷ refused_by 26 9_300 199
    ∷ refused_by 26 9_300 901
    ∷ refused_by 26 0 199
    ∷ refused_by 26 4_294_967_295 901
    ∷ refused_by 26 9_300 0
    -- no range of the report's own
    ∷ refused_by 27 0 200
    ∷ refused_by 27 4_294_967_295 900
    ∷ []

pub record ReportsRight : Type 0 where
  pub densities : Each (λ (c : DensityCase). c.reckoned ≡ c.card) density_card
  pub others : Each (λ (c : OtherCase). Nearest c.report c.field → ⊥) other_card
  pub verdicts : Each (λ (c : VerdictCase). c.reckoned ≡ c.card) verdict_card
  pub answers : Each (λ (c : ReportCase). ReportAnswer c.report c.card) report_card
