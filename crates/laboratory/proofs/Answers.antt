-- The answer to a report: how it is known in each case, and that there is one only.
use Prim.Native.Nat.{ℕ, ◌≤◌, ◌<◌}
use mathlib.Core.Path.{◌≡◌, refl, sym, ap, ◌∙◌}
use mathlib.Core.Bool.{true, false}
use mathlib.Core.List.{[], ◌∷◌}
use borrow.Author.Tests.{lt-ltb, le-ltb}
use Rattle.base.specs.Answer.{first, Answer, figures, refusal, answer}
use Rattle.laboratory.specs.declared.Report.{Report}
use Rattle.laboratory.specs.Nearest.{distance, Nearest}
use Rattle.laboratory.specs.Answers.{temperature_bad, report_tests, ReportAnswer, OnlyAnswer}
use Rattle.laboratory.proofs.Exists.{nearest_exists, nearest_only}

module _ {p : Report} where
  -- 26
  pub turned_away_lem : temperature_bad p ≡ true → ReportAnswer p (refusal 26)
  turned_away_lem h =
      let s = nearest_exists p in
      record { field = s.field; nearest = s.nearest; answered = rw h refl }

  -- 27, and the field
  pub too_far : {r : ℕ} → temperature_bad p ≡ false → Nearest p r → 1 < distance p r → ReportAnswer p (refusal 27)
  too_far {r} h n far = record { field = r; nearest = n; answered = rw (h, lt-ltb 1 (distance p r) far) refl }

  pub found : {r : ℕ} → temperature_bad p ≡ false → Nearest p r → distance p r ≤ 1 → ReportAnswer p (figures (r ∷ []))
  found {r} h n near = record { field = r; nearest = n; answered = rw (h, le-ltb 1 (distance p r) near) refl }

  pub only_answer : {a : Answer} → ReportAnswer p a → OnlyAnswer p a
  only_answer {a} w = record {
    right = w;
    only = λ b v. v.answered ∙ ap (λ (r : ℕ). answer (first (report_tests p r)) (r ∷ [])) (nearest_only v.nearest w.nearest) ∙ sym w.answered;
  }
