-- The answer by its tests and the answer as it is told without them are one, both ways.
use mathlib.Core.Path.{◌≡◌, subst}
use mathlib.Core.Bool.{true, false}
use mathlib.Core.List.{[], ◌∷◌}
use mathlib.Core.Logic.{inl, inr, ⊎_elim}
use borrow.Author.Tests.{ltb-true, ltb-false}
use Rattle.std.specs.Prelude.{Result, Ok, Err}
use Rattle.base.specs.Answer.{first}
use Rattle.base.proofs.Numbers.{inside, inside_back, beyond, beyond_back}
use Rattle.base.proofs.Answer.{neither_applies, either_applies, answer_figures, answer_refusal}
use Rattle.base.specs.Refusal.{refusal_number}
use Rattle.base.specs.declared.refusal.Refusal.{Refusal}
use Rattle.heating.specs.declared.Density15.{Density15}
use Rattle.laboratory.specs.declared.Report.{Report}
use Rattle.laboratory.specs.Nearest.{distance}
use Rattle.laboratory.specs.Answers.{coldest, hottest, temperature_bad, far_off, report_tests, ReportAnswer, report_told}
use Rattle.laboratory.specs.Told.{TemperatureInRange, FieldRight, ToldRight, ToldOnly}
use Rattle.laboratory.proofs.Exists.{nearest_exists}
use Rattle.laboratory.proofs.Answers.{turned_away_lem, too_far, found, only_answer}
use Rattle.laboratory.proofs.Ends.{field_right, far_off_lem}

-- where 26 does not apply, both ways
pub temperature_in : (p : Report) → temperature_bad p ≡ false → TemperatureInRange p
temperature_in p e = let h = inside coldest hottest p.temperature e in record { warm = h.0; hot = h.1 }

temperature_in_back : (p : Report) → TemperatureInRange p → temperature_bad p ≡ false
temperature_in_back p t = inside_back coldest hottest p.temperature t.warm t.hot

told_right : (p : Report) (a : Result Density15 Refusal) → ReportAnswer p (report_told a) → ToldRight p a
told_right p (Ok r) w =
    let h = answer_figures (first (report_tests p w.field)) w.answered in
    let t = neither_applies 26 27 (temperature_bad p) (far_off p w.field) h.0 in
    let e : w.field ≡ r.0 = cc in
    subst (FieldRight p) e (field_right p (temperature_in p t.0) w.nearest (ltb-false 1 (distance p w.field) t.1))
told_right p (Err e) w =
    ⊎_elim
    (λ (h : (refusal_number e ≡ 26) × (temperature_bad p ≡ true)). inl (h.0, beyond coldest hottest p.temperature h.1))
    (λ (h : (refusal_number e ≡ 27) × (temperature_bad p ≡ false) × (far_off p w.field ≡ true)).
    inr (h.0, far_off_lem p (temperature_in p h.1) w.nearest (ltb-true 1 (distance p w.field) h.2)))
    (either_applies 26 27 (temperature_bad p) (far_off p w.field) (answer_refusal (first (report_tests p w.field)) (w.field ∷ []) w.answered))

right_told : (p : Report) (a : Result Density15 Refusal) → ToldRight p a → ReportAnswer p (report_told a)
right_told p (Ok r) f = found (temperature_in_back p f.temperature) f.nearest f.close
right_told p (Err e) (inl h) = rw h.0 (turned_away_lem (beyond_back coldest hottest p.temperature h.1))
right_told p (Err e) (inr h) =
    let s = nearest_exists p in
    rw h.0 (too_far (temperature_in_back p h.1.temperature) s.nearest (h.1.every s.field s.nearest.field))

pub told_only : (p : Report) (a : Result Density15 Refusal) → ReportAnswer p (report_told a) → ToldOnly p a
told_only p a w = record { right = told_right p a w; only = λ b r. (only_answer w).only (report_told b) (right_told p b r) }
