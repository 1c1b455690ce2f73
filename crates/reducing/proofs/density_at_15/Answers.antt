-- `reducing::density_at_15` meets its contract: 26 where its test applies, 27 where the nearest field is more than 1 off, else the field.
use Prim.Native.Nat.{◌≤◌, ◌<◌}
use mathlib.Core.Path.{sym}
use native.Mathlib.Omega.{arith}
use Rattle.std.specs.Prelude.{Result, Ok, Err}
use Rattle.std.proofs.lemmas.Result.{err_from_is_err_and}
use Rattle.base.specs.declared.refusal.Refusal.{Refusal}
use Rattle.base.specs.declared.refusal.Refusal.TheVariants.{NoSuchDensity}
use Rattle.base.proofs.Answer.{one_applies, one_passes}
use Rattle.heating.specs.declared.Density15.{Density15}
use Rattle.laboratory.specs.declared.Report.{Report}
use Rattle.laboratory.specs.Nearest.{distance}
use Rattle.laboratory.specs.Answers.{temperature_bad, ReportAnswer, OnlyAnswer, report_told}
use Rattle.laboratory.specs.Told.{ToldOnly}
use Rattle.laboratory.specs.Card.{ReportsRight}
use Rattle.laboratory.proofs.Answers.{turned_away_lem, too_far, found, only_answer}
use Rattle.laboratory.proofs.Told.{told_only}
use Rattle.laboratory.proofs.AgainstCard.{reports_right}
use Rattle.reducing.proofs.density_at_15.Goals as goal

-- all that is promised of the answer
promised : {p : Report} (a : Result Density15 Refusal) → ReportAnswer p (report_told a) → OnlyAnswer p (report_told a) × ToldOnly p a × ReportsRight
promised {p} a w = (only_answer w, told_only p a w, reports_right)

pub returns-in_err-check_within : goal.returns-in_err-check_within
returns-in_err-check_within c =
    let r = err_from_is_err_and c.from_residual.result c.from_residual.ensures.1 in
    let h = one_applies 26 (temperature_bad c.args.report) (sym c.in_err-check_within.ensures) in
    rw (r.1, r.2) (promised (Err _) (rw (sym h.1) (turned_away_lem h.0)))

pub returns-then-distance_to-gt1 : goal.returns-then-distance_to-gt1
returns-then-distance_to-gt1 c =
    let far : 1 < distance c.args.report c.nearest-field.result = omega (arith, c.if-distance_to-gt1.true, c.distance_to.ensures) in
    promised (Err NoSuchDensity) (too_far (one_passes 26 _ (sym c.in_ok-check_within.ensures)) c.nearest-field.ensures far)

pub returns : goal.returns
returns c =
    let near : distance c.args.report c.nearest-field.result ≤ 1 = omega (arith, c.if-distance_to-gt1.false, c.distance_to.ensures) in
    promised (Ok _) (found (one_passes 26 _ (sym c.in_ok-check_within.ensures)) c.nearest-field.ensures near)
