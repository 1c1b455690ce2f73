-- `working::work_on` meets its contract: 12 and 13, the readings' refusals, or the answer from what is measured.
use mathlib.Core.Path.{◌≡◌, sym, ap, ◌∙◌}
use mathlib.Core.List.{List}
use Rattle.std.proofs.lemmas.Result.{err_from_is_err_and}
use Rattle.base.specs.Answer.{Test, Verdict, first}
use Rattle.table.specs.Table.{Table}
use Rattle.table.specs.Layout.{tables_in}
use Rattle.car.specs.declared.Measured.{Measured}
use Rattle.car.specs.declared.HandedIn.{HandedIn}
use Rattle.car.specs.Measured.{early_tests}
use Rattle.car.specs.Car.{Intake, dip_tests, measured_of}
use Rattle.car.specs.Inner.{given_tests, Stands}
use Rattle.car.proofs.Answers.{own_early, own_readings, own_late}
use Rattle.working.proofs.work_on.Goals as goal

-- the verdicts of 12 and 13, and of the readings, are those of what is handed in
module _ {x : HandedIn} {h : Intake} (s : Stands x h) where
  of_measured : (ts : List Table) {v : Verdict} → v ≡ first (early_tests ts x.measured) → first (early_tests ts (measured_of h)) ≡ v
  of_measured ts e = sym (e ∙ ap (λ (m : Measured). first (early_tests ts m)) s.measured)

  of_readings : {v : Verdict} → v ≡ first (given_tests x.readings) → first (dip_tests h) ≡ v
  of_readings e = sym (e ∙ ap (λ (r : List Test). first r) s.readings)

pub returns-in_err-check_early : goal.returns-in_err-check_early
returns-in_err-check_early c h s =
    let ts = tables_in c.args.tables.now in
    let p = err_from_is_err_and c.from_residual.result c.from_residual.ensures.1 in
    rw (p.1, p.2) (own_early ts h (of_measured s ts c.in_err-check_early.ensures))

pub returns-in_err-check_given : goal.returns-in_err-check_given
returns-in_err-check_given c h s =
    let ts = tables_in c.args.tables.now in
    let r = c.from_residual-in_err-check_given in
    let p = err_from_is_err_and r.result r.ensures.1 in
    rw (p.1, p.2) (own_readings ts h (of_measured s ts c.in_ok-check_early.ensures) (of_readings s c.in_err-check_given.ensures))

pub returns : goal.returns
returns c h s =
    let ts = tables_in c.args.tables.now in
    rw (s.number, s.measured) at c.work_measured.ensures
    ∙ own_late ts h (of_measured s ts c.in_ok-check_early.ensures) (of_readings s c.in_ok-check_given.ensures)
