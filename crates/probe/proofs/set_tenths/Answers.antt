-- `probe::set_tenths` meets its contract: what each call ensures, with the case that its arm knows.
use Rattle.std.proofs.lemmas.Result.{err_from_is_err_and}
use Rattle.probe_spec.proofs.Answers.{level_away, temperature_away, density_away, all_shown}
use Rattle.probe.proofs.set_tenths.Goals as goal

pub returns-in_err-tenths : goal.returns-in_err-tenths
returns-in_err-tenths c =
    let p = err_from_is_err_and c.from_residual.result c.from_residual.ensures.1 in
    rw (p.1, p.2) (level_away c.args.set c.in_err-tenths.ensures)

pub returns-in_err-tenths-2 : goal.returns-in_err-tenths-2
returns-in_err-tenths-2 c =
    let r = c.from_residual-in_err-tenths-2 in
    let p = err_from_is_err_and r.result r.ensures.1 in
    rw (p.1, p.2) (temperature_away c.args.set c.in_ok-tenths.ensures c.in_err-tenths-2.ensures)

pub returns-in_err-tenths-3 : goal.returns-in_err-tenths-3
returns-in_err-tenths-3 c =
    let r = c.from_residual-in_err-tenths-3 in
    let p = err_from_is_err_and r.result r.ensures.1 in
    rw (p.1, p.2) (density_away c.args.set c.in_ok-tenths.ensures c.in_ok-tenths-2.ensures c.in_err-tenths-3.ensures)

pub returns : goal.returns
returns c = all_shown c.args.set c.in_ok-tenths.ensures c.in_ok-tenths-2.ensures c.in_ok-tenths-3.ensures
