-- `export_probe::prepare` meets its contract: the refusal of the set, or the car by its tenths.
use Rattle.std.proofs.lemmas.Result.{err_from_is_err_and}
use Rattle.probe_spec.proofs.Answers.{set_refused, set_shown}
use Rattle.marshalling.specs.Layout.{set_of}
use Rattle.export_probe.proofs.cars.prepare.Goals as goal

pub returns-in_err-t : goal.returns-in_err-t
returns-in_err-t c =
    let r = err_from_is_err_and c.from_residual.result c.from_residual.ensures.1 in
    rw (r.1, r.2) (set_refused (set_of c.args.level c.args.temperature c.args.density) c.in_err-t.ensures)

pub returns : goal.returns
returns c =
    rw c.probe_car_of-fields.ensures at c.probed.ensures (set_shown (set_of c.args.level c.args.temperature c.args.density) c.in_ok-t.ensures)
