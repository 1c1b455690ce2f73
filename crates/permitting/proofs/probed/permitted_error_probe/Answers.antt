-- `permitting::permitted_error_probe` meets its contract: 31 and 32 of the set, the car's answer, then the limit beside its figures.
use Rattle.std.proofs.lemmas.Result.{err_from_is_err_and}
use Rattle.probe_spec.proofs.Answers.{set_refused, set_shown}
use Rattle.table.specs.Layout.{tables_in}
use Rattle.car.specs.Car.{probed}
use Rattle.car.specs.Inner.{Stands}
use Rattle.car.proofs.Answers.{alone_before}
use Rattle.accuracy.specs.Permitted.{permitted_told}
use Rattle.accuracy.proofs.AgainstProbedCard.{probed_permitted_right}
use Rattle.permitting.proofs.Answered.{whole, away, accepted_as, behind}
use Rattle.permitting.proofs.probed.permitted_error_probe.Goals as goal
use Rattle.permitting.proofs.probed.permitted_error_probe.Goals.{After-probed-car}

-- the car's set comes to tenths, and these are what is measured of it
stands : (p : After-probed-car) → Stands p.probed-car.result (probed p.args.car)
stands p = p.probed-car.ensures (set_shown p.args.car.set p.in_ok-t.ensures)

pub returns-in_err-t : goal.returns-in_err-t
returns-in_err-t c =
    let r = err_from_is_err_and c.from_residual.result c.from_residual.ensures.1 in
    let ts = tables_in c.args.tables.now in
    let h = probed c.args.car in
    rw (r.1, r.2) (away probed_permitted_right ts h c.args.errors (alone_before ts h (set_refused c.args.car.set c.in_err-t.ensures)))

pub returns-in_err-six : goal.returns-in_err-six
returns-in_err-six c =
    let r = err_from_is_err_and c.from_residual-in_err-six.result c.from_residual-in_err-six.ensures.1 in
    rw (r.1, r.2)
    (away probed_permitted_right (tables_in c.args.tables.now) (probed c.args.car) c.args.errors
    (c.in_err-six.ensures (probed c.args.car) (stands (goal.at.returns-in_err-six c).After-probed-car)))

pub limit_beside-requires : goal.limit_beside-requires
limit_beside-requires c =
    let s = stands (goal.at.limit_beside-requires c).After-probed-car in
    let p = behind (tables_in c.args.tables.now) (probed c.args.car) (c.in_ok-six.ensures (probed c.args.car) s) s.measured in
    (p.0, p.1, c.expansion-expansion.ensures)

pub returns : goal.returns
returns c =
    let ts = tables_in c.args.tables.now in
    let h = probed c.args.car in
    let s = stands (goal.at.returns c).After-probed-car in
    whole probed_permitted_right ts h c.args.errors (permitted_told c.limit_beside.result)
    (c.limit_beside.ensures h (accepted_as ts h (c.in_ok-six.ensures (probed c.args.car) s) s.measured))
