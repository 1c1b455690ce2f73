-- `permitting::permitted_error` meets its contract: the car's answer, then the limit beside its figures.
use Rattle.std.proofs.lemmas.Result.{err_from_is_err_and}
use Rattle.table.specs.Layout.{tables_in}
use Rattle.car.specs.Car.{dipped}
use Rattle.accuracy.specs.Permitted.{permitted_told}
use Rattle.accuracy.proofs.AgainstCard.{permitted_right}
use Rattle.permitting.proofs.Answered.{whole, away, accepted_as, behind}
use Rattle.permitting.proofs.permitted_error.Goals as goal

pub returns-in_err-six : goal.returns-in_err-six
returns-in_err-six c =
    let r = err_from_is_err_and c.from_residual.result c.from_residual.ensures.1 in
    let h = dipped c.args.car in
    rw (r.1, r.2) (away permitted_right (tables_in c.args.tables.now) h c.args.errors (c.in_err-six.ensures h c.dipped-car.ensures.stands))

pub limit_beside-requires : goal.limit_beside-requires
limit_beside-requires c =
    let h = dipped c.args.car in
    let s = c.dipped-car.ensures.stands in
    let p = behind (tables_in c.args.tables.now) h (c.in_ok-six.ensures h s) s.measured in
    (p.0, p.1, c.expansion-expansion.ensures)

pub returns : goal.returns
returns c =
    let ts = tables_in c.args.tables.now in
    let h = dipped c.args.car in
    let s = c.dipped-car.ensures.stands in
    whole permitted_right ts h c.args.errors (permitted_told c.limit_beside.result) (c.limit_beside.ensures h (accepted_as ts h (c.in_ok-six.ensures h s) s.measured))
