-- `export_probe::rack_work_out_probe` meets its contract: 31 and 32 of the set, or the answer on the tables that were lent.
use mathlib.Core.Path.{sym, ◌∙◌}
use Rattle.car.specs.Car.{probe_car_of, probed}
use Rattle.car.proofs.Answers.{alone_before}
use Rattle.marshalling.specs.Handed.{figures_left}
use Rattle.marshalling.specs.Layout.{tables_lent, set_of}
use Rattle.marshalling.proofs.Handed.{handed, right_sized}
use Rattle.export_probe.proofs.cars.rack_work_out_probe.Goals as goal

pub returns-in-Err : goal.returns-in-Err
returns-in-Err c =
    let ts = tables_lent c.args.count c.args.types.now c.args.rows.now c.args.levels.now c.args.capacities.now in
    let car = probe_car_of c.args.car.now (set_of c.args.level c.args.temperature c.args.density) in
    rw c.number.ensures (handed figures_left _ (alone_before ts (probed car) c.in-Err.ensures ∙ right_sized _ (sym c.car_fits.ensures ∙ c.if-not-car_fits.false)))
