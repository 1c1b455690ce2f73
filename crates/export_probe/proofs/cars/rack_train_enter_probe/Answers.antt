-- `export_probe::rack_train_enter_probe` meets its contract: 31 and 32 of the set, or the car entered in the train and on the tables that were lent.
use Prim.Native.Nat.{ℕ, ◌<◌}
use mathlib.Core.Path.{sym, ap, ap₂, ◌∙◌}
use mathlib.Core.List.{List}
use native.Mathlib.Omega.{arith}
use lib.ListN.{get_or}
use borrow.Author.Tests.{eq-eqb, ne_eqb}
use Rattle.table.specs.Table.{Table}
use Rattle.car.specs.Car.{probe_car_of, probed}
use Rattle.consist.specs.Train.{Train, enter_answer, enter_train}
use Rattle.consist.proofs.Entering.{before_away}
use Rattle.marshalling.specs.Handed.{figures_left}
use Rattle.marshalling.specs.Layout.{tables_lent, set_of}
use Rattle.marshalling.proofs.Handed.{handed, handed_as, right_sized, wrong_sized}
use Rattle.trainslice.specs.Layout.{half, train_of, train_numbers}
use Rattle.trainslice.proofs.Slice.{train_handed, train_left, train_kept}
use Rattle.trainslice.proofs.Lengths.{train_wrong, train_sized_lem}
use Rattle.export_probe.proofs.cars.rack_train_enter_probe.Goals as goal

pub returns-then-train-ne-TRAIN_PLACES : goal.returns-then-train-ne-TRAIN_PLACES
returns-then-train-ne-TRAIN_PLACES c =
    let w = train_wrong _ _ _ _ _ _ _ _ (ne_eqb _ _ c.if-train-ne-TRAIN_PLACES.true) in
    (handed figures_left _ (wrong_sized _ w), train_kept w)

pub returns-then-not-car_fits : goal.returns-then-not-car_fits
returns-then-not-car_fits c =
    let w = train_sized_lem _ _ _ _ _ _ _ _ (eq-eqb _ _ c.if-train-ne-TRAIN_PLACES.false) (sym c.car_fits.ensures ∙ c.if-not-car_fits.true) in
    (handed figures_left _ (wrong_sized _ w), train_kept w)

pub returns-in-Err : goal.returns-in-Err
returns-in-Err c =
    let ts = tables_lent c.args.count c.args.types.now c.args.rows.now c.args.levels.now c.args.capacities.now in
    let car = probe_car_of c.args.car.now (set_of c.args.level c.args.temperature c.args.density) in
    let away = before_away ts (train_of c.args.train.now) (probed car) c.in-Err.ensures in
    let low : (i : ℕ) → get_or c.args.train.now i 0 < half = λ i. omega (arith, c.slice_known-1.given i) in
    let fit = train_sized_lem _ _ _ _ _ _ _ _ (eq-eqb _ _ c.if-train-ne-TRAIN_PLACES.false) (sym c.car_fits.ensures ∙ c.if-not-car_fits.false) in
    rw c.number.ensures (handed figures_left _ (away.0 ∙ right_sized _ fit), train_left c.if-train-ne-TRAIN_PLACES.false low fit away.1)

pub returns : goal.returns
returns c =
    let car = probe_car_of c.args.car.now (set_of c.args.level c.args.temperature c.args.density) in
    let ts = c.tables_of-tables.ensures in
    let e = c.enter_handed_in-answer.ensures in
    let next = e.entered (probed car) c.in-Ok.ensures ∙ ap₂ (λ (us : List Table) (u : Train). enter_train us u (probed car)) ts c.train_of-running.ensures in
    let low : (i : ℕ) → get_or c.args.train.now i 0 < half = λ i. omega (arith, c.slice_known-1.given i) in
    let fit = train_sized_lem _ _ _ _ _ _ _ _ (eq-eqb _ _ c.if-train-ne-TRAIN_PLACES.false) (sym c.car_fits.ensures ∙ c.if-not-car_fits.false) in (
      handed_as c.hand_over.ensures (e.answered (probed car) c.in-Ok.ensures ∙ ap₂ (λ (us : List Table) (u : Train). enter_answer us u (probed car)) ts c.train_of-running.ensures ∙ right_sized _ fit),
      train_handed c.if-train-ne-TRAIN_PLACES.false low fit (c.write_train.ensures.0 ∙ ap train_numbers next) (c.write_train.ensures.1 ∙ next),
    )
