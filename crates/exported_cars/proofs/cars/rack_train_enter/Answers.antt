-- `exported_cars::rack_train_enter` meets its contract: the train, the tables and the car that were taken are those that were lent.
use Prim.Native.Nat.{ℕ, ◌<◌}
use mathlib.Core.Path.{sym, ap, ap₂, ◌∙◌}
use mathlib.Core.List.{List}
use native.Mathlib.Omega.{arith}
use lib.ListN.{get_or}
use borrow.Author.Tests.{eq-eqb, ne_eqb}
use Rattle.table.specs.Table.{Table}
use Rattle.car.specs.Car.{car_of, dipped}
use Rattle.consist.specs.Train.{Train, enter_answer, enter_train}
use Rattle.marshalling.specs.Handed.{figures_left}
use Rattle.trainslice.specs.Layout.{half, train_numbers}
use Rattle.marshalling.proofs.Handed.{handed, handed_as, right_sized, wrong_sized}
use Rattle.trainslice.proofs.Slice.{train_handed, train_kept}
use Rattle.trainslice.proofs.Lengths.{train_wrong, train_sized_lem}
use Rattle.exported_cars.proofs.cars.rack_train_enter.Goals as goal

pub returns-then-train-ne-TRAIN_PLACES : goal.returns-then-train-ne-TRAIN_PLACES
returns-then-train-ne-TRAIN_PLACES c =
    let w = train_wrong _ _ _ _ _ _ _ _ (ne_eqb _ _ c.if-train-ne-TRAIN_PLACES.true) in
    (handed figures_left _ (wrong_sized _ w), train_kept w)

pub returns-then-not-car_fits : goal.returns-then-not-car_fits
returns-then-not-car_fits c =
    let w = train_sized_lem _ _ _ _ _ _ _ _ (eq-eqb _ _ c.if-train-ne-TRAIN_PLACES.false) (sym c.car_fits.ensures ∙ c.if-not-car_fits.true) in
    (handed figures_left _ (wrong_sized _ w), train_kept w)

pub returns : goal.returns
returns c =
    let car = dipped (car_of c.args.car.now) in
    let e = c.enter_handed_in-answer.ensures in
    let s = rw c.car_of.ensures at c.dipped.ensures.stands in
    let ts = c.tables_of-tables.ensures in
    let next = e.entered car s ∙ ap₂ (λ (us : List Table) (u : Train). enter_train us u car) ts c.train_of-running.ensures in
    let low : (i : ℕ) → get_or c.args.train.now i 0 < half = λ i. omega (arith, c.slice_known-1.given i) in
    let fit = train_sized_lem _ _ _ _ _ _ _ _ (eq-eqb _ _ c.if-train-ne-TRAIN_PLACES.false) (sym c.car_fits.ensures ∙ c.if-not-car_fits.false) in (
      handed_as c.hand_over.ensures (e.answered car s ∙ ap₂ (λ (us : List Table) (u : Train). enter_answer us u car) ts c.train_of-running.ensures ∙ right_sized _ fit),
      train_handed c.if-train-ne-TRAIN_PLACES.false low fit (c.write_train.ensures.0 ∙ ap train_numbers next) (c.write_train.ensures.1 ∙ next),
    )
