-- `exported_cars::rack_train_strike` meets its contract: the train that was read is the one that was lent.
use Prim.Native.Nat.{ℕ, ◌<◌}
use mathlib.Core.Path.{◌≡◌, sym, ap, ◌∙◌}
use native.Mathlib.Omega.{arith}
use lib.ListN.{get_or}
use borrow.Author.Tests.{eq-eqb}
use Rattle.consist.specs.Train.{Train, strike_answer, strike_train}
use Rattle.base.specs.Refusal.{figure_told}
use Rattle.marshalling.specs.Handed.{length_is, number_handed, sized}
use Rattle.marshalling.proofs.Handed.{right_sized}
use Rattle.trainslice.specs.Layout.{half, train_places, train_of, train_numbers, TrainHanded}
use Rattle.trainslice.proofs.Slice.{train_handed}
use Rattle.exported_cars.proofs.cars.rack_train_strike.Goals as goal
use Rattle.exported_cars.proofs.cars.rack_train_strike.Goals.{After-slice_known-2-1}

told : (n : After-slice_known-2-1) →
    let a = n.args in
    figure_told n.strike-struck.result.answer ≡ sized (length_is train_places a.train.now) (strike_answer (train_of a.train.now) a.number)
told n =
    let a = n.args in
    n.strike-struck.ensures.0 ∙ ap (λ (t : Train). strike_answer t a.number) n.train_of-running.ensures ∙ right_sized _ (eq-eqb _ _ n.if-train-ne-TRAIN_PLACES.false)

handed : (n : After-slice_known-2-1) →
    let a = n.args in
    TrainHanded (length_is train_places a.train.now) (strike_train (train_of a.train.now) a.number) a.train.now n.write_train.new.to
handed n =
    let a = n.args in
    let next = n.strike-struck.ensures.1 ∙ ap (λ (t : Train). strike_train t a.number) n.train_of-running.ensures in
    let low : (i : ℕ) → get_or a.train.now i 0 < half = λ i. omega (arith, n.slice_known-1.given i) in
    train_handed n.if-train-ne-TRAIN_PLACES.false low (eq-eqb _ _ n.if-train-ne-TRAIN_PLACES.false) (n.write_train.ensures.0 ∙ ap train_numbers next) (n.write_train.ensures.1 ∙ next)

pub returns-in-Ok : goal.returns-in-Ok
returns-in-Ok c =
    (ap number_handed (ap figure_told (sym c.in-Ok.is) ∙ told (goal.at.returns-in-Ok c).After-slice_known-2-1), handed (goal.at.returns-in-Ok c).After-slice_known-2-1)

pub returns-in-Err : goal.returns-in-Err
returns-in-Err c =
    (c.number.ensures ∙ ap number_handed (ap figure_told (sym c.in-Err.is) ∙ told (goal.at.returns-in-Err c).After-slice_known-2-1), handed (goal.at.returns-in-Err c).After-slice_known-2-1)
