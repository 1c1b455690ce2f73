-- `Train::enter` meets its contract: 7, 8 and 9 first, then `enter_on`; with it distance, filling order and the book.
use mathlib.Core.Path.{◌≡◌}
use mathlib.Core.List.{List}
use Rattle.base.specs.Answer.{Answer}
use Rattle.table.specs.Table.{Table}
use Rattle.table.specs.Layout.{tables_in}
use Rattle.car.specs.Car.{Intake, dipped, measured_of, car_told}
use Rattle.consist.specs.Train.{Train, enter_answer, enter_train}
use Rattle.consist.specs.Book as book
use Rattle.consist.specs.Demand3.{Close, InOrder, Continues}
use Rattle.consist.specs.HandedInExamples.{EnterOrder}
use Rattle.consist.proofs.AgainstExamples.{enter_order}
use Rattle.train.specs.Told.{train_told}
use Rattle.train.proofs.Entered.{entered_close, entered_in_order, entered_continues}
use Rattle.train.proofs.Train.enter.Goals as goal
use Rattle.train.proofs.Train.enter.Goals.{Start}

-- an answer and a train that are the definition's have all that is promised of them
whole : (ts : List Table) (t : Train) (h : Intake) (a : Answer) (next : Train) → (a ≡ enter_answer ts t h) × (next ≡ enter_train ts t h)
    → (a ≡ enter_answer ts t h) × (next ≡ enter_train ts t h) × Close ts (measured_of h) a × InOrder ts (measured_of h) a × Continues t (book.car ts h) a next × EnterOrder
whole ts t h a next (p, q) = (p, q, entered_close ts t h p q, entered_in_order ts t h p q, entered_continues ts t h p q, enter_order)

pub returns : goal.returns
returns c =
    let a = c.args in
    let h = dipped a.car in
    let e = c.enter_handed_in-answer in
    let s = c.dipped.ensures.stands in
    whole (tables_in a.tables.now) (train_told a.self) h (car_told e.result) (train_told e.new.train) (e.ensures.answered h s, e.ensures.entered h s)
