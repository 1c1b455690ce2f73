-- What is promised of a car that is entered, dipped or probed, once answer and train are the definition's.
use mathlib.Core.Path.{◌≡◌}
use mathlib.Core.List.{List}
use Rattle.base.specs.Answer.{Answer}
use Rattle.table.specs.Table.{Table}
use Rattle.car.specs.Car.{Intake, measured_of}
use Rattle.consist.specs.Train.{Train, enter_answer, enter_train}
use Rattle.consist.specs.Book as book
use Rattle.consist.specs.Demand3.{Close, InOrder, Continues, entered}
use Rattle.consist.proofs.Taken.{close}
use Rattle.consist.proofs.Order.{in_order}
use Rattle.consist.proofs.Book.{continues}

module _ (ts : List Table) (t : Train) (h : Intake) {a : Answer} {next : Train} (p : a ≡ enter_answer ts t h) (q : next ≡ enter_train ts t h) where
  pub entered_close : Close ts (measured_of h) a
  entered_close = rw p (close ts (measured_of h) (enter_answer ts t h) (entered t h))

  pub entered_in_order : InOrder ts (measured_of h) a
  entered_in_order = rw p (in_order ts (measured_of h) (enter_answer ts t h) (entered t h))

  pub entered_continues : Continues t (book.car ts h) a next
  entered_continues = rw (p, q) (continues t (book.car ts h))

  pub kept : Close ts (measured_of h) a × InOrder ts (measured_of h) a × Continues t (book.car ts h) a next
  kept = (entered_close, entered_in_order, entered_continues)
