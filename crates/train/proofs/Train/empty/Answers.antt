-- `Train::empty` meets its contract, and with it the book of every list of cars.
use mathlib.Core.Path.{refl}
use Rattle.consist.proofs.Book.{reconciled}
use Rattle.consist.proofs.AgainstExamples.{book_example, grades_example, strikes_example}
use Rattle.train.proofs.Train.empty.Goals as goal

pub returns : goal.returns
returns c = (refl, reconciled, book_example, grades_example, strikes_example)
