-- `train::work_out` meets its contract: distance and filling order hold of any answer that a car gets alone.
use mathlib.Core.Path.{◌≡◌}
use mathlib.Core.List.{List}
use Rattle.base.specs.Answer.{Answer}
use Rattle.table.specs.Table.{Table}
use Rattle.table.specs.Layout.{tables_in}
use Rattle.table.specs.TablesCard.{TablesRight}
use Rattle.table.proofs.TablesCard.{tables_right}
use Rattle.car.specs.declared.Car.{Car}
use Rattle.car.specs.Car.{measured, dipped, alone_answer, car_told}
use Rattle.consist.specs.Demand3.{Close, InOrder, alone}
use Rattle.car.specs.Card.{AllRight}
use Rattle.car.specs.OperationsCard.{OperationsRight}
use Rattle.car.specs.ExactCard.{ExactRight}
use Rattle.car.proofs.Card.{all_right}
use Rattle.car.proofs.OperationsCard.{operations_right}
use Rattle.car.proofs.ExactCard.{exact_right}
use Rattle.consist.specs.Examples.{OrderExample}
use Rattle.consist.proofs.AgainstExamples.{order_example}
use Rattle.consist.proofs.Taken.{close}
use Rattle.consist.proofs.Order.{in_order}
use Rattle.train.proofs.alone.work_out.Goals as goal

-- the other clauses from the first
whole : (ts : List Table) (c : Car) (a : Answer) → a ≡ alone_answer ts (dipped c)
    → (a ≡ alone_answer ts (dipped c)) × Close ts (measured c) a × InOrder ts (measured c) a × AllRight × OperationsRight × TablesRight × ExactRight × OrderExample
whole ts c a e =
    let h = dipped c in
    (e, rw e (close ts (measured c) (alone_answer ts h) (alone h)), rw e (in_order ts (measured c) (alone_answer ts h) (alone h)), all_right, operations_right, tables_right, exact_right, order_example)

pub returns : goal.returns
returns c =
    whole (tables_in c.args.tables.now) c.args.car (car_told c.work_handed_in.result) (c.work_handed_in.ensures (dipped c.args.car) c.dipped.ensures.stands)
