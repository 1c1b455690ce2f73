-- `merge_write::write_cars` meets its contract: each turn writes a car's line.
use Rattle.merge_write.proofs.CarTurns.{CarsLaid}
use Rattle.merge_write.proofs.cars.write_cars.Given as goal

abbrev pub invariant-loop-entry : goal.invariant-loop-entry
invariant-loop-entry l = CarsLaid l.first l.second l.order l.initial.out l.initial.place l.out l.place l.entry-index
