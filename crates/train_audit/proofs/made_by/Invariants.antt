-- `train_audit::made_by` meets its contract: the sums so far are those of the cars that were passed.
use Rattle.train_audit.proofs.Made.{Made}
use Rattle.train_audit.proofs.made_by.Given as goal

abbrev pub invariant-loop-i : goal.invariant-loop-i
invariant-loop-i l = Made l.cars.held l.cars.grades l.cars.grosses l.cars.nets l.all l.of_grades l.i
