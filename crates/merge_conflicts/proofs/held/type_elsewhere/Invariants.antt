-- `merge_conflicts::type_elsewhere` meets its contract: the cars not yet passed tell of all.
use Rattle.merge_conflicts.proofs.Passing.{Passing}
use Rattle.merge_conflicts.proofs.held.type_elsewhere.Given as goal

abbrev pub invariant-loop-p : goal.invariant-loop-p
invariant-loop-p l = Passing l.first l.second l.fields l.places l.p-index
