-- `merge_conflicts::table_differs` meets its contract: the type is looked for among the tables not yet passed.
use Rattle.merge_conflicts.proofs.Comparing.{Sought}
use Rattle.merge_conflicts.proofs.rows.table_differs.Given as goal

abbrev pub invariant-loop-j : goal.invariant-loop-j
invariant-loop-j l = Sought l.kind l.second l.j
