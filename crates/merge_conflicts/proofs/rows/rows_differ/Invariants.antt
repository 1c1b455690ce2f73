-- `merge_conflicts::rows_differ` meets its contract: the tables not yet passed tell of all.
use Prim.Native.Nat.{◌-◌}
use mathlib.Core.Path.{◌≡◌}
use Rattle.table.specs.Layout.{tables_from, tables_in}
use Rattle.merge_spec.specs.Merge.{rows_differ}
use Rattle.merge_conflicts.proofs.rows.rows_differ.Given as goal

abbrev pub invariant-loop-k : goal.invariant-loop-k
invariant-loop-k l =
    rows_differ (tables_in l.first) (tables_in l.second)
    ≡ rows_differ (tables_from l.first.types l.first.rows l.first.levels.now l.first.capacities.now l.k (l.first.count - l.k)) (tables_in l.second)
