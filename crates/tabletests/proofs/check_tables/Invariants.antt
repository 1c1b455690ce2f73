-- `tabletests::check_tables` meets its contract: the tests of all tables come out as those of the tables not yet passed, behind the types before them.
use Prim.Native.Nat.{◌-◌, ◌≤◌}
use mathlib.Core.Path.{◌≡◌}
use lib.ListN.{take}
use Rattle.base.specs.Answer.{first}
use Rattle.base.specs.Limits.{most_tables}
use Rattle.table.specs.Table.{tables_tests_after, tables_verdict}
use Rattle.table.specs.Layout.{tables_from}
use Rattle.tabletests.proofs.check_tables.Given as goal

abbrev pub invariant-loop-k : goal.invariant-loop-k
invariant-loop-k l =
    (l.k ≤ most_tables)
    × (tables_verdict (tables_from l.tables.types l.tables.rows l.tables.levels.now l.tables.capacities.now 0 l.tables.count)
    ≡ first (tables_tests_after (take l.k l.tables.types) (tables_from l.tables.types l.tables.rows l.tables.levels.now l.tables.capacities.now l.k (l.tables.count - l.k))))
